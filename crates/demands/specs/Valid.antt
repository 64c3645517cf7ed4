-- The settings that a bench can have: no list of calls leaves others (`bench_valid`, `slot_valid`). Nothing here is a rule of its own: each line is what
-- the refusals of document 01's calls let pass.
use Rattle.std.specs.Prelude.{◌≡◌, true, false, [], ◌∷◌, ℕ, ◌≤◌, ◌<◌, T, length, get_or}
use Rattle.std.proofs.Math.Option.{some}
use Rattle.codes.specs.Tree.{among, is_code, related}
use Rattle.codes.specs.Allocation.{one_or_two, bad_frame_or_half}
use Rattle.slot.specs.Setup.{ChannelSetup, SyncSetup, Setup, is_some, is_open}
use Rattle.slot.specs.Slot.{slot_length, bit_count}
use Rattle.demands.specs.Reference.{Reference}

-- an open code's gain and bits in burst type t: the gain is 1 to 4095, there are "2(F1+F2)/Q bits", and each is 0 or 1
pub record ValidChannel (t Q : ℕ) (c : ChannelSetup) : Type 0 where
  pub above_0 : 1 ≤ c.gain
  pub at_most : c.gain ≤ 4095
  pub count : length c.bits ≡ bit_count t Q
  pub bit : (i : ℕ) → get_or c.bits i 0 ≤ 1

-- a sync burst in burst type t: what set sync does not refuse
pub record ValidSync (t : ℕ) (y : SyncSetup) : Type 0 where
  pub type : t ≡ 1
  pub case : T (one_or_two y.case)
  pub frame_and_half : bad_frame_or_half y.case y.frame y.half ≡ false
  pub P_above_0 : 1 ≤ y.g_p
  pub P_at_most : y.g_p ≤ 4095
  pub S_above_0 : 1 ≤ y.g_s
  pub S_at_most : y.g_s ≤ 4095

pub record Valid (s : Setup) : Type 0 where
  pub cell : s.cell < 128
  pub type : among s.type (1 ∷ 2 ∷ 3 ∷ []) ≡ true
  pub code : (Q k : ℕ) → is_open s Q k ≡ true → is_code Q k ≡ true
  pub apart : (Q k Q' k' : ℕ) → is_open s Q k ≡ true → is_open s Q' k' ≡ true → related Q' k' Q k ≡ true → (Q' ≡ Q) × (k' ≡ k)
  pub channel : (Q k : ℕ) (c : ChannelSetup) → s.channel Q k ≡ some c → ValidChannel s.type Q c
  pub sync : (y : SyncSetup) → s.sync ≡ some y → ValidSync s.type y

-- ---- the reference model: chips are left while there is a copy
pub record ValidReference (r : Reference) : Type 0 where
  pub settings : Valid r.settings
  pub sending : (s : Setup) → r.sending ≡ some s → Valid s
  pub at_most : r.sent ≤ slot_length
  pub below : is_some r.sending ≡ true → r.sent < slot_length
