-- A change of the bench's tables is, under `view`, document 01's change of the settings. Assumes nothing.
use mathlib.Core.Path.{◌≡◌, refl, sym, ap, ◌∙◌}
use mathlib.Core.Logic.{◌≢◌}
use mathlib.Core.Bool.{Bool, true, false, ◌&&◌, cond, false≢true}
use mathlib.Core.List.{List, []}
use mathlib.Core.Option.{Option, none, some}
use Prim.Native.Nat.{ℕ, zero, suc, ◌<◌, ◌≤◌}
use native.Mathlib.Decide.{ℕ_discrete}
use native.Mathlib.Omega.{arith}
use borrow.Author.Tests.{eq-eqb, ne_eqb, lt-leb}
use lib.Dec.{eqb}
use lib.ListN.{length, get_or, replicate, length-replicate}
use lib.Seq.{ext_get_or, get_or-set_same, get_or-set_other, set-get_or}
use Rattle.complex.specs.Buffers.{listed}
use Rattle.complex.proofs.Lists.{length_listed, listed_at, listed_cong}
use Rattle.codes.specs.declared.CellParameter.{CellParameter}
use Rattle.codes.specs.Tree.{is_code, related}
use Rattle.modulation.specs.Nodes.{node}
use Rattle.slot.specs.declared.Settings.{Settings}
use Rattle.slot.specs.Setup.{ChannelSetup, Setup, is_some, is_open}
use Rattle.slot.specs.Slot.{bit_count}
use Rattle.slot.specs.View.{held_bit, held_channel, view_sync, view_channel, view}
use Rattle.tables.specs.Bits.{pairs_with_bits}
use Rattle.tables.proofs.Blocks.{IsCode}
use Rattle.bench.specs.BenchCalls.{related_to_open}
use Rattle.bench.specs.Changes as Tables
use Rattle.demands.specs.Reference.{cell_set, with_channel, opened, closed, channel_changed, gain_set, bits_loaded, sync_changed, nothing_open}
use Rattle.demands.proofs.Entries.{code_of, no_code_passes, node_below, same_node, own_bit, other_bit}

-- an open code related to (Q, k) is (Q, k) itself
abbrev pub OnlyItself : Setup → ℕ → ℕ → Type 0
OnlyItself s Q k = (Q' k' : ℕ) → is_open s Q' k' ≡ true → related Q' k' Q k ≡ true → (Q' ≡ Q) × (k' ≡ k)

-- settings that differ in their channels alone are equal where the channels are
abbrev with_channels : Setup → (ℕ → ℕ → Option ChannelSetup) → Setup
with_channels s f = record { cell = s.cell; type = s.type; channel = f; sync = s.sync }

by_channels : (s : Setup) (f g : ℕ → ℕ → Option ChannelSetup) → ((Q k : ℕ) → f Q k ≡ g Q k) → with_channels s f ≡ with_channels s g
by_channels s f g h = λ i. with_channels s (λ Q k. h Q k i)

-- ---- nothing open, and sync
zero_at : (n i : ℕ) → ◌≡◌ {A = ℕ} (get_or (replicate n 0) i 0) 0
zero_at zero i = refl
zero_at (suc n) zero = refl
zero_at (suc n) (suc i) = zero_at n i

none_held : (s : Settings) (Q k : ℕ) → view_channel (Tables.all_closed s) Q k ≡ none
unfolding view_channel
none_held s Q k = rw (zero_at 31 (node Q k)) (either (is_code Q k))
  where
    either : (b : Bool) → ◌≡◌ {A = Option ChannelSetup} (cond b none none) none
    either true = refl
    either false = refl

pub view_nothing_open : (s : Settings) → view (Tables.all_closed s) ≡ nothing_open (view s)
unfolding view
view_nothing_open s = by_channels (view s) _ _ (none_held s)

pub view_cell_set : (p : CellParameter) (t : ℕ) (pairs : List ℕ) → view (Tables.cell_settings p t pairs) ≡ cell_set p.0 t
unfolding view view_sync
view_cell_set p t pairs = view_nothing_open (Tables.cell_settings p t pairs)

pub view_sync_set : (s : Settings) → s.cell.0 < 128 → (case frame half g_p g_s : ℕ)
    → view (Tables.with_sync s (record { on = 1; case = case; frame = frame; half = half; gp = g_p; gs = g_s }))
    ≡ sync_changed (view s) (some (record { case = case; frame = frame; half = half; g_p = g_p; g_s = g_s }))
unfolding view view_channel view_sync
view_sync_set s l case frame half g_p g_s = rw (lt-leb 128 s.cell.0 l)

pub view_sync_cleared : (s : Settings) → view (Tables.with_sync s Tables.no_sync) ≡ sync_changed (view s) none
unfolding view view_channel view_sync
view_sync_cleared s = refl

-- ---- what a code holds
-- bits are not seen where the gain is 0
same_held : (g : ℕ) (a b : List ℕ) → (is_some (held_channel g b) ≡ true → a ≡ b) → held_channel g a ≡ held_channel g b
same_held zero a b h = refl
same_held (suc g) a b h = ap (held_channel (suc g)) (h refl)

some_held : (g : ℕ) (bits : List ℕ) → g ≢ 0 → held_channel g bits ≡ some (record { gain = g; bits = bits })
some_held zero bits d = absurd (d refl)
some_held (suc g) bits d = refl

regained : (old g : ℕ) (bits : List ℕ) → g ≢ 0 → is_some (held_channel old bits) ≡ true
    → held_channel g bits ≡ channel_changed (λ c. record { gain = g; bits = c.bits }) (held_channel old bits)
regained zero g bits d o = absurd (false≢true o)
regained (suc old) g bits d o = some_held g bits d

reloaded : (g : ℕ) (old bits : List ℕ) → held_channel g bits ≡ channel_changed (λ c. record { gain = c.gain; bits = bits }) (held_channel g old)
reloaded zero old bits = refl
reloaded (suc g) old bits = refl

-- what is open is a code
open_is_code : (s : Settings) (Q k : ℕ) → is_open (view s) Q k ≡ true → IsCode Q k
unfolding view view_channel
open_is_code s Q k o = go (is_code Q k) refl
  where
    go : (b : Bool) → is_code Q k ≡ b → IsCode Q k
    go true e = code_of Q k e
    go false e = absurd (false≢true (rw e at o))

-- a list is known by its length and its entries
all_listed : (n : ℕ) (f : ℕ → ℕ) (l : List ℕ) → length l ≡ n → ((i : ℕ) → i < n → f i ≡ get_or l i 0) → listed n f ≡ l
all_listed n f l e h =
    ext_get_or 0 (listed n f) l (length_listed f n ∙ sym e)
    (λ i m. let m' : i < n = rw (length_listed f n) at m in listed_at f 0 n i m' ∙ h i m')

-- ---- one code changed
module _ (s : Settings) (gains : length s.gains ≡ 31) (Q k : ℕ) (c : is_code Q k ≡ true) where
  own : IsCode Q k
  own = code_of Q k c

  abbrev Other : ℕ → ℕ → Type 0
  Other Q' k' = (Q' ≡ Q) × (k' ≡ k) → ⊥

  -- the bits that the pairs hold of a code
  abbrev bits_in : List ℕ → ℕ → ℕ → List ℕ
  bits_in pairs Q k = listed (bit_count s.kind Q) (held_bit pairs Q k)

  -- code (Q, k) has gain g, and these are the pairs
  abbrev changed_settings : ℕ → List ℕ → Settings
  changed_settings g pairs = Tables.with_pairs (Tables.with_gain s Q k g) pairs

  own_channel : (g : ℕ) (pairs : List ℕ) → view_channel (changed_settings g pairs) Q k ≡ held_channel g (bits_in pairs Q k)
  unfolding view_channel
  own_channel g pairs = rw (c, get_or-set_same s.gains (node Q k) g 0 (omega (arith, node_below Q k own)))

  -- the bits of every other open code stay
  abbrev OthersStay : List ℕ → Type 0
  OthersStay pairs = (Q' k' : ℕ) → Other Q' k' → is_open (view s) Q' k' ≡ true → bits_in pairs Q' k' ≡ bits_in s.pairs Q' k'

  other_channel : (g : ℕ) (pairs : List ℕ) → OthersStay pairs → (Q' k' : ℕ) → Other Q' k' → view_channel (changed_settings g pairs) Q' k' ≡ view_channel s Q' k'
  unfolding view view_channel
  other_channel g pairs h Q' k' d = go (is_code Q' k') refl
    where
      go : (b : Bool) → is_code Q' k' ≡ b → view_channel (changed_settings g pairs) Q' k' ≡ view_channel s Q' k'
      go false e = rw e
      go true e =
          let n = get_or-set_other s.gains (node Q k) (node Q' k') g 0 (λ m. d (same_node Q k Q' k' own (code_of Q' k' e) m)) in
          rw (e, n) (same_held (get_or s.gains (node Q' k') 0) (bits_in pairs Q' k') (bits_in s.pairs Q' k') (rw e at (h Q' k' d)))

  changed_to : (g : ℕ) (pairs : List ℕ) (new : Option ChannelSetup) → held_channel g (bits_in pairs Q k) ≡ new → OthersStay pairs
      → view (changed_settings g pairs) ≡ with_channel (view s) Q k new
  unfolding view with_channel
  changed_to g pairs new e h = by_channels (view s) _ _ (λ Q' k'. go Q' k' (ℕ_discrete Q' Q) (ℕ_discrete k' k))
    where
      go : (Q' k' : ℕ) → Dec (Q' ≡ Q) → Dec (k' ≡ k) → view_channel (changed_settings g pairs) Q' k' ≡ cond (eqb Q' Q && eqb k' k) new (view_channel s Q' k')
      go Q' k' (yes p) (yes q) = rw (eq-eqb Q' Q p, eq-eqb k' k q, p, q) (own_channel g pairs ∙ e)
      go Q' k' (yes p) (no q) = rw (eq-eqb Q' Q p, ne_eqb k' k q) (other_channel g pairs h Q' k' (λ r. q r.1))
      go Q' k' (no p) d = rw (ne_eqb Q' Q p) (other_channel g pairs h Q' k' (λ r. p r.0))

  -- the bits written for the code are its own
  own_bits : (bits new : List ℕ) → ((i : ℕ) → get_or bits i 0 ≤ 1) → length new ≡ bit_count s.kind Q
      → ((i : ℕ) → i < bit_count s.kind Q → get_or bits i 0 ≡ get_or new i 0) → bits_in (pairs_with_bits s.pairs Q k bits) Q k ≡ new
  own_bits bits new b l h =
      all_listed (bit_count s.kind Q) _ new l (λ i m. own_bit s.pairs Q k own bits s.kind i b m ∙ h i m)

  -- and not those of others, which are unrelated
  others_stay : (bits : List ℕ) → ((Q' k' : ℕ) → Other Q' k' → is_open (view s) Q' k' ≡ true → related Q' k' Q k ≡ false)
      → OthersStay (pairs_with_bits s.pairs Q k bits)
  others_stay bits h Q' k' d o =
      listed_cong (bit_count s.kind Q') _ _
      (λ i l. other_bit s.pairs Q k own bits s.kind i Q' k' (open_is_code s Q' k' o) (h Q' k' d o) l)

  pub view_opened : (g : ℕ) → g ≢ 0 → related_to_open (view s) Q k ≡ false → view (Tables.with_bits (Tables.with_gain s Q k g) Q k []) ≡ opened (view s) Q k g
  unfolding view
  view_opened g d r =
      let n = bit_count s.kind Q in
      changed_to g (pairs_with_bits s.pairs Q k []) _
      (ap (held_channel g) (own_bits [] (replicate n 0) (λ i. omega arith) (length-replicate n 0) (λ i _. sym (zero_at n i))) ∙ some_held g _ d)
      (others_stay [] (λ Q' k' _ o. rw o at (no_code_passes (λ Q' k'. is_open (view s) Q' k' && related Q' k' Q k) r Q' k' (open_is_code s Q' k' o))))

  pub view_closed : view (Tables.with_gain s Q k 0) ≡ closed (view s) Q k
  view_closed = changed_to 0 s.pairs none refl (λ Q' k' d o. refl)

  pub view_gain_set : (g : ℕ) → g ≢ 0 → is_open (view s) Q k ≡ true → view (Tables.with_gain s Q k g) ≡ gain_set (view s) Q k g
  unfolding view view_channel
  view_gain_set g d o = changed_to g s.pairs _ (rw c (regained (get_or s.gains (node Q k) 0) g _ d (rw c at o))) (λ Q' k' d o. refl)

  pub view_bits_loaded : (bits : List ℕ) → is_open (view s) Q k ≡ true → OnlyItself (view s) Q k → length bits ≡ bit_count s.kind Q
      → ((i : ℕ) → get_or bits i 0 ≤ 1) → view (Tables.with_bits s Q k bits) ≡ bits_loaded (view s) Q k bits
  unfolding view view_channel
  view_bits_loaded bits o u l b =
      let new = pairs_with_bits s.pairs Q k bits in
      let g = get_or s.gains (node Q k) 0 in
      sym (ap (λ (gains : List ℕ). view (Tables.with_pairs (Tables.with_gains s gains) new)) (set-get_or s.gains (node Q k) 0))
      ∙ changed_to g new _ (ap (held_channel g) (own_bits bits bits b l (λ i _. refl)) ∙ rw c (reloaded g _ bits))
      (others_stay bits (λ Q' k' d o'. unrelated (related Q' k' Q k) (λ r. d (u Q' k' o' r))))
    where
      unrelated : (t : Bool) → (t ≡ true → ⊥) → t ≡ false
      unrelated true d = absurd (d refl)
      unrelated false d = refl
