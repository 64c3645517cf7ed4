-- A burst drawn from a slot with nothing open is read back. Assumes nothing.
use mathlib.Core.Path.{◌≡◌, refl, ap, ◌∙◌}
use mathlib.Core.Bool.{Bool, true, false, cond}
use mathlib.Core.Option.{none, some}
use Prim.Native.Nat.{ℕ, ◌+◌, ◌-◌, ◌<◌}
use native.Mathlib.Omega.{arith}
use lib.Dec.{ltb}
use Rattle.complex.specs.declared.Complex.{Complex}
use Rattle.complex.specs.Arithmetic.{𝟎, ◌⊕◌}
use Rattle.complex.specs.Buffers.{Values}
use Rattle.complex.proofs.Ring.{𝟎-⊕, ⊕-𝟎}
use Rattle.complex.proofs.Sums.{Σ_𝟎}
use Rattle.codes.specs.Refusals.{gives}
use Rattle.codes.specs.Scrambling.{code_group}
use Rattle.codes.specs.Burst.{burst, burst_start}
use Rattle.slot.specs.Setup.{SyncSetup, Setup}
use Rattle.slot.specs.Slot.{over_codes, channel_chip, data_chip, sync_chip, slot_chip, slot_parts}
use Rattle.slot.proofs.BurstPlace.{burst_whole, without_sync}
use Rattle.read_sync.specs.SyncReading.{candidate_for, read_sync_call}
use Rattle.demands.specs.AcceptedStarts.{AcceptedStart}
use Rattle.demands.specs.Fields.{AreDrawn, chips_from}
use Rattle.demands.specs.Valid.{ValidSync, Valid}
use Rattle.demands.proofs.BurstReadBack.{burst_read_back}
use Rattle.demands.proofs.History.{Good}
use Rattle.demands.proofs.FieldReadings.{in_buffers_cong, drawn_part}

-- with nothing open and no sync a slot is silent
data_silent : (s : Setup) → ((Q k : ℕ) → s.channel Q k ≡ none) → (before q : ℕ) → data_chip s before q ≡ 𝟎
unfolding data_chip channel_chip
data_silent s h before q =
    (λ i. over_codes (λ Q k. channel_chip s.cell before q Q k (h Q k i)))
    ∙ simp (Σ_𝟎, ⊕-𝟎)

silent : (s : Setup) → ((Q k : ℕ) → s.channel Q k ≡ none) → (x : ℕ) → slot_chip (without_sync s) x ≡ 𝟎
unfolding slot_chip sync_chip
silent s h x =
    let t = slot_parts s.type in
    let second = t.field1 + t.midamble in
    either (ltb x t.field1) (both 0 x) (either (ltb x second) refl (either (ltb x (second + t.field2)) (both t.field1 (x - second)) refl))
  where
    either : (b : Bool) {y z : Complex} → y ≡ 𝟎 → z ≡ 𝟎 → cond b y z ≡ 𝟎
    either true p q = p
    either false p q = q

    both : (before q : ℕ) → data_chip (without_sync s) before q ⊕ 𝟎 ≡ 𝟎
    both before q = ⊕-𝟎 _ ∙ data_silent (without_sync s) h before q

pub slot_burst : (slot : AcceptedStart) → Good slot → (y : SyncSetup)
    → (let s = slot.settings in let g = code_group s.cell in let x = burst_start g in
    s.sync ≡ some y → ((Q k : ℕ) → s.channel Q k ≡ none) → AreDrawn slot x 256
    → read_sync_call y.case (chips_from slot x 256).re (chips_from slot x 256).im ≡ gives (candidate_for g y.frame y.half))
slot_burst slot good y e nothing drawn =
    ap (λ (b : Values). read_sync_call y.case b.re b.im) (drawn_part slot v good.in_order x 256 drawn ∙ in_buffers_cong 256 _ _ chip_is)
    ∙ burst_read_back y.case g y.frame y.half y.g_p y.g_s h.case (omega (arith, v.cell)) h.frame_and_half h.P_above_0 h.P_at_most h.S_above_0 h.S_at_most
  where
    s : Setup
    s = slot.settings

    g : ℕ
    g = code_group s.cell

    x : ℕ
    x = burst_start g

    v : Valid s
    v = good.valid

    h : ValidSync s.type y
    h = v.sync y e

    chip_is : (n : ℕ) → n < 256 → slot_chip s (x + n) ≡ burst y.case g y.frame y.half y.g_p y.g_s n
    chip_is n l = burst_whole s y h.type v.cell e n l ∙ ap (λ (z : Complex). z ⊕ burst y.case g y.frame y.half y.g_p y.g_s n) (silent s nothing (x + n)) ∙ 𝟎-⊕ _
