-- The power of 16 data chips of a slot. Assumes nothing.
use mathlib.Core.Path.{◌≡◌, sym, ap, ◌∙◌}
use mathlib.Core.Bool.{true}
use Prim.Native.Nat.{ℕ, ◌+◌, ◌*◌, ◌≤◌, ◌<◌}
use native.Mathlib.Omega.{arith}
use Rattle.complex.specs.declared.Complex.{Complex}
use Rattle.complex.specs.Arithmetic.{squared_size, ◌⊕◌}
use Rattle.complex.specs.Buffers.{value}
use Rattle.complex.proofs.Ring.{⊕-𝟎}
use Rattle.complex.proofs.Sums.{Σℤ_cong}
use Rattle.slot.specs.Setup.{Setup}
use Rattle.slot.specs.Slot.{data_chip, sync_chip, slot_chip}
use Rattle.demands.specs.AcceptedStarts.{AcceptedStart}
use Rattle.demands.specs.Fields.{Field, field_length, field_start, chips_before, AreDrawn, no_burst, power_of_16_chips, power_due}
use Rattle.demands.specs.Valid.{Valid}
use Rattle.demands.proofs.History.{Good}
use Rattle.demands.proofs.FieldChips.{chip_in_field, unrelated}
use Rattle.demands.proofs.FieldReadings.{quiet_chip, drawn_chip}
use Rattle.orthogonality.proofs.DataPower.{data_power}

-- The 16 chips from chip 16m of a field on, all drawn, no burst chip among them; the field need not be drawn whole.
pub slot_power : (slot : AcceptedStart) → Good slot → (f : Field) (m : ℕ)
    → (let s = slot.settings in 16 * m + 16 ≤ field_length s f → AreDrawn slot (field_start s f + 16 * m) 16
    → no_burst s (field_start s f + 16 * m) 16 ≡ true → power_of_16_chips slot (field_start s f + 16 * m) ≡ power_due s)
slot_power slot g f m inside drawn quiet =
    Σℤ_cong 16 _ _ (λ n l. ap squared_size (chip_is n l))
    ∙ data_power s v.cell (unrelated s v) (λ Q k c t e. (v.channel Q k c e).bit) (chips_before s f) m
  where
    s : Setup
    s = slot.settings

    v : Valid s
    v = g.valid

    chip_is : (n : ℕ) → n < 16 → value slot.chips.re slot.chips.im (field_start s f + 16 * m + n) ≡ data_chip s (chips_before s f) (m * 16 + n)
    chip_is n l =
        let x = field_start s f + 16 * m in
        let e : x + n ≡ field_start s f + (m * 16 + n) = omega arith in
        drawn_chip slot v g.in_order (x + n) (omega arith)
        ∙ ap (slot_chip s) e
        ∙ chip_in_field s f (m * 16 + n) (omega arith)
        ∙ ap (λ (z : Complex). data_chip s (chips_before s f) (m * 16 + n) ⊕ z)
        (ap (sync_chip s.cell s.sync) (sym e) ∙ quiet_chip s x 16 quiet n l)
        ∙ ⊕-𝟎 _
