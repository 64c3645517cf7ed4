-- What read gives for a field drawn whole: a code's own readings, zeros, and what a burst adds. Assumes nothing.
use mathlib.Core.Path.{◌≡◌, sym, ap, ap₂, ◌∙◌}
use mathlib.Core.Bool.{true, false, ◌&&◌}
use mathlib.Core.Option.{none, some}
use Prim.Native.Nat.{ℕ, ◌+◌, ◌<◌}
use borrow.Author.Tests.{not-true}
use lib.Dec.{lit≤}
use lib.ListN.{length}
use Rattle.complex.specs.declared.Complex.{Complex}
use Rattle.complex.specs.Arithmetic.{𝟎, ◌⊕◌}
use Rattle.complex.specs.Buffers.{Values, in_buffers}
use Rattle.complex.proofs.Components.{both_more}
use Rattle.complex.proofs.Lists.{value_in_buffers}
use Rattle.complex.proofs.Ring.{⊕-𝟎}
use Rattle.complex.proofs.Sizes.{within_more}
use Rattle.codes.specs.Refusals.{gives}
use Rattle.codes.specs.Tree.{is_code, related}
use Rattle.slot.specs.Setup.{ChannelSetup, Setup, is_some, is_open}
use Rattle.slot.specs.Slot.{data_chip, sync_chip, slot_chip}
use Rattle.analyser_parts.specs.Components.{outside}
use Rattle.analyser_parts.proofs.Ranges.{none_outside}
use Rattle.orthogonality.proofs.Unrelated.{Free}
use Rattle.orthogonality.proofs.DataReadings.{own_data, unrelated_data}
use Rattle.demands.specs.Reference.{sync_changed}
use Rattle.demands.specs.AcceptedStarts.{AcceptedStart}
use Rattle.demands.specs.Fields.{Field, field_length, field_start, chips_before, DrawnWhole, drawn_field, reading_count, Suffice, symbol_readings, unrelated, zero_readings, no_burst, burst_field, quiet_field, added}
use Rattle.demands.specs.Valid.{Valid}
use Rattle.demands.proofs.Entries.{code_of, no_code_passes}
use Rattle.demands.proofs.Valid.{sync_cleared_valid}
use Rattle.demands.proofs.History.{Good}
use Rattle.demands.proofs.FieldChips.{readable, field_sync, chip_in_field, sync_within, chip_within}
use Rattle.demands.proofs.FieldReadings.{in_buffers_cong, silent_reading, field_cong, read_gives, quiet_chip, read_of, of_data, of_burst, reads}

-- ---- what the data of a field reads
module _ (s : Setup) (v : Valid s) (f : Field) (Q k : ℕ) where
  is_code_of : (c : ChannelSetup) → s.channel Q k ≡ some c → is_code Q k ≡ true
  is_code_of c e = v.code Q k (ap is_some e)

  pub own_of_data : (c : ChannelSetup) → s.channel Q k ≡ some c → in_buffers (reading_count s f Q) (of_data s f Q k) ≡ symbol_readings s f Q c
  own_of_data c e =
      in_buffers_cong (reading_count s f Q) _ _
      (λ n l. own_data s v.cell (chips_before s f) Q k (is_code_of c e) c e (λ Q' k' c' o r. v.apart Q k Q' k' (ap is_some e) o r) n)

  free : unrelated s Q k ≡ true → Free s Q k
  free e Q' k' c o = rw o at (no_code_passes (λ Q' k'. is_open s Q' k' && related Q' k' Q k) (not-true _ e) Q' k' (code_of Q' k' c))

  pub zero_of_data : is_code Q k ≡ true → unrelated s Q k ≡ true → in_buffers (reading_count s f Q) (of_data s f Q k) ≡ zero_readings s f Q
  zero_of_data c e = in_buffers_cong (reading_count s f Q) _ _ (λ n l. unrelated_data s (chips_before s f) Q k c (free e) n)

  -- a burst that does not fall into the field adds nothing
  no_burst_reading : no_burst s (field_start s f) (field_length s f) ≡ true → (n : ℕ) → n < reading_count s f Q → of_data s f Q k n ⊕ of_burst s f Q k n ≡ of_data s f Q k n
  no_burst_reading e n l =
      ap (λ (z : Complex). of_data s f Q k n ⊕ z)
      (field_cong s.cell Q k (field_length s f) _ (λ q. 𝟎)
      (quiet_chip s (field_start s f) (field_length s f) e) n l
      ∙ silent_reading s.cell Q k n)
      ∙ ⊕-𝟎 (of_data s f Q k n)

-- ---- what read gives for a field
-- without sync, and for the burst alone: the two parts of what it gives for the field as drawn
module _ (s : Setup) (v : Valid s) (f : Field) (Q k : ℕ) (c : is_code Q k ≡ true) (out : Values) (w : Suffice s f Q out) where
  pub quiet_reads : read_of s Q k (quiet_field s f) out ≡ gives (in_buffers (reading_count s f Q) (of_data s f Q k))
  unfolding data_chip sync_chip
  quiet_reads =
      read_gives s.cell Q k (field_length s f) (λ q. slot_chip (sync_changed s none) (field_start s f + q)) v.cell c (readable s v.type f)
      (λ q l. chip_within (sync_changed s none) (sync_cleared_valid s v) _) (length out.re) (length out.im) w.re w.im
      ∙ ap gives (in_buffers_cong (reading_count s f Q) _ _
      (field_cong s.cell Q k (field_length s f) _ _ (λ q l. chip_in_field (sync_changed s none) f q l ∙ ⊕-𝟎 (data_chip s (chips_before s f) q))))

  pub burst_reads : read_of s Q k (burst_field s f) out ≡ gives (in_buffers (reading_count s f Q) (of_burst s f Q k))
  burst_reads =
      read_gives s.cell Q k (field_length s f) (field_sync s f) v.cell c (readable s v.type f)
      (λ q l. both_more (sync_within s v _) 94185 (lit≤ tt)) (length out.re) (length out.im) w.re w.im

module _ (slot : AcceptedStart) (g : Good slot) where
  abbrev s : Setup
  s = slot.settings

  -- no component of a chip is outside -100000 to 100000
  pub none_too_large : (outside slot.chips.re ≡ false) × (outside slot.chips.im ≡ false)
  none_too_large =
      let o = g.in_order in (
        ap (λ (w : Values). outside w.re) o.chips ∙ none_outside o.count (λ x. (slot_chip s x).re) (λ x l. within_more (chip_within s g.valid x).re _ (lit≤ tt)),
        ap (λ (w : Values). outside w.im) o.chips ∙ none_outside o.count (λ x. (slot_chip s x).im) (λ x l. within_more (chip_within s g.valid x).im _ (lit≤ tt)),
      )

  module _ (f : Field) (whole : DrawnWhole slot f) (Q k : ℕ) (out : Values) (w : Suffice s f Q out) where
    data_reads : is_code Q k ≡ true → no_burst s (field_start s f) (field_length s f) ≡ true
        → read_of s Q k (drawn_field slot f) out ≡ gives (in_buffers (reading_count s f Q) (of_data s f Q k))
    data_reads c e =
        reads slot g.valid g.in_order f Q k c whole out w
        ∙ ap gives (in_buffers_cong (reading_count s f Q) _ _ (no_burst_reading s g.valid f Q k e))

    pub own_reads : (c : ChannelSetup) → s.channel Q k ≡ some c → no_burst s (field_start s f) (field_length s f) ≡ true
        → read_of s Q k (drawn_field slot f) out ≡ gives (symbol_readings s f Q c)
    own_reads c e n = data_reads (is_code_of s g.valid f Q k c e) n ∙ ap gives (own_of_data s g.valid f Q k c e)

    pub zero_reads : is_code Q k ≡ true → unrelated s Q k ≡ true → no_burst s (field_start s f) (field_length s f) ≡ true
        → read_of s Q k (drawn_field slot f) out ≡ gives (zero_readings s f Q)
    zero_reads c e n = data_reads c n ∙ ap gives (zero_of_data s g.valid f Q k c e)

    pub sum_reads : is_code Q k ≡ true
        → (let N = reading_count s f Q in read_of s Q k (drawn_field slot f) out ≡ gives (added N (in_buffers N (of_data s f Q k)) (in_buffers N (of_burst s f Q k))))
    sum_reads c =
        let N = reading_count s f Q in
        reads slot g.valid g.in_order f Q k c whole out w
        ∙ ap gives (in_buffers_cong N _ _ (λ n l. sym (ap₂ ◌⊕◌ (value_in_buffers N (of_data s f Q k) n l) (value_in_buffers N (of_burst s f Q k) n l))))
