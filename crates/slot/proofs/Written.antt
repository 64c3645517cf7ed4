-- The chips of a slot as `write` makes them: the two halves, each up to its cut. Assumes nothing.
use mathlib.Core.Path.{◌≡◌, sym, subst, ap, ◌∙◌}
use mathlib.Core.Bool.{cond}
use mathlib.Core.List.{List}
use Prim.Native.Nat.{ℕ, ◌+◌, ◌-◌, ◌<◌, ◌≤◌}
use native.Mathlib.Omega.{arith}
use lib.Dec.{ltb}
use Rattle.complex.specs.Buffers.{block_of}
use Rattle.complex.specs.declared.Complex.{Complex}
use Rattle.complex.specs.Arithmetic.{𝟎}
use Rattle.complex.specs.declared.Block.{Block}
use Rattle.modulation.specs.SixteenChips.{scrambling_signs}
use Rattle.slot.specs.declared.Settings.{Settings}
use Rattle.slot.specs.declared.parts.Parts.{Parts}
use Rattle.slot.specs.Slot.{data_chip_count, slot_parts, slot_chip}
use Rattle.slot.specs.View.{view}
use Rattle.slot.specs.FieldBlocks.{chip_by_blocks}
use Rattle.slot.proofs.FieldBlocks.{half_is}
use Rattle.slot.proofs.Halves.{Cuts, first_inside, second_inside, first_half, second_half}
use Rattle.slot.proofs.Lengths.{Lengths, lengths_of}

pub lengths : (kind : ℕ) {p : Parts} → p ≡ slot_parts kind → Lengths p
lengths kind e = subst Lengths (sym e) (lengths_of kind)

-- n chips from `from` on are written, the first half's field up to a, that half up to b, and the second half's field up to c
module _ (s : Settings) {p : Parts} {from n a b c : ℕ} (parts : p ≡ slot_parts s.kind) (cuts : Cuts p from n a b c) where
  chips_of : p.field1 + p.field2 ≡ data_chip_count s.kind
  chips_of = ap (λ (p : Parts). p.field1 + p.field2) parts

  pub in_pairs : data_chip_count s.kind ≤ 2208
  in_pairs = (lengths_of s.kind).pairs

  -- the two fields' chips lie among the data chips
  pub first_data : 0 < a → 0 + from + a ≤ data_chip_count s.kind
  first_data l = omega (arith, first_inside cuts l, chips_of)

  pub second_data : 0 < c - b → p.field1 + (from - (p.field1 + p.midamble)) + (c - b) ≤ data_chip_count s.kind
  second_data l = omega (arith, second_inside cuts l, chips_of)

  module _ {gains pairs : List ℕ} {signs : Block} (tables : (gains ≡ s.gains) × (pairs ≡ s.pairs)) (rows : signs ≡ block_of (scrambling_signs s.cell.0)) where
    -- the chips of the slot, and of each half as `write_half` has them
    abbrev pub at : ℕ → Complex
    at i = slot_chip (view s) (from + i)

    abbrev half : ℕ → ℕ → ℕ → ℕ → ℕ → Complex
    half before start q count i = cond (ltb i count) (chip_by_blocks gains pairs s.cell.0 s.sync signs.re signs.im before start (q + i)) 𝟎

    abbrev pub one : ℕ → Complex
    one = half 0 0 from a

    abbrev pub two : ℕ → ℕ → Complex
    two q = half p.field1 (p.field1 + p.midamble) q (c - b)

    -- with the tables of the settings
    lent : (before start q count i : ℕ) → half before start q count i ≡ cond (ltb i count) (chip_by_blocks s.gains s.pairs s.cell.0 s.sync signs.re signs.im before start (q + i)) 𝟎
    lent before start q count i = λ j. cond (ltb i count) (chip_by_blocks (tables.0 j) (tables.1 j) s.cell.0 s.sync signs.re signs.im before start (q + i)) 𝟎

    pub in_one : (i : ℕ) → i < b → one i ≡ at i
    unfolding view
    in_one i l =
        lent 0 0 from a i
        ∙ half_is s 0 0 from _ (ap (λ (b : Block). b.re) rows) (ap (λ (b : Block). b.im) rows) (omega arith) first_data i
        ∙ first_half cuts (view s) parts i l

    pub in_two : (q : ℕ) → q ≡ from - (p.field1 + p.midamble) → (i : ℕ) → b + i < n → two q i ≡ at (b + i)
    unfolding view
    in_two q e i l =
        lent p.field1 (p.field1 + p.midamble) q (c - b) i
        ∙ half_is s p.field1 (p.field1 + p.midamble) q _ (ap (λ (b : Block). b.re) rows) (ap (λ (b : Block). b.im) rows) (lengths s.kind parts).first
        (λ m. rw e (second_data m)) i
        ∙ second_half cuts (view s) parts i q e l
