-- The chips that a block of sixteen holds, with the burst's, and that they are the field's. Assumes nothing.
use mathlib.Core.Path.{◌≡◌, sym, ap, ap₂, ◌∙◌}
use mathlib.Core.Bool.{true, false, cond}
use mathlib.Core.List.{List}
use Prim.Native.Nat.{ℕ, ◌+◌, ◌-◌, ◌%◌, ◌<◌, ◌≤◌}
use native.Mathlib.Decide.{dec_le}
use native.Mathlib.Nat.{lt_of_not-le}
use native.Mathlib.Omega.{arith}
use borrow.Author.Tests.{lt-ltb, le-ltb}
use lib.Dec.{ltb}
use lib.IntN.{ℤ, pos, ◌+ℤ◌}
use lib.ListN.{get_or}
use Rattle.complex.specs.Arithmetic.{𝟎, ◌⊕◌, ◌⊗◌}
use Rattle.complex.specs.declared.Complex.{Complex}
use Rattle.complex.specs.Buffers.{block_of, listed, value}
use Rattle.complex.proofs.Lists.{value_in_buffers, listed_at, listed_cong}
use Rattle.complex.proofs.Ring.{⊕-𝟎}
use Rattle.codes.specs.Scrambling.{scrambling_element}
use Rattle.complex.specs.declared.Block.{Block}
use Rattle.modulation.specs.SixteenChips.{scrambling_signs, summed_component, block_chip}
use Rattle.modulation.proofs.ScramblingSigns.{scrambled_chip}
use Rattle.slot.specs.declared.Settings.{Settings}
use Rattle.slot.specs.Slot.{data_chip_count, data_chip, sync_chip, field_chip}
use Rattle.slot.specs.View.{view, view_sync}
use Rattle.slot.specs.FieldBlocks.{chip_by_blocks}
use Rattle.slot.proofs.Viewed.{symbols_from, summed_chip, data_is}

-- ---- one component of the chips of a block f and of a burst b
module _ (part : Complex → ℤ) (f : ℕ → Complex) where
  -- summed entry by entry
  pub sums_are : ((z w : Complex) → part z +ℤ part w ≡ part (z ⊕ w)) → (b : ℕ → Complex) (c d : List ℤ) {x : List ℤ} → x ≡ listed 16 (λ i. get_or c i (pos 0) +ℤ get_or d i (pos 0)) → c ≡ listed 16 (λ i. part (f i))
      → ((i : ℕ) → get_or d i (pos 0) ≡ part (b i)) → x ≡ listed 16 (λ i. part (f i ⊕ b i))
  sums_are add b c d e g h =
      e ∙ listed_cong 16 _ _ (λ i l. ap (λ (c : List ℤ). get_or c i (pos 0) +ℤ get_or d i (pos 0)) g ∙ ap₂ ◌+ℤ◌ (listed_at (λ i. part (f i)) (pos 0) 16 i l) (h i) ∙ add (f i) (b i))

  -- of a whole block where there is no burst
  pub whole_chips : (s : ℕ → Complex) (n i : ℕ) {ys : List ℤ} → n ≡ 16 → i + n ≤ 16 → ((k : ℕ) → k < 16 → s k ≡ 𝟎) → ys ≡ listed 16 (λ k. part (f k))
      → ys ≡ listed n (λ j. part (f (i + j) ⊕ s (i + j)))
  whole_chips s n i e h z q =
      let first : i ≡ 0 = omega arith in
      q
      ∙ ap (λ (n : ℕ). listed n (λ k. part (f k))) (sym e)
      ∙ listed_cong n _ _ (λ j l. let k : i + j ≡ j = omega arith in ap part (sym (ap₂ (λ (m : ℕ) (w : Complex). f m ⊕ w) k (z (i + j) (omega arith)) ∙ ⊕-𝟎 (f j))))

  -- of part of a block whose burst's chips stand in a block r
  pub part_chips : (s : ℕ → Complex) (n i : ℕ) {r : Block} {ys : List ℤ} → r ≡ block_of s → i + n ≤ 16
      → ys ≡ listed n (λ j. part (f (i + j) ⊕ value r.re r.im (i + j))) → ys ≡ listed n (λ j. part (f (i + j) ⊕ s (i + j)))
  part_chips s n i e h q =
      q ∙ listed_cong n _ _ (λ j l. ap (λ (w : Complex). part (f (i + j) ⊕ w)) (ap (λ (r : Block). value r.re r.im (i + j)) e ∙ value_in_buffers 16 s (i + j) (omega arith)))

-- ---- a chip made of the pairs from before + first on, scrambled by the cell's signs, is the field's
module _ (s : Settings) (before start q : ℕ) {t u : List ℤ} (t_is : t ≡ listed 16 (λ i. (scrambling_signs s.cell.0 i).re)) (u_is : u ≡ listed 16 (λ i. (scrambling_signs s.cell.0 i).im)) where
  abbrev first : ℕ
  first = q - q % 16

  scrambled : block_chip s.gains s.pairs (before + first) t u (q % 16)
      ≡ summed_chip s.gains (symbols_from s (before + first)) (q % 16) ⊗ scrambling_element s.cell.0 (q % 16 + 1)
  scrambled =
      let x = summed_component s.gains s.pairs (before + first) true in
      let y = summed_component s.gains s.pairs (before + first) false in
      let l : q % 16 < 16 = omega arith in
      ap₂ (λ (t u : List ℤ). block_chip s.gains s.pairs (before + first) t u (q % 16)) t_is u_is
      ∙ scrambled_chip s.cell.0 x y (q % 16) l
      ∙ ap (λ (z : Complex). z ⊗ scrambling_element s.cell.0 (q % 16 + 1)) (value_in_buffers 16 (summed_chip s.gains (symbols_from s (before + first))) (q % 16) l)

  blocks_are : before % 16 ≡ 0 → before + q < data_chip_count s.kind → chip_by_blocks s.gains s.pairs s.cell.0 s.sync t u before start q ≡ field_chip (view s) before start q
  unfolding view
  blocks_are p d =
      let e : first + q % 16 ≡ q = omega arith in
      ap (λ (z : Complex). z ⊕ sync_chip s.cell.0 (view_sync s.cell.0 s.sync) (start + q))
      (scrambled ∙ sym (data_is s before first (q % 16) p (omega arith) (omega arith) (omega arith)) ∙ ap (data_chip (view s) before) e)

-- and so are a half's first a chips
pub half_is : (s : Settings) (before start q a : ℕ) {t u : List ℤ} → t ≡ listed 16 (λ i. (scrambling_signs s.cell.0 i).re) → u ≡ listed 16 (λ i. (scrambling_signs s.cell.0 i).im)
    → before % 16 ≡ 0 → (0 < a → before + q + a ≤ data_chip_count s.kind) → (i : ℕ)
    → cond (ltb i a) (chip_by_blocks s.gains s.pairs s.cell.0 s.sync t u before start (q + i)) 𝟎 ≡ cond (ltb i a) (field_chip (view s) before start (q + i)) 𝟎
half_is s before start q a {t} {u} t_is u_is p d i = go (dec_le a i)
  where
    go : Dec (a ≤ i) → cond (ltb i a) (chip_by_blocks s.gains s.pairs s.cell.0 s.sync t u before start (q + i)) 𝟎 ≡ cond (ltb i a) (field_chip (view s) before start (q + i)) 𝟎
    go (yes h) = rw (le-ltb i a h)
    go (no h) =
        let l = lt_of_not-le h in
        let e : before + q + a ≤ data_chip_count s.kind = d (omega arith) in
        rw (lt-ltb i a l) (blocks_are s before start (q + i) t_is u_is p (omega (arith, e)))
