-- The scrambling code's elements are imaginary at even places and real at odd ones: a product with one by two single products. At which places, and
-- whose sign the imaginary part has, is the code itself: the laws here hold it to the scrambling elements of `codes`. Assumes nothing.
use mathlib.Core.Path.{◌≡◌, ap, ap₂, ◌∙◌}
use mathlib.Core.Bool.{Bool, true, false, cond}
use mathlib.Core.List.{List}
use Prim.Native.Nat.{ℕ, ◌+◌, ◌%◌, ◌<◌}
use native.Mathlib.Decide.{ℕ_discrete}
use native.Mathlib.Omega.{arith}
use borrow.Author.Tests.{eq-eqb, ne_eqb, lt-ltb, le-ltb}
use lib.Dec.{eqb, ltb}
use lib.IntN.{ℤ, pos, neg_ℤ, ◌+ℤ◌, ◌-ℤ◌, ◌*ℤ◌, zero-*ℤ, *ℤ-zero}
use lib.ListN.{get_or}
use Rattle.complex.specs.declared.Complex.{Complex}
use Rattle.complex.specs.Arithmetic.{◌+j◌, real, ◌⊗◌}
use Rattle.complex.specs.Buffers.{block_of, listed, value}
use Rattle.complex.specs.Fits.{Within, Bound}
use Rattle.complex.proofs.Integers.{ring, *ℤ_pos_one}
use Rattle.complex.proofs.Lists.{listed_at}
use Rattle.complex.proofs.Ring.{by_components}
use Rattle.complex.proofs.Rotations.{rotate_0, rotate_1, rotate_2, rotate_3}
use Rattle.complex.proofs.Bounds.{bound_listed}
use Rattle.complex.proofs.Sizes.{within_more, within_mul, within_neg}
use Rattle.codes.specs.PackedSigns.{signed_by_j}
use Rattle.codes.specs.Scrambling.{v, scrambling_element}
use Rattle.codes.proofs.Rows.{v_within}
use Rattle.complex.specs.declared.Block.{Block}
use Rattle.modulation.specs.SixteenChips.{scrambling_signs, scrambled}
use Rattle.complex.proofs.Blocks.{block_bound}

-- a product of four terms, two of which are 0 on the left and one on the right
one_term : (x y b : ℤ) → ((pos 0 *ℤ pos 1 -ℤ b *ℤ pos 1) *ℤ y ≡ x *ℤ pos 0 -ℤ y *ℤ b) × ((pos 0 *ℤ pos 1 +ℤ b *ℤ pos 1) *ℤ x ≡ x *ℤ b +ℤ y *ℤ pos 0)
    × ((b *ℤ pos 1 -ℤ pos 0 *ℤ pos 1) *ℤ x ≡ x *ℤ b -ℤ y *ℤ pos 0) × ((b *ℤ pos 1 +ℤ pos 0 *ℤ pos 1) *ℤ y ≡ x *ℤ pos 0 +ℤ y *ℤ b)
one_term x y b = (simp (ring, zero-*ℤ, *ℤ-zero), simp (ring, zero-*ℤ, *ℤ-zero), simp (ring, zero-*ℤ, *ℤ-zero), simp (ring, zero-*ℤ, *ℤ-zero))

-- w (1 + j) on the components of x + y j: for an imaginary w, and for a real one
module _ (x y : ℤ) (w : Complex) where
  imaginary : w.re ≡ pos 0 → let t = w ⊗ (pos 1 +j pos 1) in t.re *ℤ y +j t.im *ℤ x ≡ (x +j y) ⊗ w
  unfolding ◌⊗◌
  imaginary e = by_components (rw e (one_term x y w.im).0) (rw e (one_term x y w.im).1)

  purely_real : w.im ≡ pos 0 → let t = w ⊗ (pos 1 +j pos 1) in t.re *ℤ x +j t.im *ℤ y ≡ (x +j y) ⊗ w
  unfolding ◌⊗◌
  purely_real e = by_components (rw e (one_term x y w.re).2) (rw e (one_term x y w.re).3)

-- element i + 1 is vᵢ₊₁ times j or -j for an even i, times 1 or -1 for an odd one
module _ (p i : ℕ) where
  abbrev w : Complex
  w = scrambling_element p (i + 1)

  even_place : i % 2 ≡ 0 → w.re ≡ pos 0
  unfolding scrambling_element real
  even_place e = go (ℕ_discrete ((i + 1) % 4) 1)
    where
      go : Dec ((i + 1) % 4 ≡ 1) → w.re ≡ pos 0
      go (yes h) = ap (λ (z : Complex). z.re) (rotate_1 _ _ h)
      go (no h) = ap (λ (z : Complex). z.re) (rotate_3 _ _ (omega arith))

  odd_place : i % 2 ≡ 1 → w.im ≡ pos 0
  unfolding scrambling_element real
  odd_place e = go (ℕ_discrete ((i + 1) % 4) 0)
    where
      go : Dec ((i + 1) % 4 ≡ 0) → w.im ≡ pos 0
      go (yes h) = ap (λ (z : Complex). z.im) (rotate_0 _ _ h)
      go (no h) = ap (λ (z : Complex). z.im) (rotate_2 _ _ (omega arith))

-- so the scrambled components are those of the product
module _ (p : ℕ) (x y : List ℤ) (i : ℕ) where
  abbrev by_parity : Bool → Complex
  by_parity even =
      (scrambling_signs p i).re *ℤ cond even (get_or y i (pos 0)) (get_or x i (pos 0))
      +j (scrambling_signs p i).im *ℤ cond even (get_or x i (pos 0)) (get_or y i (pos 0))

  pub scrambled_chip : i < 16
      → scrambled (listed 16 (λ i. (scrambling_signs p i).re)) y x i +j scrambled (listed 16 (λ i. (scrambling_signs p i).im)) x y i ≡ value x y i ⊗ scrambling_element p (i + 1)
  scrambled_chip l = rw (listed_at (λ i. (scrambling_signs p i).re) (pos 0) 16 i l, listed_at (λ i. (scrambling_signs p i).im) (pos 0) 16 i l) (pick (ℕ_discrete (i % 2) 0))
    where
      pick : Dec (i % 2 ≡ 0) → by_parity (eqb (i % 2) 0) ≡ value x y i ⊗ scrambling_element p (i + 1)
      pick (yes e) = rw (eq-eqb _ _ e) (imaginary _ _ (w p i) (even_place p i e))
      pick (no e) = rw (ne_eqb _ _ e) (purely_real _ _ (w p i) (odd_place p i (omega arith)))

-- ---- the scrambling signs by the rows'
-- (a + b j)(1 + j)
times_one_plus_j : (a b : ℤ) → (a +j b) ⊗ (pos 1 +j pos 1) ≡ (a -ℤ b) +j (a +ℤ b)
unfolding ◌⊗◌
times_one_plus_j a b = by_components (ap₂ ◌-ℤ◌ (*ℤ_pos_one a) (*ℤ_pos_one b)) (ap₂ ◌+ℤ◌ (*ℤ_pos_one a) (*ℤ_pos_one b))

-- times 1, j, -1 and -j: one of a and b is 0
module _ (x : ℤ) where
  by_1 : (pos 0 -ℤ x) +j (pos 0 +ℤ x) ≡ neg_ℤ x +j x
  by_1 = by_components (simp ring) (simp ring)

  by_2 : (neg_ℤ x -ℤ pos 0) +j (neg_ℤ x +ℤ pos 0) ≡ neg_ℤ x +j neg_ℤ x
  by_2 = by_components (simp ring) (simp ring)

  by_3 : (pos 0 -ℤ neg_ℤ x) +j (pos 0 +ℤ neg_ℤ x) ≡ x +j neg_ℤ x
  by_3 = by_components (simp ring) (simp ring)

  by_0 : (x -ℤ pos 0) +j (x +ℤ pos 0) ≡ x +j x
  by_0 = by_components (simp ring) (simp ring)

-- the real one has the sign of place i, the imaginary one that of place i + 3
pub scrambling_signs_are : (p i : ℕ) → scrambling_signs p i ≡ signed_by_j (v p (i + 1)) i +j signed_by_j (v p (i + 1)) (i + 3)
unfolding scrambling_element real signed_by_j
scrambling_signs_are p i = go (ℕ_discrete ((i + 1) % 4) 0) (ℕ_discrete ((i + 1) % 4) 1) (ℕ_discrete ((i + 1) % 4) 2)
  where
    signs_by : {z : Complex} → scrambling_element p (i + 1) ≡ z → scrambling_signs p i ≡ z ⊗ (pos 1 +j pos 1)
    signs_by e = ap (λ (z : Complex). z ⊗ (pos 1 +j pos 1)) e

    go : Dec ((i + 1) % 4 ≡ 0) → Dec ((i + 1) % 4 ≡ 1) → Dec ((i + 1) % 4 ≡ 2) → scrambling_signs p i ≡ signed_by_j (v p (i + 1)) i +j signed_by_j (v p (i + 1)) (i + 3)
    go (yes e) d f = rw (le-ltb (i % 4) 2 (omega arith), le-ltb ((i + 3) % 4) 2 (omega arith)) (signs_by (rotate_0 (i + 1) (real (v p (i + 1))) e) ∙ times_one_plus_j (v p (i + 1)) (pos 0) ∙ by_0 (v p (i + 1)))
    go (no d) (yes e) f = rw (lt-ltb (i % 4) 2 (omega arith), le-ltb ((i + 3) % 4) 2 (omega arith)) (signs_by (rotate_1 (i + 1) (real (v p (i + 1))) e) ∙ times_one_plus_j (pos 0) (v p (i + 1)) ∙ by_1 (v p (i + 1)))
    go (no d) (no f) (yes e) = rw (lt-ltb (i % 4) 2 (omega arith), lt-ltb ((i + 3) % 4) 2 (omega arith)) (signs_by (rotate_2 (i + 1) (real (v p (i + 1))) e) ∙ times_one_plus_j (neg_ℤ (v p (i + 1))) (pos 0) ∙ by_2 (v p (i + 1)))
    go (no d) (no f) (no g) = rw (le-ltb (i % 4) 2 (omega arith), lt-ltb ((i + 3) % 4) 2 (omega arith)) (signs_by (rotate_3 (i + 1) (real (v p (i + 1))) (omega arith)) ∙ times_one_plus_j (pos 0) (neg_ℤ (v p (i + 1))) ∙ by_3 (v p (i + 1)))

-- so each component is a sign, or 0
pub scrambling_signs_bound : (p : ℕ) {r : Block} → r ≡ block_of (scrambling_signs p) → Bound 1 r.re × Bound 1 r.im
unfolding signed_by_j
scrambling_signs_bound p e = block_bound (scrambling_signs p) e (λ i. rw (scrambling_signs_are p i) (record { re = either (ltb (i % 4) 2) i; im = either (ltb ((i + 3) % 4) 2) i }))
  where
    either : (b : Bool) (i : ℕ) → Within 1 (cond b (neg_ℤ (v p (i + 1))) (v p (i + 1)))
    either true i = within_neg (v_within p i)
    either false i = v_within p i

pub scrambled_bound : {k : ℕ} {t even odd r : List ℤ} → Bound 1 t → Bound k even → Bound k odd → r ≡ listed 16 (scrambled t even odd) → Bound k r
scrambled_bound {k} {even = even} {odd} f g h e = rw e (bound_listed k 16 _ (λ i. within_more (within_mul (f.at i) (pick (eqb (i % 2) 0) i)) k (omega arith)))
  where
    pick : (b : Bool) (i : ℕ) → Within k (cond b (get_or even i (pos 0)) (get_or odd i (pos 0)))
    pick true i = g.at i
    pick false i = h.at i
