-- The multipliers at Q 16 are signs, times j at even places. At which places j stands is the code itself: the laws here hold it to the scrambling elements
-- of `codes`. Assumes nothing.
use mathlib.Core.Path.{◌≡◌, refl, sym, ap, ◌∙◌, subst}
use mathlib.Core.Bool.{Bool, true, false, cond}
use Prim.Native.Nat.{ℕ, zero, suc, ◌+◌, ◌%◌, ◌<◌}
use native.Mathlib.Omega.{arith}
use borrow.Author.Tests.{eqb-true}
use lib.Dec.{T, eqb, ltb, lit≤}
use lib.IntN.{ℤ, pos, negsuc, neg_ℤ, ◌+ℤ◌, ◌-ℤ◌, ◌*ℤ◌, zero-*ℤ, neg_ℤ-neg_ℤ}
use lib.Signed.{lt_z}
use Rattle.complex.specs.declared.Complex.{Complex}
use Rattle.complex.specs.Arithmetic.{◌+j◌, real, ◌⊗◌, conj, j^}
use Rattle.complex.specs.Buffers.{◌at◌}
use Rattle.complex.specs.Fits.{Within}
use Rattle.complex.proofs.Integers.{ring, negℤ_*ℤ}
use Rattle.complex.proofs.Ring.{by_components}
use Rattle.complex.proofs.Rotations.{rotate_0, rotate_1, rotate_2, rotate_3}
use Rattle.codes.specs.PackedSigns.{signed_by_j}
use Rattle.codes.specs.Range.{each}
use Rattle.codes.specs.Scrambling.{v, scrambling_element, annex_row}
use Rattle.codes.specs.Tree.{element}
use Rattle.codes.proofs.Rows.{v_at}
use Rattle.codes.proofs.Tests.{each_at, T_true}
use Rattle.read.specs.Multipliers.{multiplier, place_sign, is_sign}

-- ---- signs
-- what holds of 1 and -1
of_sign : (P : ℤ → Type 0) → P (pos 1) → P (negsuc 0) → (s : ℤ) → is_sign s ≡ true → P s
unfolding is_sign
of_sign P a b (pos n) e = subst (λ (m : ℕ). P (pos m)) (sym (eqb-true n 1 e)) a
of_sign P a b (negsuc n) e = subst (λ (m : ℕ). P (negsuc m)) (sym (eqb-true n 0 e)) b

pub sign_within : (s : ℤ) → is_sign s ≡ true → Within 1 s
sign_within = of_sign (Within 1) (record { size = lit≤ tt }) (record { size = lit≤ tt })

sign_*ℤ : (x y : ℤ) → is_sign x ≡ true → is_sign y ≡ true → is_sign (x *ℤ y) ≡ true
unfolding is_sign
sign_*ℤ x y e f = of_sign (λ (t : ℤ). is_sign (t *ℤ y) ≡ true) (of_sign (λ (t : ℤ). is_sign (pos 1 *ℤ t) ≡ true) refl refl y f) (of_sign (λ (t : ℤ). is_sign (negsuc 0 *ℤ t) ≡ true) refl refl y f) x e

pub sign_negℤ : (x : ℤ) → is_sign x ≡ true → is_sign (neg_ℤ x) ≡ true
unfolding is_sign
sign_negℤ = of_sign (λ (t : ℤ). is_sign (neg_ℤ t) ≡ true) refl refl

-- a sign below 0, and one that is not
pub minus_sign : (s : ℤ) → is_sign s ≡ true → lt_z s (pos 0) ≡ true → s ≡ negsuc 0
minus_sign = of_sign (λ (t : ℤ). lt_z t (pos 0) ≡ true → t ≡ negsuc 0) (λ e. absurd (subst T (sym e) tt)) (λ e. refl)

pub plus_sign : (s : ℤ) → is_sign s ≡ true → lt_z s (pos 0) ≡ false → s ≡ pos 1
plus_sign = of_sign (λ (t : ℤ). lt_z t (pos 0) ≡ false → t ≡ pos 1) (λ e. refl) (λ e. absurd (subst T e tt))

rows_test : T (each 128 (λ p. each 16 (λ i. is_sign (annex_row p at i))))
unfolding each is_sign ◌at◌
rows_test = tt

codes_test : T (each 16 (λ k. each 16 (λ i. is_sign (element 16 k i))))
unfolding each is_sign element ◌at◌
codes_test = tt

module _ (p k : ℕ) (hp : p < 128) (hk : k < 16) where
  pub place_sign_is : (i : ℕ) → i < 16 → is_sign (place_sign p k i) ≡ true
  unfolding place_sign signed_by_j
  place_sign_is i h = by (ltb (i % 4) 2)
    where
      row_sign : is_sign (v p (i + 1)) ≡ true
      row_sign = ap is_sign (v_at p i) ∙ T_true _ (each_at 16 (λ i. is_sign (annex_row p at i)) (each_at 128 (λ p. each 16 (λ i. is_sign (annex_row p at i))) rows_test p hp) i h)

      both : is_sign (v p (i + 1) *ℤ element 16 k i) ≡ true
      both = sign_*ℤ (v p (i + 1)) (element 16 k i) row_sign
          (T_true _ (each_at 16 (λ i. is_sign (element 16 k i)) (each_at 16 (λ k. each 16 (λ i. is_sign (element 16 k i))) codes_test k hk) i h))

      by : (t : Bool) → is_sign (cond t (neg_ℤ (v p (i + 1) *ℤ element 16 k i)) (v p (i + 1) *ℤ element 16 k i)) ≡ true
      by true = sign_negℤ _ both
      by false = both

-- ---- the multipliers
-- a product with a whole number
real_part : (a b e : ℤ) → a *ℤ e -ℤ b *ℤ pos 0 ≡ a *ℤ e
real_part a b e = simp ring

imaginary_part : (a b e : ℤ) → a *ℤ pos 0 +ℤ b *ℤ e ≡ b *ℤ e
imaginary_part a b e = simp ring

module _ (x e : ℤ) where
  first : conj (neg_ℤ (real x).im +j (real x).re) ⊗ real e ≡ neg_ℤ (real (neg_ℤ (x *ℤ e))).im +j (real (neg_ℤ (x *ℤ e))).re
  unfolding conj real ◌⊗◌
  first = by_components (real_part (pos 0) (neg_ℤ x) e ∙ zero-*ℤ e) (imaginary_part (pos 0) (neg_ℤ x) e ∙ negℤ_*ℤ x e)

  second : conj (neg_ℤ (real x).re +j neg_ℤ (real x).im) ⊗ real e ≡ real (neg_ℤ (x *ℤ e))
  unfolding conj real ◌⊗◌
  second = by_components (real_part (neg_ℤ x) (pos 0) e ∙ negℤ_*ℤ x e) (imaginary_part (neg_ℤ x) (pos 0) e ∙ zero-*ℤ e)

  third : conj ((real x).im +j neg_ℤ (real x).re) ⊗ real e ≡ neg_ℤ (real (x *ℤ e)).im +j (real (x *ℤ e)).re
  unfolding conj real ◌⊗◌
  third =
      by_components (real_part (pos 0) (neg_ℤ (neg_ℤ x)) e ∙ zero-*ℤ e)
      (imaginary_part (pos 0) (neg_ℤ (neg_ℤ x)) e ∙ ap (λ (t : ℤ). t *ℤ e) (neg_ℤ-neg_ℤ x))

  fourth : conj (real x) ⊗ real e ≡ real (x *ℤ e)
  unfolding conj real ◌⊗◌
  fourth = by_components (real_part x (pos 0) e) (imaginary_part x (pos 0) e ∙ zero-*ℤ e)

-- the sign at place i, times j where i is even
abbrev pub placed : ℕ → Complex → Complex
placed i x = cond (eqb (i % 2) 0) (j^ 1 ⊗ x) x

pub multiplier_is : (p k i : ℕ) → i < 16 → multiplier p 16 k i ≡ placed i (real (place_sign p k i))
unfolding multiplier place_sign signed_by_j scrambling_element
multiplier_is p k i h = by (i % 4) refl (omega arith)
  where
    same : i % 16 ≡ i
    same = omega arith

    by : (r : ℕ) → i % 4 ≡ r → r < 4
        → conj (j^ (i + 1) ⊗ real (v p (i + 1))) ⊗ real (element 16 k (i % 16)) ≡ placed i (real (cond (ltb (i % 4) 2) (neg_ℤ (v p (i + 1) *ℤ element 16 k i)) (v p (i + 1) *ℤ element 16 k i)))
    by zero e l =
        let q : i % 2 ≡ 0 = omega arith in
        let n : (i + 1) % 4 ≡ 1 = omega arith in
        rw (same, e, q) (ap (λ (y : Complex). conj y ⊗ real (element 16 k i)) (rotate_1 (i + 1) (real (v p (i + 1))) n) ∙ first (v p (i + 1)) (element 16 k i) ∙ sym (rotate_1 1 (real (neg_ℤ (v p (i + 1) *ℤ element 16 k i))) refl))
    by (suc zero) e l =
        let q : i % 2 ≡ 1 = omega arith in
        let n : (i + 1) % 4 ≡ 2 = omega arith in
        rw (same, e, q) (ap (λ (y : Complex). conj y ⊗ real (element 16 k i)) (rotate_2 (i + 1) (real (v p (i + 1))) n) ∙ second (v p (i + 1)) (element 16 k i))
    by (suc (suc zero)) e l =
        let q : i % 2 ≡ 0 = omega arith in
        let n : (i + 1) % 4 ≡ 3 = omega arith in
        rw (same, e, q) (ap (λ (y : Complex). conj y ⊗ real (element 16 k i)) (rotate_3 (i + 1) (real (v p (i + 1))) n) ∙ third (v p (i + 1)) (element 16 k i) ∙ sym (rotate_1 1 (real (v p (i + 1) *ℤ element 16 k i)) refl))
    by (suc (suc (suc zero))) e l =
        let q : i % 2 ≡ 1 = omega arith in
        let n : (i + 1) % 4 ≡ 0 = omega arith in
        rw (same, e, q) (ap (λ (y : Complex). conj y ⊗ real (element 16 k i)) (rotate_0 (i + 1) (real (v p (i + 1))) n) ∙ fourth (v p (i + 1)) (element 16 k i))
    by (suc (suc (suc (suc r)))) e l = absurd (omega arith)
