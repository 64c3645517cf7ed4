-- Readings at Q 1: a chip times its multiplier is a choice between its components and a change of sign. Assumes nothing.
use mathlib.Core.Path.{◌≡◌, refl, sym, ap, ap₂, ◌∙◌, subst}
use mathlib.Core.Bool.{Bool, true, false, cond}
use mathlib.Core.List.{List}
use Prim.Native.Nat.{ℕ, ◌+◌, ◌*◌, ◌%◌, ◌<◌}
use native.Mathlib.Omega.{arith}
use lib.Dec.{T, eqb}
use lib.IntN.{ℤ, pos, neg_ℤ, ◌+ℤ◌, ◌-ℤ◌, ◌*ℤ◌, +ℤ_idl, +ℤ_idr}
use Rattle.complex.specs.declared.Complex.{Complex}
use Rattle.complex.specs.Arithmetic.{◌+j◌, real, ◌⊗◌, conj, j^, Σ<}
use Rattle.complex.specs.Buffers.{value, in_buffers, ◌at◌}
use Rattle.complex.specs.Fits.{Both}
use Rattle.complex.proofs.Integers.{ring}
use Rattle.complex.proofs.Lists.{value_in_buffers}
use Rattle.complex.proofs.Ring.{by_components, 𝟎-⊕}
use Rattle.complex.proofs.Rotations.{rotate_1}
use Rattle.codes.specs.Range.{each}
use Rattle.codes.specs.Scrambling.{scrambling_element}
use Rattle.codes.specs.Tree.{element}
use Rattle.codes.proofs.Tests.{each_at, same, same→eq}
use Rattle.read.specs.Multipliers.{multiplier, multiplied_sum, place_sign, is_sign, PowerOfJ, PowersOfJ, imaginary, whole}
use Rattle.read.specs.Reading.{reading}
use Rattle.read.proofs.Signs.{sign_negℤ, place_sign_is, placed, multiplier_is}
use Rattle.read.proofs.Readings.{reading_is}

-- ---- the signs of the two products
pub minus_is : (w : Complex) → PowerOfJ w → is_sign (w.re -ℤ w.im) ≡ true
minus_is w (imaginary e s) = ap is_sign (ap (λ (z : ℤ). z -ℤ w.im) e ∙ +ℤ_idl (neg_ℤ w.im)) ∙ sign_negℤ w.im s
minus_is w (whole e s) = ap is_sign (ap (λ (z : ℤ). w.re -ℤ z) e ∙ +ℤ_idr w.re) ∙ s

pub plus_is : (w : Complex) → PowerOfJ w → is_sign (w.re +ℤ w.im) ≡ true
plus_is w (imaginary e s) = ap is_sign (ap (λ (z : ℤ). z +ℤ w.im) e ∙ +ℤ_idl w.im) ∙ s
plus_is w (whole e s) = ap is_sign (ap (λ (z : ℤ). w.re +ℤ z) e ∙ +ℤ_idr w.re) ∙ s

-- ---- the product
module _ (a b : ℤ) where
  by_im : (wr wi : ℤ) → wr ≡ pos 0 → ((wr -ℤ wi) *ℤ b) +j ((wr +ℤ wi) *ℤ a) ≡ (a *ℤ wr -ℤ b *ℤ wi) +j (a *ℤ wi +ℤ b *ℤ wr)
  by_im wr wi e = subst (λ (z : ℤ). ((z -ℤ wi) *ℤ b) +j ((z +ℤ wi) *ℤ a) ≡ (a *ℤ z -ℤ b *ℤ wi) +j (a *ℤ wi +ℤ b *ℤ z)) (sym e) (by_components (first wi) (second wi))
    where
      first : (wi : ℤ) → (pos 0 -ℤ wi) *ℤ b ≡ a *ℤ pos 0 -ℤ b *ℤ wi
      first wi = simp ring

      second : (wi : ℤ) → (pos 0 +ℤ wi) *ℤ a ≡ a *ℤ wi +ℤ b *ℤ pos 0
      second wi = simp ring

  by_re : (wr wi : ℤ) → wi ≡ pos 0 → ((wr -ℤ wi) *ℤ a) +j ((wr +ℤ wi) *ℤ b) ≡ (a *ℤ wr -ℤ b *ℤ wi) +j (a *ℤ wi +ℤ b *ℤ wr)
  by_re wr wi e = subst (λ (z : ℤ). ((wr -ℤ z) *ℤ a) +j ((wr +ℤ z) *ℤ b) ≡ (a *ℤ wr -ℤ b *ℤ z) +j (a *ℤ z +ℤ b *ℤ wr)) (sym e) (by_components (first wr) (second wr))
    where
      first : (wr : ℤ) → (wr -ℤ pos 0) *ℤ a ≡ a *ℤ wr -ℤ b *ℤ pos 0
      first wr = simp ring

      second : (wr : ℤ) → (wr +ℤ pos 0) *ℤ b ≡ a *ℤ pos 0 +ℤ b *ℤ wr
      second wr = simp ring

not_zero : (z : ℤ) → is_sign z ≡ true → z ≡ pos 0 → ⊥
unfolding is_sign
not_zero z s e = subst T (sym (ap is_sign (sym e) ∙ s)) tt

pub product_is : (x w y : Complex) → PowerOfJ w → (w.re ≡ pos 0 → y ≡ (x.im +j x.re)) → ((w.re ≡ pos 0 → ⊥) → y ≡ x)
    → ((w.re -ℤ w.im) *ℤ y.re) +j ((w.re +ℤ w.im) *ℤ y.im) ≡ x ⊗ w
unfolding ◌⊗◌
product_is x w y (imaginary e s) f g =
    (λ j. ((w.re -ℤ w.im) *ℤ (f e j).re) +j ((w.re +ℤ w.im) *ℤ (f e j).im)) ∙ by_im x.re x.im w.re w.im e
product_is x w y (whole e s) f g =
    let n = not_zero w.re s in
    (λ j. ((w.re -ℤ w.im) *ℤ (g n j).re) +j ((w.re +ℤ w.im) *ℤ (g n j).im)) ∙ by_re x.re x.im w.re w.im e

-- the size of the chip, whether its components change places or not
pub arranged_both : (x w y : Complex) → PowerOfJ w → (w.re ≡ pos 0 → y ≡ (x.im +j x.re)) → ((w.re ≡ pos 0 → ⊥) → y ≡ x) → Both 100000 x → Both 100000 y
arranged_both x w y (imaginary e s) f g h = subst (Both 100000) (sym (f e)) (record { re = h.im; im = h.re })
arranged_both x w y (whole e s) f g h = subst (Both 100000) (sym (g (not_zero w.re s))) h

-- ---- the multipliers
ones_test : T (each 16 (λ i. same (pos 1) (element 16 0 i)))
unfolding each same element ◌at◌
ones_test = tt

-- code (1, 0) is how every code (16, 0) begins: all 1
same_multiplier : (p k i : ℕ) → k < 1 → i < 16 → multiplier p 1 k i ≡ multiplier p 16 0 i
unfolding multiplier element ◌at◌
same_multiplier p k i h l =
    let c : k ≡ 0 = omega arith in
    let m : i % 1 ≡ 0 = omega arith in
    let n : i ≡ i % 16 = omega arith in
    ap (λ (z : ℤ). conj (scrambling_element p (i + 1)) ⊗ real z)
    (ap₂ (λ (a b : ℕ). element 1 a b) c m ∙ same→eq (pos 1) (element 16 0 i) (each_at 16 (λ i. same (pos 1) (element 16 0 i)) ones_test i l) ∙ ap (element 16 0) n)

power_of_j : (i : ℕ) (s : ℤ) → is_sign s ≡ true → PowerOfJ (placed i (real s))
unfolding real
power_of_j i s h = by (eqb (i % 2) 0)
  where
    by : (t : Bool) → PowerOfJ (cond t (j^ 1 ⊗ real s) (real s))
    by true = subst PowerOfJ (sym (rotate_1 1 (real s) refl)) (imaginary refl h)
    by false = whole refl h

module _ (p k : ℕ) (hp : p < 128) (hk : k < 1) where
  multiplier_power : (i : ℕ) → i < 16 → PowerOfJ (multiplier p 1 k i)
  multiplier_power i l =
      let z : 0 < 16 = omega arith in
      subst PowerOfJ (sym (same_multiplier p k i hk l ∙ multiplier_is p 0 i l)) (power_of_j i (place_sign p 0 i) (place_sign_is p 0 hp z i l))

  -- the multipliers as two lists
  module _ {re im : List ℤ} (e : re ≡ (in_buffers 16 (multiplier p 1 k)).re) (e' : im ≡ (in_buffers 16 (multiplier p 1 k)).im) where
    pub powers_of_j : PowersOfJ re im
    powers_of_j = record { each = λ i l. subst PowerOfJ (sym ((λ j. value (e j) (e' j) i) ∙ value_in_buffers 16 (multiplier p 1 k) i l)) (multiplier_power i l) }

    pub reading_one : (chip : ℕ → Complex) (n : ℕ) → chip n ⊗ value re im (n % 16) ≡ reading p 1 k chip n
    unfolding multiplied_sum Σ<
    reading_one chip n =
        let m : n ≡ n * 1 + 0 = omega arith in
        ap (λ (i : ℕ). chip i ⊗ value re im (i % 16)) m
        ∙ (λ j. chip (n * 1 + 0) ⊗ value (e j) (e' j) ((n * 1 + 0) % 16))
        ∙ sym (𝟎-⊕ (chip (n * 1 + 0) ⊗ value (in_buffers 16 (multiplier p 1 k)).re (in_buffers 16 (multiplier p 1 k)).im ((n * 1 + 0) % 16)))
        ∙ reading_is p 1 k refl chip n
