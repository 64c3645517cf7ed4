-- Powers of j: a product with one is a rotation, which swaps components and changes signs. Assumes nothing.
use mathlib.Core.Path.{◌≡◌, refl, sym, ap, ◌∙◌}
use Prim.Native.Nat.{ℕ, zero, suc, ◌+◌, ◌*◌, ◌/◌, ◌%◌}
use native.Mathlib.Nat.{zero-add, suc-add, div-add-mod'}
use native.Mathlib.Omega.{arith}
use lib.IntN.{ℤ, pos, neg_ℤ, ◌+ℤ◌, ◌*ℤ◌, neg_ℤ-neg_ℤ}
use Rattle.complex.specs.declared.Complex.{Complex}
use Rattle.complex.specs.Arithmetic.{◌+j◌, 𝟏, 𝐣, ◌⊗◌, j^}
use Rattle.complex.proofs.Integers.{ring}
use Rattle.complex.proofs.Ring.{by_components, 𝟏-⊗, ⊗-𝟏, ⊗-assoc}

-- times j
pub 𝐣-⊗ : (x : Complex) → 𝐣 ⊗ x ≡ neg_ℤ x.im +j x.re
unfolding ◌⊗◌ 𝐣
𝐣-⊗ x = by_components (by x.re x.im) (by' x.re x.im)
  where
    by : (a b : ℤ) → pos 0 *ℤ a +ℤ neg_ℤ (pos 1 *ℤ b) ≡ neg_ℤ b
    by a b = simp ring

    by' : (a b : ℤ) → pos 0 *ℤ b +ℤ pos 1 *ℤ a ≡ a
    by' a b = simp ring

-- powers add up
pub j^-+ : (m n : ℕ) → j^ (m + n) ≡ j^ m ⊗ j^ n
unfolding j^
j^-+ zero n = rw zero-add (sym (𝟏-⊗ (j^ n)))
j^-+ (suc m) n = rw (suc-add, j^-+ m n) (sym (⊗-assoc 𝐣 (j^ m) (j^ n)))

-- only the power modulo 4 counts
four : j^ 4 ≡ 𝟏
unfolding j^ 𝐣 𝟏 ◌⊗◌
four = refl

j^_4s : (m n : ℕ) → j^ (m * 4 + n) ≡ j^ n
j^_4s zero n = ap j^ (omega arith)
j^_4s (suc m) n = ap j^ e ∙ j^-+ 4 (m * 4 + n) ∙ rw (four, 𝟏-⊗) (j^_4s m n)
  where
    e : suc m * 4 + n ≡ 4 + (m * 4 + n)
    e = omega arith

pub j^-% : (n : ℕ) → j^ (n % 4) ≡ j^ n
j^-% n = sym (j^_4s (n / 4) (n % 4)) ∙ ap j^ (div-add-mod' n 4)

-- the product with a power of j is a rotation, by the power modulo 4
module _ (n : ℕ) (x : Complex) where
  reduced : (k : ℕ) → n % 4 ≡ k → j^ n ⊗ x ≡ j^ k ⊗ x
  reduced k e = ap (λ (t : Complex). t ⊗ x) (sym (j^-% n) ∙ ap j^ e)

  once : (y : Complex) → j^ 1 ⊗ y ≡ neg_ℤ y.im +j y.re
  unfolding j^
  once y = rw ⊗-𝟏 (𝐣-⊗ y)

  twice : j^ 2 ⊗ x ≡ neg_ℤ x.re +j neg_ℤ x.im
  twice = rw (j^-+ 1 1, ⊗-assoc, once x) (once (neg_ℤ x.im +j x.re))

  thrice : j^ 3 ⊗ x ≡ x.im +j neg_ℤ x.re
  thrice =
      rw (j^-+ 1 2, ⊗-assoc, twice) (once (neg_ℤ x.re +j neg_ℤ x.im) ∙ ap (λ (t : ℤ). t +j neg_ℤ x.re) (neg_ℤ-neg_ℤ x.im))

  pub rotate_0 : n % 4 ≡ 0 → j^ n ⊗ x ≡ x
  unfolding j^
  rotate_0 e = reduced 0 e ∙ 𝟏-⊗ x

  pub rotate_1 : n % 4 ≡ 1 → j^ n ⊗ x ≡ neg_ℤ x.im +j x.re
  rotate_1 e = reduced 1 e ∙ once x

  pub rotate_2 : n % 4 ≡ 2 → j^ n ⊗ x ≡ neg_ℤ x.re +j neg_ℤ x.im
  rotate_2 e = reduced 2 e ∙ twice

  pub rotate_3 : n % 4 ≡ 3 → j^ n ⊗ x ≡ x.im +j neg_ℤ x.re
  rotate_3 e = reduced 3 e ∙ thrice
