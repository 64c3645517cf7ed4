-- Complex values are a commutative ring, and conj keeps sums and products. Assumes nothing.
use mathlib.Core.Path.{◌≡◌, refl, sym, ap, ap₂, ◌∙◌}
use lib.IntN.{ℤ, pos, negsuc, ◌+ℤ◌, ◌-ℤ◌, ◌*ℤ◌, +ℤ_invr, +ℤ_comm, +ℤ_assoc, +ℤ_idl, +ℤ_idr, zero-*ℤ, *ℤ-zero, neg_ℤ-+ℤ, neg_ℤ-neg_ℤ}
use Rattle.complex.specs.declared.Complex.{Complex}
use Rattle.complex.specs.Arithmetic.{◌+j◌, real, 𝟎, 𝟏, ◌⊕◌, ◌⊗◌, conj}
use Rattle.complex.proofs.Integers.{ring, +ℤ_left, negℤ_*ℤ, *ℤ_negℤ, *ℤ_pos_one, negsuc_zero_*ℤ}

-- equal components, equal values
pub by_components : {x y : Complex} → x.re ≡ y.re → x.im ≡ y.im → x ≡ y
by_components p q = λ i. record { re = p i; im = q i }

pub ⊕-comm : (x y : Complex) → x ⊕ y ≡ y ⊕ x
unfolding ◌⊕◌
⊕-comm x y = by_components (+ℤ_comm x.re y.re) (+ℤ_comm x.im y.im)

pub ⊕-assoc : (x y z : Complex) → (x ⊕ y) ⊕ z ≡ x ⊕ (y ⊕ z)
unfolding ◌⊕◌
⊕-assoc x y z = by_components (+ℤ_assoc x.re y.re z.re) (+ℤ_assoc x.im y.im z.im)

pub ⊕-left : (x y z : Complex) → x ⊕ (y ⊕ z) ≡ y ⊕ (x ⊕ z)
unfolding ◌⊕◌
⊕-left x y z = by_components (+ℤ_left x.re y.re z.re) (+ℤ_left x.im y.im z.im)

pub 𝟎-⊕ : (x : Complex) → 𝟎 ⊕ x ≡ x
unfolding ◌⊕◌ 𝟎
𝟎-⊕ x = by_components (+ℤ_idl x.re) (+ℤ_idl x.im)

pub ⊕-𝟎 : (x : Complex) → x ⊕ 𝟎 ≡ x
⊕-𝟎 x = ⊕-comm x 𝟎 ∙ 𝟎-⊕ x

-- the negative of x is -1 times x
pub ⊕-negative : (x : Complex) → x ⊕ real (negsuc 0) ⊗ x ≡ 𝟎
unfolding ◌⊕◌ ◌⊗◌ real 𝟎
⊕-negative x = by_components (by x.re x.im) (by' x.re x.im)
  where
    by : (a b : ℤ) → a +ℤ (negsuc 0 *ℤ a -ℤ pos 0 *ℤ b) ≡ pos 0
    by a b = rw (negsuc_zero_*ℤ, zero-*ℤ, +ℤ_idr) (+ℤ_invr a)

    by' : (a b : ℤ) → b +ℤ (negsuc 0 *ℤ b +ℤ pos 0 *ℤ a) ≡ pos 0
    by' a b = rw (negsuc_zero_*ℤ, zero-*ℤ, +ℤ_idr) (+ℤ_invr b)

pub ⊗-comm : (x y : Complex) → x ⊗ y ≡ y ⊗ x
unfolding ◌⊗◌
⊗-comm x y = by_components (simp ring) (simp ring)

pub ⊗-assoc : (x y z : Complex) → (x ⊗ y) ⊗ z ≡ x ⊗ (y ⊗ z)
unfolding ◌⊗◌
⊗-assoc x y z = by_components (simp ring) (simp ring)

pub ⊗-left : (x y z : Complex) → x ⊗ (y ⊗ z) ≡ y ⊗ (x ⊗ z)
⊗-left x y z = sym (⊗-assoc x y z) ∙ ap (λ (t : Complex). t ⊗ z) (⊗-comm x y) ∙ ⊗-assoc y x z

pub ⊗-⊕ : (x y z : Complex) → x ⊗ (y ⊕ z) ≡ x ⊗ y ⊕ x ⊗ z
unfolding ◌⊗◌ ◌⊕◌
⊗-⊕ x y z = by_components (simp ring) (simp ring)

pub ⊕-⊗ : (x y z : Complex) → (x ⊕ y) ⊗ z ≡ x ⊗ z ⊕ y ⊗ z
⊕-⊗ x y z = ⊗-comm (x ⊕ y) z ∙ ⊗-⊕ z x y ∙ ap₂ ◌⊕◌ (⊗-comm z x) (⊗-comm z y)

pub ⊗-𝟎 : (x : Complex) → x ⊗ 𝟎 ≡ 𝟎
unfolding ◌⊗◌ 𝟎
⊗-𝟎 x = by_components (simp *ℤ-zero) (simp *ℤ-zero)

pub 𝟎-⊗ : (x : Complex) → 𝟎 ⊗ x ≡ 𝟎
𝟎-⊗ x = ⊗-comm 𝟎 x ∙ ⊗-𝟎 x

pub ⊗-𝟏 : (x : Complex) → x ⊗ 𝟏 ≡ x
unfolding ◌⊗◌ 𝟏
⊗-𝟏 x = by_components (simp (*ℤ_pos_one, *ℤ-zero, +ℤ_idr)) (simp (*ℤ_pos_one, *ℤ-zero, +ℤ_idl))

pub 𝟏-⊗ : (x : Complex) → 𝟏 ⊗ x ≡ x
𝟏-⊗ x = ⊗-comm 𝟏 x ∙ ⊗-𝟏 x

-- ---- the conjugate
pub conj-⊕ : (x y : Complex) → conj (x ⊕ y) ≡ conj x ⊕ conj y
unfolding ◌⊕◌ conj
conj-⊕ x y = by_components refl (neg_ℤ-+ℤ x.im y.im)

pub conj-⊗ : (x y : Complex) → conj (x ⊗ y) ≡ conj x ⊗ conj y
unfolding ◌⊗◌ conj
conj-⊗ x y = by_components (simp (negℤ_*ℤ, *ℤ_negℤ, neg_ℤ-neg_ℤ)) (simp (negℤ_*ℤ, *ℤ_negℤ, neg_ℤ-+ℤ))

pub conj_conj : (x : Complex) → conj (conj x) ≡ x
unfolding conj
conj_conj x = by_components refl (neg_ℤ-neg_ℤ x.im)

-- ---- whole numbers among them
pub real_zero : real (pos 0) ≡ 𝟎
unfolding real 𝟎
real_zero = refl

pub real_+ℤ : (x y : ℤ) → real (x +ℤ y) ≡ real x ⊕ real y
unfolding real ◌⊕◌
real_+ℤ x y = refl

pub real_*ℤ : (x y : ℤ) → real (x *ℤ y) ≡ real x ⊗ real y
unfolding real ◌⊗◌
real_*ℤ x y = by_components (sym (+ℤ_idr (x *ℤ y))) (sym (ap₂ ◌+ℤ◌ (*ℤ-zero x) (zero-*ℤ y)))

pub conj_real : (x : ℤ) → conj (real x) ≡ real x
unfolding real conj
conj_real x = refl

pub real-⊗ : (s : ℤ) (x : Complex) → real s ⊗ x ≡ s *ℤ x.re +j s *ℤ x.im
unfolding real ◌⊗◌
real-⊗ s x =
    by_components
    (ap (λ (t : ℤ). s *ℤ x.re -ℤ t) (zero-*ℤ x.im) ∙ +ℤ_idr (s *ℤ x.re))
    (ap (λ (t : ℤ). s *ℤ x.im +ℤ t) (zero-*ℤ x.re) ∙ +ℤ_idr (s *ℤ x.im))

pub real_one_plus_j : (x : ℤ) → real x ⊗ (pos 1 +j pos 1) ≡ x +j x
unfolding real ◌⊗◌
real_one_plus_j x = by_components by by
  where
    by : x *ℤ pos 1 +ℤ pos 0 ≡ x
    by = simp (*ℤ_pos_one, +ℤ_idr)

-- sorts a chain of sums, a chain of products
pub ruleset sums = (⊕-assoc, ⊕-comm, ⊕-left)

pub ruleset products = (⊗-assoc, ⊗-comm, ⊗-left)

pub ⊗-swap : (x y z : Complex) → (x ⊗ y) ⊗ z ≡ (x ⊗ z) ⊗ y
⊗-swap x y z = simp products
