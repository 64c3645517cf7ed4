-- ℤ as a commutative ring: the laws that lib.IntN lacks, and the ruleset `ring`.
-- Each law is shown by `omega`, which knows ℕ alone: z is its positive part less its negative part, and one of them is 0.
-- Assumes nothing.
use mathlib.Core.Path.{◌≡◌, refl, sym, ◌∙◌, ap}
use mathlib.Core.Bool.{Bool, true, false, not, cond}
use Prim.Native.Nat.{ℕ, zero, suc, ◌+◌, ◌*◌, ◌-◌, ◌<◌, ◌≤◌}
use native.Mathlib.Omega.{arith}
use lib.Dec.{T, ltb, ltb→lt, nltb→le}
use lib.IntN.{ℤ, pos, negsuc, neg_ℤ, nat_abs, sub_ℕ, ◌+ℤ◌, ◌*ℤ◌, +ℤ_assoc, +ℤ_comm, +ℤ_idl, +ℤ_idr, *ℤ_comm, neg_ℤ-+ℤ, neg_ℤ-neg_ℤ, zero-*ℤ, *ℤ-zero}

-- ---- the two parts of a number
abbrev pub pos_part : ℤ → ℕ
pos_part (pos n) = n
pos_part (negsuc n) = 0

abbrev pub neg_part : ℤ → ℕ
neg_part (pos n) = 0
neg_part (negsuc n) = suc n

pub abs_parts : (z : ℤ) → nat_abs z ≡ pos_part z + neg_part z
abs_parts (pos n) = omega arith
abs_parts (negsuc n) = omega arith

pub negℤ_pos_part : (z : ℤ) → pos_part (neg_ℤ z) ≡ neg_part z
negℤ_pos_part (pos zero) = refl
negℤ_pos_part (pos (suc n)) = refl
negℤ_pos_part (negsuc n) = refl

pub negℤ_neg_part : (z : ℤ) → neg_part (neg_ℤ z) ≡ pos_part z
negℤ_neg_part (pos zero) = refl
negℤ_neg_part (pos (suc n)) = refl
negℤ_neg_part (negsuc n) = refl

either : (c : Bool) (x y : ℤ) (F : ℤ → Type 0) → (T c → F x) → (T (not c) → F y) → F (cond c x y)
either true x y F f g = f tt
either false x y F f g = g tt

subℕ_parts : (a b : ℕ) → pos_part (sub_ℕ a b) + b ≡ a + neg_part (sub_ℕ a b)
subℕ_parts a b =
    either (ltb a b) (negsuc (b - suc a)) (pos (a - b)) (λ z. pos_part z + b ≡ a + neg_part z)
    (λ t. below (ltb→lt a b t)) (λ t. above (nltb→le a b t))
  where
    below : a < b → 0 + b ≡ a + suc (b - suc a)
    below h = omega arith

    above : b ≤ a → (a - b) + b ≡ a + 0
    above h = omega arith

pub +ℤ_parts : (x y : ℤ) → pos_part (x +ℤ y) + (neg_part x + neg_part y) ≡ (pos_part x + pos_part y) + neg_part (x +ℤ y)
+ℤ_parts (pos a) (pos b) = omega arith
+ℤ_parts (pos a) (negsuc b) = omega (arith, subℕ_parts a (suc b))
+ℤ_parts (negsuc a) (pos b) = omega (arith, subℕ_parts b (suc a))
+ℤ_parts (negsuc a) (negsuc b) = omega arith

pub *ℤ_parts : (x y : ℤ)
    → pos_part (x *ℤ y) + (pos_part x * neg_part y + neg_part x * pos_part y)
    ≡ (pos_part x * pos_part y + neg_part x * neg_part y) + neg_part (x *ℤ y)
*ℤ_parts (pos a) (pos b) = omega arith
*ℤ_parts (pos a) (negsuc b) = omega (arith, negℤ_pos_part (pos (a * suc b)), negℤ_neg_part (pos (a * suc b)))
*ℤ_parts (negsuc a) (pos b) = omega (arith, negℤ_pos_part (pos (suc a * b)), negℤ_neg_part (pos (suc a * b)))
*ℤ_parts (negsuc a) (negsuc b) = omega arith

-- two numbers are equal where the differences of their parts are
pub by_parts : (x y : ℤ) → pos_part x + neg_part y ≡ pos_part y + neg_part x → x ≡ y
by_parts (pos a) (pos b) h = ap pos (omega arith)
by_parts (pos a) (negsuc b) h = absurd (omega arith)
by_parts (negsuc a) (pos b) h = absurd (omega arith)
by_parts (negsuc a) (negsuc b) h = ap negsuc (omega arith)

-- ---- the ring
pub +ℤ_left : (x y z : ℤ) → x +ℤ (y +ℤ z) ≡ y +ℤ (x +ℤ z)
+ℤ_left x y z = sym (+ℤ_assoc x y z) ∙ ap (λ (t : ℤ). t +ℤ z) (+ℤ_comm x y) ∙ +ℤ_assoc y x z

pub *ℤ_+ℤ : (x y z : ℤ) → x *ℤ (y +ℤ z) ≡ x *ℤ y +ℤ x *ℤ z
*ℤ_+ℤ x y z =
    by_parts _ _
    (omega (
      arith,
      *ℤ_parts x (y +ℤ z),
      *ℤ_parts x y,
      *ℤ_parts x z,
      +ℤ_parts (x *ℤ y) (x *ℤ z),
      ap (λ (t : ℕ). pos_part x * t) (+ℤ_parts y z),
      ap (λ (t : ℕ). neg_part x * t) (+ℤ_parts y z),
    ))

pub +ℤ_*ℤ : (x y z : ℤ) → (x +ℤ y) *ℤ z ≡ x *ℤ z +ℤ y *ℤ z
+ℤ_*ℤ x y z = *ℤ_comm (x +ℤ y) z ∙ *ℤ_+ℤ z x y ∙ (λ i. *ℤ_comm z x i +ℤ *ℤ_comm z y i)

pub *ℤ_assoc : (x y z : ℤ) → (x *ℤ y) *ℤ z ≡ x *ℤ (y *ℤ z)
*ℤ_assoc x y z =
    by_parts _ _
    (omega (
      arith,
      *ℤ_parts (x *ℤ y) z,
      *ℤ_parts x (y *ℤ z),
      ap (λ (t : ℕ). t * pos_part z) (*ℤ_parts x y),
      ap (λ (t : ℕ). t * neg_part z) (*ℤ_parts x y),
      ap (λ (t : ℕ). pos_part x * t) (*ℤ_parts y z),
      ap (λ (t : ℕ). neg_part x * t) (*ℤ_parts y z),
    ))

pub *ℤ_left : (x y z : ℤ) → x *ℤ (y *ℤ z) ≡ y *ℤ (x *ℤ z)
*ℤ_left x y z = sym (*ℤ_assoc x y z) ∙ ap (λ (t : ℤ). t *ℤ z) (*ℤ_comm x y) ∙ *ℤ_assoc y x z

pub negℤ_*ℤ : (x y : ℤ) → neg_ℤ x *ℤ y ≡ neg_ℤ (x *ℤ y)
negℤ_*ℤ x y =
    by_parts _ _
    (simp (negℤ_pos_part, negℤ_neg_part)
    (omega (arith, simp (negℤ_pos_part, negℤ_neg_part) at (*ℤ_parts (neg_ℤ x) y), *ℤ_parts x y)))

pub *ℤ_negℤ : (x y : ℤ) → x *ℤ neg_ℤ y ≡ neg_ℤ (x *ℤ y)
*ℤ_negℤ x y = *ℤ_comm x (neg_ℤ y) ∙ negℤ_*ℤ y x ∙ ap neg_ℤ (*ℤ_comm y x)

pub pos_one_*ℤ : (x : ℤ) → pos 1 *ℤ x ≡ x
pos_one_*ℤ x = by_parts _ _ (omega (arith, *ℤ_parts (pos 1) x))

pub *ℤ_pos_one : (x : ℤ) → x *ℤ pos 1 ≡ x
*ℤ_pos_one x = *ℤ_comm x (pos 1) ∙ pos_one_*ℤ x

pub negsuc_zero_*ℤ : (x : ℤ) → negsuc 0 *ℤ x ≡ neg_ℤ x
negsuc_zero_*ℤ x = negℤ_*ℤ (pos 1) x ∙ ap neg_ℤ (pos_one_*ℤ x)

-- an equation of the ring in which nothing cancels: `simp ring`
pub ruleset ring = (+ℤ_assoc, +ℤ_comm, +ℤ_left, *ℤ_assoc, *ℤ_comm, *ℤ_left, *ℤ_+ℤ, +ℤ_*ℤ, neg_ℤ-+ℤ, neg_ℤ-neg_ℤ, negℤ_*ℤ, *ℤ_negℤ, +ℤ_idl, +ℤ_idr, zero-*ℤ, *ℤ-zero, pos_one_*ℤ, *ℤ_pos_one)

pub *ℤ_swap : (x y z : ℤ) → (x *ℤ y) *ℤ z ≡ (x *ℤ z) *ℤ y
*ℤ_swap x y z = simp ring
