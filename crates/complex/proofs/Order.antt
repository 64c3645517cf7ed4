-- Tests of the order of whole numbers, as facts for `omega`: `omega (arith, lt_z_true, ..)` applies each to every hypothesis that fits.
-- Assumes nothing.
use mathlib.Core.Path.{◌≡◌, refl, sym, subst}
use mathlib.Core.Bool.{true, false}
use Prim.Native.Nat.{ℕ, ◌+◌, ◌≤◌, ◌<◌}
use native.Mathlib.Nat.{mul-le-mul_left}
use native.Mathlib.Omega.{arith}
use borrow.Author.Tests.{leb-true, leb-false, ltb-true, ltb-false, le-leb, lt-leb, lt-ltb, le-ltb}
use lib.Dec.{T}
use lib.IntN.{ℤ, pos, negsuc, ◌*ℤ◌}
use lib.Signed.{le_z, lt_z}
use Rattle.complex.proofs.Integers.{pos_part, neg_part, *ℤ_parts}

pub lt_z_true : (x y : ℤ) → lt_z x y ≡ true → pos_part x + neg_part y < pos_part y + neg_part x
lt_z_true (pos a) (pos b) e = omega (arith, ltb-true a b e)
lt_z_true (pos a) (negsuc b) e = absurd (subst T (sym e) tt)
lt_z_true (negsuc a) (pos b) e = omega arith
lt_z_true (negsuc a) (negsuc b) e = omega (arith, ltb-true b a e)

pub lt_z_false : (x y : ℤ) → lt_z x y ≡ false → pos_part y + neg_part x ≤ pos_part x + neg_part y
lt_z_false (pos a) (pos b) e = omega (arith, ltb-false a b e)
lt_z_false (pos a) (negsuc b) e = omega arith
lt_z_false (negsuc a) (pos b) e = absurd (subst T e tt)
lt_z_false (negsuc a) (negsuc b) e = omega (arith, ltb-false b a e)

pub le_z_true : (x y : ℤ) → le_z x y ≡ true → pos_part x + neg_part y ≤ pos_part y + neg_part x
le_z_true (pos a) (pos b) e = omega (arith, leb-true a b e)
le_z_true (pos a) (negsuc b) e = absurd (subst T (sym e) tt)
le_z_true (negsuc a) (pos b) e = omega arith
le_z_true (negsuc a) (negsuc b) e = omega (arith, leb-true b a e)

pub le_z_false : (x y : ℤ) → le_z x y ≡ false → pos_part y + neg_part x < pos_part x + neg_part y
le_z_false (pos a) (pos b) e = omega (arith, leb-false a b e)
le_z_false (pos a) (negsuc b) e = omega arith
le_z_false (negsuc a) (pos b) e = absurd (subst T e tt)
le_z_false (negsuc a) (negsuc b) e = omega (arith, leb-false b a e)

pub le_le_z : (x y : ℤ) → pos_part x + neg_part y ≤ pos_part y + neg_part x → le_z x y ≡ true
le_le_z (pos a) (pos b) h = le-leb a b (omega arith)
le_le_z (pos a) (negsuc b) h = absurd (omega arith)
le_le_z (negsuc a) (pos b) h = refl
le_le_z (negsuc a) (negsuc b) h = le-leb b a (omega arith)

pub lt_lt_z : (x y : ℤ) → pos_part x + neg_part y < pos_part y + neg_part x → lt_z x y ≡ true
lt_lt_z (pos a) (pos b) h = lt-ltb a b (omega arith)
lt_lt_z (pos a) (negsuc b) h = absurd (omega arith)
lt_lt_z (negsuc a) (pos b) h = refl
lt_lt_z (negsuc a) (negsuc b) h = lt-ltb b a (omega arith)

-- what is not so
pub lt_le_z : (x y : ℤ) → pos_part y + neg_part x < pos_part x + neg_part y → le_z x y ≡ false
lt_le_z (pos a) (pos b) h = lt-leb a b (omega arith)
lt_le_z (pos a) (negsuc b) h = refl
lt_le_z (negsuc a) (pos b) h = absurd (omega arith)
lt_le_z (negsuc a) (negsuc b) h = lt-leb b a (omega arith)

pub le_lt_z : (x y : ℤ) → pos_part y + neg_part x ≤ pos_part x + neg_part y → lt_z x y ≡ false
le_lt_z (pos a) (pos b) h = le-ltb a b (omega arith)
le_lt_z (pos a) (negsuc b) h = refl
le_lt_z (negsuc a) (pos b) h = absurd (omega arith)
le_lt_z (negsuc a) (negsuc b) h = le-ltb b a (omega arith)

-- a factor above 0 keeps the order
pub times_lt_z : (k : ℕ) → 1 ≤ k → (x y : ℤ) → lt_z x y ≡ true → lt_z (pos k *ℤ x) (pos k *ℤ y) ≡ true
times_lt_z k h x y e =
    lt_lt_z (pos k *ℤ x) (pos k *ℤ y)
    (omega (arith, *ℤ_parts (pos k) x, *ℤ_parts (pos k) y, mul-le-mul_left k (lt_z_true x y e)))
