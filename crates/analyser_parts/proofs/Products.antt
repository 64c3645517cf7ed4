-- When a sum of two products fits 64 bits, by the sizes of the factors, and which product it is. Assumes nothing.
use mathlib.Core.Path.{◌≡◌, sym, subst}
use mathlib.Core.Bool.{Bool}
use Prim.Native.Nat.{ℕ, ◌+◌, ◌*◌, ◌^◌}
use lib.Dec.{T, ltb}
use lib.IntN.{ℤ, neg_ℤ, ◌+ℤ◌, ◌-ℤ◌, ◌*ℤ◌, +ℤ_comm}
use lib.Signed.{lt_z}
use mir.Syntax.{w64}
use mir.Val.{SFits, to_z, of_z}
use mir.Facts.{to_z-of_z}
use Rattle.complex.specs.declared.Complex.{Complex}
use Rattle.complex.specs.Arithmetic.{◌+j◌, ◌⊗◌, conj}
use Rattle.complex.specs.Fits.{Within}
use Rattle.complex.proofs.Integers.{ring}
use Rattle.complex.proofs.Ring.{by_components}
use Rattle.complex.proofs.Sizes.{within_add, within_mul, fits_within}

-- at sizes that compute: `products_fit h g h' g' tt tt tt`
pub products_fit : {k l m n : ℕ} {a b c d : ℤ} → Within k a → Within l b → Within m c → Within n d
    → T (ltb (k * l) (2 ^ 63)) → T (ltb (m * n) (2 ^ 63)) → T (ltb (k * l + m * n) (2 ^ 63))
    → SFits w64 (a *ℤ b) × SFits w64 (c *ℤ d) × SFits w64 (a *ℤ b +ℤ c *ℤ d)
products_fit h g h' g' t u v =
    (fits_within (within_mul h g) t, fits_within (within_mul h' g') u, fits_within (within_add (within_mul h g) (within_mul h' g')) v)

-- the size of what a local holds
pub held : {k : ℕ} {x y : ℤ} → x ≡ y → Within k y → Within k x
held {k} e h = subst (Within k) (sym e) h

-- a test of two numbers at 64 bits, as the locals hold them
pub compared : {x y : ℤ} {t : Bool} → SFits w64 x → SFits w64 y → lt_z (to_z w64 (of_z w64 x)) (to_z w64 (of_z w64 y)) ≡ t → lt_z x y ≡ t
compared f g e = rw (to_z-of_z f, to_z-of_z g) at e

-- the components of a product with a conjugate
pub times_conj : (s p : Complex) → s ⊗ conj p ≡ (s.re *ℤ p.re +ℤ s.im *ℤ p.im) +j (s.im *ℤ p.re +ℤ s.re *ℤ neg_ℤ p.im)
unfolding ◌⊗◌ conj
times_conj s p = by_components (by s.re s.im p.re p.im) (+ℤ_comm (s.re *ℤ neg_ℤ p.im) (s.im *ℤ p.re))
  where
    by : (a b c d : ℤ) → a *ℤ c -ℤ b *ℤ neg_ℤ d ≡ a *ℤ c +ℤ b *ℤ d
    by a b c d = simp ring
