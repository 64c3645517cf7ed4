-- Rows of 16 signs as the code holds them. Assumes nothing.
use mathlib.Core.Path.{◌≡◌, refl, sym, subst, ap, ◌∙◌}
use mathlib.Core.Bool.{Bool, true, false, cond}
use mathlib.Core.List.{List, []}
use Prim.Native.Nat.{ℕ, ◌+◌, ◌-◌, ◌/◌, ◌%◌, ◌^◌, ◌≤◌, ◌<◌}
use borrow.Author.Tests.{lt-ltb, eqb-true}
use native.Mathlib.Decide.{dec_le}
use native.Mathlib.Nat.{lt_of_not-le}
use native.Mathlib.Numerals.{add-one}
use native.Mathlib.Omega.{arith}
use lib.Dec.{T, eqb, ltb, lit≤}
use lib.IntN.{ℤ, pos, ◌*ℤ◌}
use mir.Syntax.{w32}
use mir.Val.{SFits, to_z, of_z}
use Rattle.complex.specs.Arithmetic.{real, j^}
use Rattle.complex.proofs.Machine.{mul_gives}
use Rattle.complex.proofs.Sizes.{within_mul, fits_within}
use Rattle.complex.proofs.Rotations.{j^-%}
use lib.ListN.{length, get_or-eq_default}
use Rattle.complex.specs.Fits.{Within, Both}
use Rattle.complex.proofs.Components.{both_j^, real_both}
use Rattle.complex.specs.Buffers.{◌at◌}
use Rattle.codes.specs.Signs.{minus_if}
use Rattle.codes.specs.PackedSigns.{packed, sign_bit}
use Rattle.codes.specs.AnnexA.{annex_A}
use Rattle.codes.specs.Scrambling.{annex_row, v, scrambling_element}
use Rattle.codes.specs.Tree.{code}
use Rattle.codes.specs.Range.{each}
use Rattle.codes.specs.SyncCodes.{a, a_signs, b, b_signs}
use Rattle.codes.proofs.Tests.{each_at, same, same→eq}

-- the row has 16 signs, and each is read back from the binary number
unfoldable pub reads_back : List ℤ → Bool
reads_back l = cond (eqb (length l) 16) (each 16 (λ i. same (sign_bit (packed l) i) (l at i))) false

short : (l : List ℤ) → T (reads_back l) → (length l ≡ 16) × T (each 16 (λ i. same (sign_bit (packed l) i) (l at i)))
unfolding reads_back
short l t = go (eqb (length l) 16) refl t
  where
    go : (b : Bool) → eqb (length l) 16 ≡ b → T (cond b (each 16 (λ i. same (sign_bit (packed l) i) (l at i))) false)
        → (length l ≡ 16) × T (each 16 (λ i. same (sign_bit (packed l) i) (l at i)))
    go true e u = (eqb-true (length l) 16 e, u)
    go false e u = absurd u

beyond : (l : List ℤ) (i : ℕ) → length l ≡ 16 → 16 ≤ i → sign_bit (packed l) i ≡ l at i
unfolding sign_bit ◌at◌
beyond l i h g = simp (lt-ltb 15 i (omega arith)) (sym (get_or-eq_default l (pos 0) {n = i} (omega arith)))

pub read_back : (l : List ℤ) → T (reads_back l) → (i : ℕ) → sign_bit (packed l) i ≡ l at i
read_back l t i = go (dec_le 16 i)
  where
    go : Dec (16 ≤ i) → sign_bit (packed l) i ≡ l at i
    go (yes g) = beyond l i (short l t).0 g
    go (no g) = same→eq _ _ (each_at 16 (λ i. same (sign_bit (packed l) i) (l at i)) (short l t).1 i (lt_of_not-le g))

pub minus_if_within : (t : Bool) → Within 1 (minus_if t)
minus_if_within true = record { size = lit≤ tt }
minus_if_within false = record { size = lit≤ tt }

-- a sign's size
pub sign_within : (r i : ℕ) → Within 1 (sign_bit r i)
unfolding sign_bit
sign_within r i = go (ltb 15 i)
  where
    go : (t : Bool) → Within 1 (cond t (pos 0) (minus_if (eqb (r / 2 ^ (15 - i) % 2) 0)))
    go true = record { size = lit≤ tt }
    go false = minus_if_within (eqb (r / 2 ^ (15 - i) % 2) 0)

pub row_within : (l : List ℤ) → T (reads_back l) → (i : ℕ) → Within 1 (l at i)
row_within l t i = subst (Within 1) (read_back l t i) (sign_within (packed l) i)

-- the rows of Annex A
annex_test : T (each 128 (λ p. reads_back (annex_row p)))
unfolding reads_back each same sign_bit ◌at◌
annex_test = tt

pub annex_read_back : (p : ℕ) → p < 128 → (i : ℕ) → sign_bit (packed (annex_row p)) i ≡ annex_row p at i
annex_read_back p h = read_back (annex_row p) (each_at 128 (λ p. reads_back (annex_row p)) annex_test p h)

pub v_at : (p i : ℕ) → v p (i + 1) ≡ annex_row p at i
unfolding v ◌at◌
v_at p i = rw (add-one i)

pub no_row : (p : ℕ) → 128 ≤ p → annex_row p ≡ []
no_row p h = rw (get_or-eq_default annex_A "" {n = p} h)

pub no_row_at : (p i : ℕ) → 128 ≤ p → annex_row p at i ≡ pos 0
unfolding ◌at◌
no_row_at p i h = rw (get_or-eq_default annex_A "" {n = p} h)

pub no_v : (p i : ℕ) → 128 ≤ p → v p (i + 1) ≡ pos 0
no_v p i h = v_at p i ∙ no_row_at p i h

pub v_read_back : (p i : ℕ) → p < 128 → v p (i + 1) ≡ sign_bit (packed (annex_row p)) i
v_read_back p i h = v_at p i ∙ sym (annex_read_back p h i)

pub v_within : (p i : ℕ) → Within 1 (v p (i + 1))
v_within p i = subst (Within 1) (sym (v_at p i)) (go (dec_le 128 p))
  where
    go : Dec (128 ≤ p) → Within 1 (annex_row p at i)
    go (yes g) = subst (Within 1) (sym (no_row_at p i g)) (record { size = lit≤ tt })
    go (no g) = row_within (annex_row p) (each_at 128 (λ p. reads_back (annex_row p)) annex_test p (lt_of_not-le g)) i

pub scrambling_both : (p i : ℕ) → Both 1 (scrambling_element p (i + 1))
unfolding scrambling_element
scrambling_both p i = both_j^ (real_both (v_within p i)) (i + 1)

-- for `sign` of a scrambling code
pub ruleset scrambling_signs = (no_v, v_read_back)

pub v_small : (p i : ℕ) → Both 1 (real (v p (i + 1)))
v_small p i = real_both (v_within p i)

-- the powers of j come again after four
pub power_cycle : (i : ℕ) → j^ (i + 1) ≡ j^ (i % 4 + 1)
power_cycle i =
    let e : (i % 4 + 1) % 4 ≡ (i + 1) % 4 = omega arith in
    sym (j^-% (i + 1)) ∙ ap j^ (sym e) ∙ j^-% (i % 4 + 1)

-- the codes of Q 16
leaf_test : T (each 16 (λ x. reads_back (code 16 x)))
unfolding reads_back each same sign_bit ◌at◌
leaf_test = tt

pub leaf_read_back : (x : ℕ) → x < 16 → (i : ℕ) → sign_bit (packed (code 16 x)) i ≡ code 16 x at i
leaf_read_back x h = read_back (code 16 x) (each_at 16 (λ x. reads_back (code 16 x)) leaf_test x h)

-- the sequences of the sync codes
pub a_test : T (reads_back a)
unfolding reads_back each same sign_bit ◌at◌
a_test = tt

pub a_signs_test : T (reads_back a_signs)
unfolding reads_back each same sign_bit ◌at◌
a_signs_test = tt

pub b_test : T (reads_back b)
unfolding reads_back each same sign_bit ◌at◌
b_test = tt

pub b_signs_test : T (reads_back b_signs)
unfolding reads_back each same sign_bit ◌at◌
b_signs_test = tt

pub a_read_back : (i : ℕ) → sign_bit (packed a) i ≡ a at i
a_read_back = read_back a a_test

pub a_signs_read_back : (i : ℕ) → sign_bit (packed a_signs) i ≡ a_signs at i
a_signs_read_back = read_back a_signs a_signs_test

pub b_read_back : (i : ℕ) → sign_bit (packed b) i ≡ b at i
b_read_back = read_back b b_test

pub a_within : (i : ℕ) → Within 1 (a at i)
a_within = row_within a a_test

pub a_signs_within : (i : ℕ) → Within 1 (a_signs at i)
a_signs_within = row_within a_signs a_signs_test

pub b_within : (i : ℕ) → Within 1 (b at i)
b_within = row_within b b_test

pub unit_product : {x y : ℤ} → Within 1 x → Within 1 y → SFits w32 (x *ℤ y)
unit_product h g = fits_within (within_mul h g) tt

pub product_held : (x y : ℤ) → Within 1 x → Within 1 y → to_z w32 (of_z w32 (to_z w32 (of_z w32 x) *ℤ to_z w32 (of_z w32 y))) ≡ x *ℤ y
product_held x y h g = mul_gives (fits_within h tt) (fits_within g tt) (unit_product h g)

-- for a chip that is the product of two signs
pub ruleset sign_products = (a_within, a_signs_within, b_within, sign_within, unit_product, product_held)
