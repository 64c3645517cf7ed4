-- Values of size 1: the powers of j, the complex scrambling elements and the symbols; and values that are 0. Assumes nothing.
use mathlib.Core.Path.{◌≡◌, refl, sym, ap, ◌∙◌}
use mathlib.Core.Bool.{Bool, true, false}
use Prim.Native.Nat.{ℕ, zero, suc, ◌+◌, ◌<◌, ◌≤◌, ◌-◌, ◌/◌, ◌%◌, ◌^◌}
use native.Mathlib.Nat.{add_comm}
use native.Mathlib.Omega.{arith}
use borrow.Author.Tests.{le-ltb}
use lib.Dec.{eqb}
use Rattle.complex.specs.declared.Complex.{Complex}
use Rattle.complex.specs.Arithmetic.{real, 𝟎, 𝟏, 𝐣, ◌⊗◌, conj, j^}
use Rattle.complex.proofs.Ring.{real_zero, products, 𝟏-⊗, ⊗-𝟎, conj-⊗}
use Rattle.codes.specs.Signs.{minus_if}
use Rattle.codes.specs.PackedSigns.{packed, sign_bit}
use Rattle.codes.specs.Scrambling.{annex_row, v, scrambling_element}
use Rattle.codes.proofs.Rows.{v_at, annex_read_back, no_row_at}
use Rattle.modulation.specs.Symbols.{symbol}

abbrev pub IsUnit : Complex → Type 0
IsUnit x = x ⊗ conj x ≡ 𝟏

product_unit : (x y : Complex) → IsUnit x → IsUnit y → IsUnit (x ⊗ y)
product_unit x y p q = arrange x y ∙ rw (p, q, 𝟏-⊗)
  where
    arrange : (x y : Complex) → (x ⊗ y) ⊗ conj (x ⊗ y) ≡ (x ⊗ conj x) ⊗ (y ⊗ conj y)
    arrange x y = simp (conj-⊗, products)

j^_unit : (n : ℕ) → IsUnit (j^ n)
unfolding j^ 𝐣 𝟏 ◌⊗◌ conj
j^_unit zero = refl
j^_unit (suc n) = product_unit 𝐣 (j^ n) refl (j^_unit n)

sign_unit : (t : Bool) → IsUnit (real (minus_if t))
unfolding real 𝟏 ◌⊗◌ conj
sign_unit true = refl
sign_unit false = refl

pub scrambling_unit : (p i : ℕ) → p < 128 → i < 16 → IsUnit (scrambling_element p (1 + i))
unfolding scrambling_element sign_bit
scrambling_unit p i h l = product_unit (j^ (1 + i)) (real (v p (1 + i))) (j^_unit (1 + i)) (rw sign (sign_unit minus))
  where
    minus : Bool
    minus = eqb (packed (annex_row p) / 2 ^ (15 - i) % 2) 0

    sign : v p (1 + i) ≡ minus_if minus
    sign = ap (v p) (add_comm 1 i) ∙ v_at p i ∙ sym (annex_read_back p h i) ∙ rw (le-ltb 15 i (omega arith))

pub symbol_unit : (n : ℕ) → n < 4 → IsUnit (symbol n)
unfolding symbol 𝟎 𝟏 𝐣 ◌⊗◌ conj
symbol_unit zero h = refl
symbol_unit (suc zero) h = refl
symbol_unit (suc (suc zero)) h = refl
symbol_unit (suc (suc (suc zero))) h = refl
symbol_unit (suc (suc (suc (suc n)))) h = absurd (omega arith)

-- ---- and 0
pub conj_zero : conj 𝟎 ≡ 𝟎
unfolding conj 𝟎
conj_zero = refl

-- there is no scrambling code for a parameter above 127
pub no_scrambling : (p i : ℕ) → 128 ≤ p → scrambling_element p (1 + i) ≡ 𝟎
unfolding scrambling_element
no_scrambling p i h = rw (add_comm 1 i, v_at p i, no_row_at p i h, real_zero, ⊗-𝟎)
