-- How much each symbol of a code weighs in a reading of another: where the two are unrelated, nothing. Assumes nothing.
use mathlib.Core.Path.{◌≡◌, refl, sym, ◌∙◌}
use mathlib.Core.Bool.{Bool, true, false, cond, ◌||◌}
use Prim.Native.Nat.{ℕ, ◌+◌, ◌*◌, ◌/◌, ◌%◌, ◌<◌}
use borrow.Author.Tests.{eq-eqb, ne_eqb}
use lib.Dec.{T, eqb}
use lib.IntN.{ℤ, pos, ◌*ℤ◌}
use Rattle.complex.specs.declared.Complex.{Complex}
use Rattle.complex.specs.Arithmetic.{real, 𝟎, ◌⊗◌, Σ<, Σℤ<}
use Rattle.complex.proofs.Ring.{real_zero, ⊗-𝟎}
use Rattle.complex.proofs.Sums.{Σ_𝟎, Σ_cong, Σ_one, Σ_swap, ⊗-Σ, real_Σ}
use Rattle.complex.specs.Buffers.{◌at◌}
use Rattle.codes.specs.Range.{each}
use Rattle.codes.specs.Tree.{is_code, element, related, at_or_above}
use Rattle.codes.proofs.Tests.{each_at, same, same→eq}
use Rattle.codes.proofs.Leaves.{each_code}
use Rattle.orthogonality.proofs.Codes.{at_every_code}

-- ---- the one test
-- In a block of sixteen chips: the sum of what multiplies symbol m of code (Q, k) in reading r of code (Q', k')
unfoldable pub weight : ℕ → ℕ → ℕ → ℕ → ℕ → ℕ → ℤ
weight Q k Q' k' r m =
    Σℤ< Q' (λ i. cond (eqb ((r * Q' + i) / Q) m) (element Q k ((r * Q' + i) % Q) *ℤ element Q' k' i) (pos 0))

weightless : ℕ → ℕ → ℕ → ℕ → Bool
weightless Q k Q' k' = related Q k Q' k' || each (16 / Q') (λ r. each (16 / Q) (λ m. same (weight Q k Q' k' r m) (pos 0)))

weightless_test : T (each_code (λ Q k. each_code (weightless Q k)))
unfolding each_code each weightless weight same related at_or_above Σℤ< element ◌at◌
weightless_test = tt

pub no_weight : (Q k Q' k' : ℕ) → is_code Q k ≡ true → is_code Q' k' ≡ true → related Q k Q' k' ≡ false
    → (r m : ℕ) → r < 16 / Q' → m < 16 / Q → weight Q k Q' k' r m ≡ pos 0
unfolding weightless
no_weight Q k Q' k' c c' u r m l l' =
    same→eq (weight Q k Q' k' r m) (pos 0)
    (each_at (16 / Q) (λ m. same (weight Q k Q' k' r m) (pos 0))
    (each_at (16 / Q') (λ r. each (16 / Q) (λ m. same (weight Q k Q' k' r m) (pos 0)))
    (rw u at (at_every_code (weightless Q k) (at_every_code (λ Q k. each_code (weightless Q k)) weightless_test Q k c) Q' k' c')) r l) m l')

-- ---- a sum by places, gathered by the symbols that stand at them: it is 0 where no symbol has weight
module _ (f : ℕ → Complex) (place : ℕ → ℕ) (e : ℕ → ℤ) (K n : ℕ) (h : (i : ℕ) → i < n → place i < K) where
  part : ℕ → ℕ → ℤ
  part i m = cond (eqb (place i) m) (e i) (pos 0)

  one : (i : ℕ) → i < n → f (place i) ⊗ real (e i) ≡ Σ< K (λ m. f m ⊗ real (part i m))
  unfolding part
  one i l =
      sym
      (Σ_one K (λ m. f m ⊗ real (part i m)) (place i) (h i l) (λ m g d. rw (ne_eqb (place i) m (λ q. d (sym q)), real_zero, ⊗-𝟎))
      ∙ rw (eq-eqb (place i) (place i) refl))

  pub weightless_sum : ((m : ℕ) → m < K → Σℤ< n (λ i. cond (eqb (place i) m) (e i) (pos 0)) ≡ pos 0) → Σ< n (λ i. f (place i) ⊗ real (e i)) ≡ 𝟎
  unfolding part
  weightless_sum w =
      Σ_cong n _ (λ i. Σ< K (λ m. f m ⊗ real (part i m))) one
      ∙ Σ_swap n K (λ i m. f m ⊗ real (part i m))
      ∙ Σ_cong K _ (λ m. 𝟎) (λ m l. sym (⊗-Σ n (λ i. real (part i m)) (f m)) ∙ rw (← (real_Σ n (λ i. part i m)), w m l, real_zero, ⊗-𝟎))
      ∙ Σ_𝟎 K
