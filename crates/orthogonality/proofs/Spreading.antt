-- What a reading hears of the symbols that one code spreads: its own come back Q times, those of an unrelated code not at all.
-- Assumes nothing.
use mathlib.Core.Path.{◌≡◌, sym, ◌∙◌, subst}
use mathlib.Core.Bool.{true, false}
use Prim.Native.Nat.{ℕ, ◌+◌, ◌*◌, ◌/◌, ◌%◌, ◌<◌}
use native.Mathlib.Omega.{arith}
use lib.Dec.{T}
use lib.IntN.{ℤ, pos, ◌*ℤ◌}
use Rattle.complex.specs.declared.Complex.{Complex}
use Rattle.complex.specs.Arithmetic.{real, 𝟎, ◌⊗◌, conj, Σℤ<}
use Rattle.complex.proofs.Ring.{products, 𝟏-⊗, ⊗-comm, real_*ℤ}
use Rattle.complex.proofs.Sums.{Σ_cong, ⊗-Σ, real_Σ}
use Rattle.complex.specs.Buffers.{◌at◌}
use Rattle.codes.specs.Range.{each}
use Rattle.codes.specs.Scrambling.{scrambling_element}
use Rattle.codes.specs.Tree.{is_code, element, related}
use Rattle.codes.proofs.Tests.{same, same→eq}
use Rattle.codes.proofs.Leaves.{each_code}
use Rattle.read.specs.Reading.{reading}
use Rattle.orthogonality.proofs.Blocks.{Blocks, blocks}
use Rattle.orthogonality.proofs.Codes.{code_parts, at_every_code}
use Rattle.orthogonality.proofs.Units.{IsUnit, scrambling_unit}
use Rattle.orthogonality.proofs.Weights.{weight, no_weight, weightless_sum}

-- chip q of the symbols f, spread by code (Q, k) and scrambled
unfoldable pub spread : ℕ → ℕ → ℕ → (ℕ → Complex) → ℕ → Complex
spread p Q k f q = f (q / Q) ⊗ real (element Q k (q % Q)) ⊗ scrambling_element p (1 + q % 16)

-- the reading takes the scrambling off
unscrambled : (x a s b : Complex) → IsUnit s → x ⊗ a ⊗ s ⊗ conj s ⊗ b ≡ x ⊗ (a ⊗ b)
unscrambled x a s b h = arrange x a s (conj s) b ∙ rw (h, 𝟏-⊗)
  where
    arrange : (x a s t b : Complex) → x ⊗ a ⊗ s ⊗ t ⊗ b ≡ (s ⊗ t) ⊗ (x ⊗ (a ⊗ b))
    arrange x a s t b = simp products

squares_test : T (each_code (λ Q k. same (Σℤ< Q (λ i. element Q k i *ℤ element Q k i)) (pos Q)))
unfolding each_code each same Σℤ< element ◌at◌
squares_test = tt

module _ (p : ℕ) (h : p < 128) (Q k : ℕ) (c : is_code Q k ≡ true) (f : ℕ → Complex) where
  b : Blocks Q
  b = blocks Q (code_parts Q k c).0

  -- a code's own reading
  pub own_spread : (n : ℕ) → reading p Q k (spread p Q k f) n ≡ real (pos Q) ⊗ f n
  unfolding reading spread
  own_spread n =
      Σ_cong Q _ (λ i. f n ⊗ real (element Q k i *ℤ element Q k i))
      (λ i l. unscrambled _ _ _ _ (scrambling_unit p ((n * Q + i) % 16) h (omega arith)) ∙ rw (b.own_symbol n i l, b.own_element n i l, ← real_*ℤ))
      ∙ sym (⊗-Σ Q (λ i. real (element Q k i *ℤ element Q k i)) (f n))
      ∙ rw (← (real_Σ Q (λ i. element Q k i *ℤ element Q k i)), same→eq _ (pos Q) (at_every_code _ squares_test Q k c)) (⊗-comm (f n) (real (pos Q)))

  -- a reading of another code, unrelated to it
  module _ (Q' k' : ℕ) (c' : is_code Q' k' ≡ true) (u : related Q k Q' k' ≡ false) where
    b' : Blocks Q'
    b' = blocks Q' (code_parts Q' k' c').0

    in_block : (m r : ℕ) → r < 16 / Q' → reading p Q' k' (spread p Q k f) (m * (16 / Q') + r) ≡ 𝟎
    unfolding reading spread weight
    in_block m r l =
        Σ_cong Q' _ (λ i. f (m * (16 / Q) + t i / Q) ⊗ real (signs i))
        (λ i g. unscrambled _ _ _ _ (scrambling_unit p (((m * (16 / Q') + r) * Q' + i) % 16) h (omega arith))
        ∙ rw (b'.place m r i, b.divided m (t i), b.left m (t i), ← real_*ℤ))
        ∙ weightless_sum (λ j. f (m * (16 / Q) + j)) (λ i. t i / Q) signs (16 / Q) Q' (λ i g. b.below (t i) (b'.inside r i l g))
        (λ j g. no_weight Q k Q' k' c c' u r j l g)
      where
        -- chip i of the reading, in its block
        t : ℕ → ℕ
        t i = r * Q' + i

        signs : ℕ → ℤ
        signs i = element Q k (t i % Q) *ℤ element Q' k' i

    pub other_spread : (n : ℕ) → reading p Q' k' (spread p Q k f) n ≡ 𝟎
    other_spread n =
        subst (λ (n : ℕ). reading p Q' k' (spread p Q k f) n ≡ 𝟎) (b'.symbol n)
        (in_block (n / (16 / Q')) (n % (16 / Q')) (b'.symbol_below n))
