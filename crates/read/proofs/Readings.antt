-- Readings: sixteen multipliers, which repeat every sixteen chips, give the sum of the definition. Assumes nothing.
use mathlib.Core.Path.{◌≡◌, sym, ap, ap₂, ◌∙◌, subst}
use mathlib.Core.Bool.{true}
use mathlib.Core.List.{List}
use Prim.Native.Nat.{ℕ, ◌+◌, ◌*◌, ◌%◌, ◌<◌, ◌≤◌}
use native.Mathlib.Omega.{arith}
use lib.IntN.{ℤ}
use Rattle.complex.specs.declared.Complex.{Complex}
use Rattle.complex.specs.Arithmetic.{real, ◌⊗◌, conj}
use Rattle.complex.specs.Buffers.{value, in_buffers}
use Rattle.complex.specs.Fits.{Both, Bound}
use Rattle.complex.proofs.Components.{both_more, both-⊗, both_conj, both_sign, both_Σ}
use Rattle.complex.proofs.Lists.{value_in_buffers}
use Rattle.complex.proofs.Ring.{⊗-assoc, ⊗-comm}
use Rattle.complex.proofs.Sums.{Σ_cong}
use Rattle.codes.specs.Scrambling.{scrambling_element}
use Rattle.codes.specs.Tree.{is_spreading_factor, element}
use Rattle.codes.proofs.Factors.{of_factors}
use Rattle.codes.proofs.Leaves.{element_within}
use Rattle.codes.proofs.Rows.{scrambling_both}
use Rattle.read.specs.Multipliers.{multiplier, multiplied_sum}
use Rattle.read.specs.Reading.{reading}

-- ---- a fact of every spreading factor
-- chip i of reading n has element i of the code
abbrev Aligned : ℕ → Type 0
Aligned Q = (n i : ℕ) → i < Q → (n * Q + i) % 16 % Q ≡ i

aligned : (Q : ℕ) → is_spreading_factor Q ≡ true → Aligned Q
aligned = of_factors Aligned (λ n i l. omega arith) (λ n i l. omega arith) (λ n i l. omega arith) (λ n i l. omega arith) (λ n i l. omega arith)

-- ---- the sizes
pub multiplier_both : (p Q k i : ℕ) → Both 1 (multiplier p Q k i)
unfolding multiplier
multiplier_both p Q k i =
    subst (Both 1) (⊗-comm (real (element Q k (i % Q))) (conj (scrambling_element p (i + 1))))
    (both_sign (both_conj (scrambling_both p i)) (element_within Q k (i % Q)))

-- a sum of chips with multipliers from such lists
pub multiplied_sum_both : {re im wre wim : List ℤ} → Bound 100000 re → Bound 100000 im → Bound 1 wre → Bound 1 wim → (from q : ℕ) → q ≤ 16
    → Both 3200000 (multiplied_sum (value re im) (value wre wim) from q)
unfolding multiplied_sum
multiplied_sum_both h g h' g' from q l =
    both_more
    (both_Σ 200000 q _ (λ i _. both-⊗ (record { re = h.at _; im = g.at _ }) (record { re = h'.at _; im = g'.at _ })))
    3200000 (omega arith)

-- ---- the sum
module _ (p Q k : ℕ) (t : is_spreading_factor Q ≡ true) (chip : ℕ → Complex) where
  term : (n i : ℕ) → i < Q
      → chip (n * Q + i) ⊗ value (in_buffers 16 (multiplier p Q k)).re (in_buffers 16 (multiplier p Q k)).im ((n * Q + i) % 16)
      ≡ chip (n * Q + i) ⊗ conj (scrambling_element p (1 + (n * Q + i) % 16)) ⊗ real (element Q k i)
  unfolding multiplier
  term n i l =
      let j = (n * Q + i) % 16 in
      let e : j + 1 ≡ 1 + j = omega arith in
      ap (λ (w : Complex). chip (n * Q + i) ⊗ w)
      (value_in_buffers 16 (multiplier p Q k) j (omega arith)
      ∙ ap₂ (λ (m m' : ℕ). conj (scrambling_element p m) ⊗ real (element Q k m')) e (aligned Q t n i l))
      ∙ sym (⊗-assoc (chip (n * Q + i)) (conj (scrambling_element p (1 + j))) (real (element Q k i)))

  pub reading_is : (n : ℕ) → multiplied_sum chip (value (in_buffers 16 (multiplier p Q k)).re (in_buffers 16 (multiplier p Q k)).im) (n * Q) Q ≡ reading p Q k chip n
  unfolding multiplied_sum reading
  reading_is n = Σ_cong Q _ _ (term n)
