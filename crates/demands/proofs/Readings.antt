-- Readings of a sum of chips add up, and a reading's size is at most Q times that of its chips. Assumes nothing.
use mathlib.Core.Path.{◌≡◌, subst, ◌∙◌}
use Prim.Native.Nat.{ℕ, ◌+◌, ◌*◌, ◌%◌, ◌<◌}
use native.Mathlib.Nat.{add_comm}
use Rattle.complex.specs.declared.Complex.{Complex}
use Rattle.complex.specs.Arithmetic.{real, ◌⊕◌, ◌⊗◌, conj, j^}
use Rattle.complex.specs.Fits.{Within, Both}
use Rattle.complex.proofs.Ring.{products, ⊕-⊗, ⊗-comm, conj-⊗, conj_conj}
use Rattle.complex.proofs.Sums.{Σ_cong, Σ-⊕}
use Rattle.complex.proofs.Components.{both_conj, both_j^, both_sign, both_Σ}
use Rattle.codes.specs.Tree.{element}
use Rattle.codes.specs.Scrambling.{v, scrambling_element}
use Rattle.codes.proofs.Rows.{v_within}
use Rattle.codes.proofs.Leaves.{element_within}
use Rattle.read.specs.Reading.{reading}

pub reading_additive : (p Q k : ℕ) (x y : ℕ → Complex) (n : ℕ) → reading p Q k (λ q. x q ⊕ y q) n ≡ reading p Q k x n ⊕ reading p Q k y n
unfolding reading
reading_additive p Q k x y n =
    Σ_cong Q _ (λ i. of x i ⊕ of y i) (λ i l. rw (⊕-⊗ (x (n * Q + i)) (y (n * Q + i))) (⊕-⊗ _ _ _)) ∙ Σ-⊕ Q (of x) (of y)
  where
    of : (ℕ → Complex) → ℕ → Complex
    of x i = x (n * Q + i) ⊗ conj (scrambling_element p (1 + (n * Q + i) % 16)) ⊗ real (element Q k i)

-- ---- the size of a reading
scrambled_within : {m : ℕ} {x : Complex} (p i : ℕ) → Both m x → Both m (x ⊗ conj (scrambling_element p (1 + i)))
unfolding scrambling_element
scrambled_within {m} {x} p i h =
    subst (Both m) (conjugated (j^ (1 + i)) (real (v p (1 + i))) x)
    (both_conj (both_j^ (both_sign (both_conj h) (subst (λ (k : ℕ). Within 1 (v p k)) (add_comm i 1) (v_within p i))) (1 + i)))
  where
    conjugated : (u w x : Complex) → conj (u ⊗ (w ⊗ conj x)) ≡ x ⊗ conj (u ⊗ w)
    conjugated u w x = simp (conj-⊗, conj_conj, products)

pub reading_within : (p Q k m : ℕ) (x : ℕ → Complex) (n : ℕ) → ((i : ℕ) → i < Q → Both m (x (n * Q + i))) → Both (Q * m) (reading p Q k x n)
unfolding reading
reading_within p Q k m x n h =
    both_Σ m Q _
    (λ i l. subst (Both m) (⊗-comm (real (element Q k i)) (x (n * Q + i) ⊗ conj (scrambling_element p (1 + (n * Q + i) % 16))))
    (both_sign (scrambled_within p ((n * Q + i) % 16) (h i l)) (element_within Q k i)))
