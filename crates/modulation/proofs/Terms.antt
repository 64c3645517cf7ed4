-- One code at one chip, as a step of the climb up the tree changes it. Assumes nothing.
use mathlib.Core.Path.{◌≡◌, sym, ap, ap₂, ◌∙◌, subst}
use mathlib.Core.Bool.{Bool, true, false, cond}
use mathlib.Core.List.{List, [], ◌∷◌}
use Prim.Native.Nat.{ℕ, suc, ◌+◌, ◌*◌, ◌/◌, ◌%◌, ◌<◌}
use native.Mathlib.Omega.{arith}
use lib.Dec.{T, eqb, eqb→eq, ltb, ltb→lt}
use lib.IntN.{ℤ, pos, neg_ℤ, ◌+ℤ◌, ◌-ℤ◌, ◌*ℤ◌}
use lib.ListN.{get_or}
use Rattle.complex.proofs.Integers.{ring, +ℤ_*ℤ}
use Rattle.complex.proofs.Lists.{listed_at}
use Rattle.codes.specs.Range.{each}
use Rattle.complex.specs.Buffers.{◌at◌}
use Rattle.codes.specs.Tree.{is_spreading_factor, element, width}
use Rattle.codes.proofs.Tests.{each_at, same, same→eq}
use Rattle.codes.proofs.Leaves.{each_code, at_code}
use Rattle.modulation.specs.SixteenChips.{raised, own, climbed}
use Rattle.modulation.specs.Nodes.{node}
use Rattle.modulation.proofs.Levels.{level_entries}

-- ---- the places and signs of the codes
-- where code (Q, k) has its symbol for chip c, and its sign there
abbrev pub symbol_place : ℕ → ℕ → ℕ → ℕ
symbol_place Q k c = k * width Q + c / Q

abbrev pub code_sign : ℕ → ℕ → ℕ → ℤ
code_sign Q k c = element Q k (c % Q)

-- the first of the two entries that `raised` takes
abbrev first : ℕ → ℕ → ℕ
first Q i = i / width Q * width Q + i % width Q / 2

-- Where two codes lie below (Q, k): the two entries are their places, the first has the code's sign, and the second it or, for an odd entry, its negative.
below : ℕ → ℕ → ℕ → List Bool
below Q k c =
    let i = symbol_place Q k c in
    eqb (first Q i) (symbol_place (2 * Q) (2 * k) c) ∷
    eqb (first Q i + width Q / 2) (symbol_place (2 * Q) (2 * k + 1) c) ∷
    same (code_sign (2 * Q) (2 * k) c) (code_sign Q k c) ∷
    same (code_sign (2 * Q) (2 * k + 1) c) (cond (eqb (i % 2) 0) (code_sign Q k c) (neg_ℤ (code_sign Q k c))) ∷ []

-- for every code: its place lies in the block, in the code's own part
facts : ℕ → ℕ → ℕ → List Bool
facts Q k c = ltb (symbol_place Q k c) 16 ∷ eqb (symbol_place Q k c / width Q) k ∷ cond (eqb Q 16) [] (below Q k c)

facts_test : T (each_code (λ Q k. each 16 (λ c. each 6 (λ j. get_or (facts Q k c) j true))))
unfolding each_code each facts below same element ◌at◌
facts_test = tt

-- so a sum or difference at (Q, k) is the two terms below it
two_terms : (b : Bool) (u v e : ℤ) → cond b (u +ℤ v) (u -ℤ v) *ℤ e ≡ u *ℤ e +ℤ v *ℤ cond b e (neg_ℤ e)
two_terms true u v e = +ℤ_*ℤ u v e
two_terms false u v e = simp ring

-- what the entries x hold for code (Q, k) at chip c
abbrev pub code_entry : List ℤ → ℕ → ℕ → ℕ → ℤ
code_entry x Q k c = get_or x (symbol_place Q k c) (pos 0)

-- ---- one code at one chip
module _ (Q c : ℕ) (q : T (is_spreading_factor Q)) (l : c < 16) (k : ℕ) (h : k < Q) where
  fact : (j : ℕ) → j < 6 → T (get_or (facts Q k c) j true)
  fact j m = each_at 6 _ (each_at 16 _ (at_code _ facts_test Q k q h) c l) j m

  fact_below : eqb Q 16 ≡ false → (j : ℕ) → j < 4 → T (get_or (below Q k c) j true)
  unfolding facts
  fact_below n j m = subst (λ b. T (get_or (cond b [] (below Q k c)) j true)) n (fact (suc (suc j)) (omega arith))

  pub raised_term : (x : List ℤ) → eqb Q 16 ≡ false → raised x Q (symbol_place Q k c) *ℤ code_sign Q k c
      ≡ code_entry x (2 * Q) (2 * k) c *ℤ code_sign (2 * Q) (2 * k) c +ℤ code_entry x (2 * Q) (2 * k + 1) c *ℤ code_sign (2 * Q) (2 * k + 1) c
  unfolding raised below
  raised_term x n =
      let u = code_entry x (2 * Q) (2 * k) c in
      let v = code_entry x (2 * Q) (2 * k + 1) c in
      let even = eqb (symbol_place Q k c % 2) 0 in
      let p : first Q (symbol_place Q k c) ≡ symbol_place (2 * Q) (2 * k) c = eqb→eq _ _ (fact_below n 0 (omega arith)) in
      let r : first Q (symbol_place Q k c) + width Q / 2 ≡ symbol_place (2 * Q) (2 * k + 1) c = eqb→eq _ _ (fact_below n 1 (omega arith)) in
      (λ j. cond (n j) (pos 0) (cond even (get_or x (p j) (pos 0) +ℤ get_or x (r j) (pos 0)) (get_or x (p j) (pos 0) -ℤ get_or x (r j) (pos 0))) *ℤ code_sign Q k c)
      ∙ two_terms even u v (code_sign Q k c)
      ∙ ap₂ (λ a b. u *ℤ a +ℤ v *ℤ b) (sym (same→eq _ _ (fact_below n 2 (omega arith)))) (sym (same→eq _ _ (fact_below n 3 (omega arith))))

  pub climbed_term : (gains : List ℕ) (s x : List ℤ) → code_entry (level_entries gains s Q x) Q k c *ℤ code_sign Q k c
      ≡ raised x Q (symbol_place Q k c) *ℤ code_sign Q k c +ℤ pos (get_or gains (node Q k) 0) *ℤ code_entry s Q k c *ℤ code_sign Q k c
  unfolding own facts
  climbed_term gains s x =
      let part : symbol_place Q k c / width Q ≡ k = eqb→eq _ _ (fact 1 (omega arith)) in
      ap (λ (t : ℤ). t *ℤ code_sign Q k c)
      (listed_at (climbed gains s x Q) (pos 0) 16 (symbol_place Q k c) (ltb→lt _ 16 (fact 0 (omega arith)))
      ∙ ap (λ (m : ℕ). raised x Q (symbol_place Q k c) +ℤ pos (get_or gains (node Q m) 0) *ℤ code_entry s Q k c) part)
      ∙ +ℤ_*ℤ (raised x Q (symbol_place Q k c)) (pos (get_or gains (node Q k) 0) *ℤ code_entry s Q k c) (code_sign Q k c)
