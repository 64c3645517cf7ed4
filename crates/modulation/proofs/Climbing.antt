-- The climb up the tree: each level's entries, spread by its codes, are what this level and all below it add to a chip. The sums and differences are
-- the tree's signs, which the code has in this form alone: the laws here hold them to `element` of `codes`. Assumes nothing.
use mathlib.Core.Path.{◌≡◌, refl, sym, ap, ◌∙◌}
use mathlib.Core.Bool.{false}
use mathlib.Core.List.{List}
use Prim.Native.Nat.{ℕ, ◌+◌, ◌*◌, ◌/◌, ◌%◌, ◌<◌}
use native.Mathlib.Omega.{arith}
use lib.Dec.{T, eqb}
use lib.IntN.{ℤ, pos, ◌+ℤ◌, ◌*ℤ◌, +ℤ_assoc, +ℤ_comm, +ℤ_idl, zero-*ℤ}
use lib.ListN.{get_or}
use Rattle.complex.specs.Arithmetic.{Σℤ<}
use Rattle.complex.specs.Buffers.{listed, ◌at◌}
use Rattle.complex.proofs.Integers.{+ℤ_left, *ℤ_pos_one}
use Rattle.complex.proofs.Lists.{listed_at, listed_cong}
use Rattle.complex.proofs.Sums.{Σℤ_cong, Σℤ-+, Σℤ_pairs}
use Rattle.codes.specs.Tree.{is_spreading_factor, element}
use Rattle.modulation.specs.SixteenChips.{level_sum, summed, raised, climbed}
use Rattle.modulation.proofs.Levels.{level_entries}
use Rattle.modulation.proofs.Terms.{symbol_place, code_sign, code_entry, raised_term, climbed_term}

-- the entries x of level Q, spread by its codes
unfoldable low : ℕ → List ℤ → ℕ → ℤ
low Q x c = Σℤ< Q (λ k. code_entry x Q k c *ℤ code_sign Q k c)

-- and what `raised` makes of the entries x of the level below it
raised_low : List ℤ → ℕ → ℕ → ℤ
raised_low x Q c = Σℤ< Q (λ k. raised x Q (symbol_place Q k c) *ℤ code_sign Q k c)

module _ (gains : List ℕ) (s : List ℤ) (c : ℕ) (l : c < 16) where
  climbed_low : (Q : ℕ) → T (is_spreading_factor Q) → (x : List ℤ) → low Q (level_entries gains s Q x) c ≡ raised_low x Q c +ℤ level_sum gains s Q c
  unfolding low raised_low level_sum
  climbed_low Q q x = Σℤ_cong Q _ _ (λ k h. climbed_term Q c q l k h gains s x) ∙ Σℤ-+ Q _ _

  -- one level up: this level's share is added to what those below it make
  step : (Q : ℕ) → T (is_spreading_factor Q) → eqb Q 16 ≡ false → (x : List ℤ) → low Q (level_entries gains s Q x) c ≡ low (2 * Q) x c +ℤ level_sum gains s Q c
  unfolding low raised_low
  step Q q n x =
      climbed_low Q q x
      ∙ ap (λ (t : ℤ). t +ℤ level_sum gains s Q c) (Σℤ_cong Q _ _ (λ k h. raised_term Q c q l k h x n) ∙ sym (Σℤ_pairs Q _))

  -- level 16 has none below
  last : (x : List ℤ) → low 16 (level_entries gains s 16 x) c ≡ level_sum gains s 16 c
  unfolding raised_low Σℤ< raised
  last x = climbed_low 16 tt x ∙ simp (zero-*ℤ, +ℤ_idl)

  -- level 1 has one code, which is 1
  top : (x : List ℤ) → low 1 x c ≡ get_or x c (pos 0)
  unfolding low Σℤ< element ◌at◌
  top x =
      let p : 0 * 16 + c / 1 ≡ c = omega arith in
      let r : c % 1 ≡ 0 = omega arith in
      +ℤ_idl _ ∙ (λ j. get_or x (p j) (pos 0) *ℤ element 1 0 (r j)) ∙ *ℤ_pos_one (get_or x c (pos 0))

  climbed_chip : (x : List ℤ) → climbed gains s x 1 c ≡ low 2 x c +ℤ level_sum gains s 1 c
  climbed_chip x = sym (listed_at (climbed gains s x 1) (pos 0) 16 c l) ∙ sym (top (level_entries gains s 1 x)) ∙ step 1 tt refl x

-- from level 16 up to level 1
pub climbed_all : (gains : List ℕ) (s x : List ℤ) {x₁₆ x₈ x₄ x₂ x₁ : List ℤ} → x₁₆ ≡ level_entries gains s 16 x → x₈ ≡ level_entries gains s 8 x₁₆ → x₄ ≡ level_entries gains s 4 x₈
    → x₂ ≡ level_entries gains s 2 x₄ → x₁ ≡ level_entries gains s 1 x₂ → x₁ ≡ listed 16 (summed gains s)
unfolding summed
climbed_all gains s x {x₂ = x₂} e₁₆ e₈ e₄ e₂ e₁ = e₁ ∙ listed_cong 16 _ _ at_chip
  where
    at_chip : (c : ℕ) → c < 16 → climbed gains s x₂ 1 c ≡ summed gains s c
    at_chip c l = climbed_chip gains s c l x₂ ∙ rw (e₂, step gains s c l 2 tt refl, e₄, step gains s c l 4 tt refl, e₈, step gains s c l 8 tt refl, e₁₆, last) (simp (+ℤ_idl, +ℤ_assoc, +ℤ_comm, +ℤ_left))
