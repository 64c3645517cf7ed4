-- Document 01, "Codes and their tree" (TS 25.223, 6.2).
use Rattle.std.specs.Prelude.{ℤ, pos, neg_ℤ, ℕ, zero, suc, ◌+◌, ◌*◌, ◌-◌, ◌/◌, ◌%◌, List, [], ◌∷◌, ◌++◌, map, Bool, true, false, ◌&&◌, ◌||◌, cond, eqb, leb, ltb}
use Rattle.complex.specs.Buffers.{◌at◌}

-- n stands in the list
abbrev pub among : ℕ → List ℕ → Bool
among n [] = false
among n (m ∷ ms) = cond (eqb n m) true (among n ms)

-- A code is (Q, k): spreading factor Q in 1, 2, 4, 8, 16 and index k from 0 to Q-1.
abbrev pub spreading_factors : List ℕ
spreading_factors = 1 ∷ 2 ∷ 4 ∷ 8 ∷ 16 ∷ []

abbrev pub is_spreading_factor : ℕ → Bool
is_spreading_factor Q = among Q spreading_factors

-- what f gives for each of the five, joined to x by an operation: x + f 1 + f 2 + f 4 + f 8 + f 16 where it is +
abbrev pub over_factors : {A : Type 0} → (A → A → A) → A → (ℕ → A) → A
over_factors {A} join x f = over x spreading_factors
  where
    over : A → List ℕ → A
    over x [] = x
    over x (Q ∷ Qs) = over (join x (f Q)) Qs

abbrev pub is_code : ℕ → ℕ → Bool
is_code Q k = is_spreading_factor Q && ltb k Q

-- the level of a spreading factor in the tree, which is how many factors are smaller: Q is 2 to the power of its level
abbrev pub level : ℕ → ℕ
level Q = over_factors ◌+◌ 0 (λ q. cond (ltb q Q) 1 0)

-- Code (1, 0) is 1. Code (2Q, 2k) is code (Q, k) twice; code (2Q, 2k+1) is code (Q, k) followed by its negative.
abbrev pub code_at_level : ℕ → ℕ → List ℤ
code_at_level zero k = pos 1 ∷ []
code_at_level (suc l) k =
    let c = code_at_level l (k / 2) in
    c ++ cond (eqb (k % 2) 0) c (map neg_ℤ c)

-- code (Q, k); empty where there is no such code
abbrev pub code : ℕ → ℕ → List ℤ
code Q k = cond (is_code Q k) (code_at_level (level Q) k) []

-- its element n, from 0; 0 past its end
unfoldable pub element : ℕ → ℕ → ℕ → ℤ
element Q k n = code Q k at n

-- the index of the code n levels above index k: above (2Q, 2k) and (2Q, 2k+1) stands (Q, k)
abbrev pub up : ℕ → ℕ → ℕ
up zero k = k
up (suc n) k = up n (k / 2)

-- code (Q, k) is code (Q', k') or lies above it in the tree
unfoldable pub at_or_above : ℕ → ℕ → ℕ → ℕ → Bool
at_or_above Q k Q' k' = leb Q Q' && eqb k (up (level Q' - level Q) k')

-- Two codes are related when they are equal or one lies above the other in this tree.
unfoldable pub related : ℕ → ℕ → ℕ → ℕ → Bool
related Q k Q' k' = is_code Q k && is_code Q' k' && (at_or_above Q k Q' k' || at_or_above Q' k' Q k)

-- ---- the tree seen from its leaves, the sixteen codes of Q 16; the law `related_overlap` joins it to the above
-- how many leaves are a code of factor Q or lie below it; 0 where Q is no factor
abbrev pub width : ℕ → ℕ
width Q = cond (is_spreading_factor Q) (16 / Q) 0

-- the intervals [k·16/Q, (k+1)·16/Q) of two codes overlap
unfoldable pub overlap : ℕ → ℕ → ℕ → ℕ → Bool
overlap Q k Q' k' = ltb (k * width Q) (k' * width Q' + width Q') && ltb (k' * width Q') (k * width Q + width Q)
