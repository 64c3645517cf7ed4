-- What holds of each of the five spreading factors holds of every one. Assumes nothing.
use mathlib.Core.Path.{◌≡◌, sym, subst}
use mathlib.Core.Bool.{true, false≢true}
use mathlib.Core.List.{List, [], ◌∷◌}
use Prim.Native.Nat.{ℕ, ◌<◌, ◌≤◌}
use native.Mathlib.Decide.{ℕ_discrete}
use native.Mathlib.Omega.{arith}
use borrow.Author.Tests.{ne_eqb}
use Rattle.codes.specs.Tree.{among, spreading_factors, is_spreading_factor}

-- a fact of each number of a list is one of any number among them
abbrev pub All : (ℕ → Type 0) → List ℕ → Type 0
All P [] = Unit {0}
All P (x ∷ xs) = P x × All P xs

pub of_all : (P : ℕ → Type 0) (xs : List ℕ) → All P xs → (n : ℕ) → among n xs ≡ true → P n
of_all P [] a n t = absurd (false≢true t)
of_all P (x ∷ xs) a n t = go (ℕ_discrete n x) (of_all P xs a.1 n)
  where
    go : Dec (n ≡ x) → (among n xs ≡ true → P n) → P n
    go (yes e) r = subst P (sym e) a.0
    go (no e) r = r (rw (ne_eqb n x e) at t)

pub of_factors : (P : ℕ → Type 0) → P 1 → P 2 → P 4 → P 8 → P 16 → (Q : ℕ) → is_spreading_factor Q ≡ true → P Q
of_factors P a b c d e = of_all P spreading_factors (a, (b, (c, (d, (e, tt)))))

pub factor_range : (Q : ℕ) → is_spreading_factor Q ≡ true → (0 < Q) × (Q ≤ 16)
factor_range = of_factors (λ Q. (0 < Q) × (Q ≤ 16)) (omega arith, omega arith) (omega arith, omega arith) (omega arith, omega arith) (omega arith, omega arith) (omega arith, omega arith)
