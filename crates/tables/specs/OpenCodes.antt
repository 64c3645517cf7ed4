-- Which codes are open in the table of gains, as the functions ask for it. Nothing here is document 01's: the contracts of the bench's calls do not name it.
use Rattle.std.specs.Prelude.{ℕ, ◌/◌, Bool, false, ◌&&◌, ◌||◌, List}
use Rattle.codes.specs.Tree.{over_factors, related, width}
use Rattle.modulation.specs.Nodes.{open_at}

-- code (Q', k') is open and related to (Q, k)
abbrev pub clashes : List ℕ → ℕ → ℕ → ℕ → ℕ → Bool
clashes gains Q k Q' k' = open_at gains Q' k' && related Q' k' Q k

-- a test passes at some code that has leaf l: one code of each factor has it
abbrev pub some_over : (ℕ → ℕ → Bool) → ℕ → Bool
some_over f l = over_factors ◌||◌ false (λ Q. f Q (l / width Q))

-- leaf l is an open code or lies below one
unfoldable pub is_leaf_open : List ℕ → ℕ → Bool
is_leaf_open gains = some_over (open_at gains)
