-- The refusals that calls of a code begin with, as the functions test them. Nothing here is document 01's: the contracts of the calls do not name it.
use Rattle.std.specs.Prelude.{ℕ, List, [], ◌∷◌, not, leb}
use Rattle.codes.specs.Refusals.{RefusalRule, ◌if◌}
use Rattle.codes.specs.Tree.{is_spreading_factor}

-- the first two refusals of each call that takes a code
abbrev pub code_refusals : ℕ → ℕ → List RefusalRule
code_refusals Q k = 3 if not (is_spreading_factor Q) ∷ 4 if leb Q k ∷ []
