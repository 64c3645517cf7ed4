-- The refusals of read in the parts that its functions test. Nothing here is document 01's: the contract of read does not name it.
use Rattle.std.specs.Prelude.{ℤ, ℕ, List, [], ◌∷◌, ◌||◌, not, eqb, leb, length}
use Rattle.codes.specs.Refusals.{RefusalRule, ◌if◌}
use Rattle.codes.specs.CodeRefusals.{code_refusals}
use Rattle.analyser_parts.specs.Components.{outside}
use Rattle.read.specs.Reading.{bad_field_length}

-- the first three: those of the cell parameter and the code
abbrev pub reader_refusals : ℕ → ℕ → ℕ → List RefusalRule
reader_refusals p Q k = 1 if leb 128 p ∷ code_refusals Q k

-- the next three: those of the field
abbrev pub field_refusals : List ℤ → List ℤ → List RefusalRule
field_refusals re im = 12 if not (eqb (length re) (length im)) ∷ 16 if bad_field_length (length re) ∷ 17 if (outside re || outside im) ∷ []
