-- The two cases as the functions hold them, and the first tests of read sync. Nothing here is document 01's: the contracts of the public calls do not name it.
use Rattle.std.specs.Prelude.{ℤ, ℕ, ◌||◌, not, List, [], ◌∷◌, eqb, length}
use Rattle.codes.specs.Refusals.{RefusalRule, ◌if◌}
use Rattle.analyser_parts.specs.Components.{outside}
use Rattle.read_sync.specs.SyncReading.{sync_length}
use Rattle.read_sync.specs.declared.case.Case.{Case}
use Rattle.read_sync.specs.declared.case.Case.TheVariants.{One, Two}

-- a case's number in document 01
abbrev pub case_number : Case → ℕ
case_number One = 1
case_number Two = 2

-- how many code sets it has, each with 32 candidates
abbrev pub set_count : Case → ℕ
set_count One = 2
set_count Two = 4

-- what the chips are refused for, whatever the case
abbrev pub chip_refusals : List ℤ → List ℤ → List RefusalRule
chip_refusals re im =
    12 if not (eqb (length re) (length im)) ∷
    16 if not (eqb (length re) sync_length) ∷
    17 if (outside re || outside im) ∷ []
