-- The two cases, by their numbers. Assumes nothing.
use mathlib.Core.Path.{◌≡◌, refl}
use Prim.Native.Nat.{◌*◌, ◌<◌}
use lib.Dec.{lit<}
use Rattle.read_sync.specs.SyncReading.{candidate_count}
use Rattle.read_sync.specs.Cases.{case_number, set_count}
use Rattle.read_sync.specs.declared.case.Case.{Case}
use Rattle.read_sync.specs.declared.case.Case.TheVariants.{One, Two}

pub number_below : (c : Case) → case_number c < 3
number_below One = lit< tt
number_below Two = lit< tt

pub sets_are : (c : Case) → set_count c ≡ 2 * case_number c
sets_are One = refl
sets_are Two = refl

pub count_is : (c : Case) → candidate_count (case_number c) ≡ 32 * set_count c
count_is One = refl
count_is Two = refl
