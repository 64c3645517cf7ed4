-- `arranged` meets its contract. Assumes nothing.
use mathlib.Core.Path.{sym, subst}
use Rattle.complex.specs.Fits.{Both}
use Rattle.codes.specs.declared.burst.AllocationRow.{AllocationRow}
use Rattle.codes.proofs.Allocations.{unit_small}
use Rattle.codes.proofs.burst.arranged.Goals as goal

pub modulated-requires : goal.modulated-requires
modulated-requires c = subst (λ (r : AllocationRow). Both 1 r.unit) (sym c.row_of-r.ensures) (unit_small _ _)

pub modulated-requires-2 : goal.modulated-requires-2
modulated-requires-2 c = subst (λ (r : AllocationRow). Both 1 r.unit) (sym c.row_of-r.ensures) (unit_small _ _)
