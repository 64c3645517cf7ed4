-- `secondary_row` meets its contract: each row is computed from the definition. Assumes nothing.
use mathlib.Core.Path.{sym, ap}
use native.Mathlib.Omega.{arith}
use borrow.Author.Tests.{le-ltb}
use lib.Count.{ones, ones_in}
use Rattle.complex.specs.Buffers.{◌at◌}
use Rattle.codes.specs.SyncCodes.{hadamard}
use Rattle.codes.specs.PackedSigns.{secondary_row}
use Rattle.codes.proofs.sync.secondary_row.Goals as goal

pub returns-in-0 : goal.returns-in-0
unfolding secondary_row hadamard ones ones_in ◌at◌
returns-in-0 c = sym (ap secondary_row c.in-0.is)

pub returns-in-1 : goal.returns-in-1
unfolding secondary_row hadamard ones ones_in ◌at◌
returns-in-1 c = sym (ap secondary_row c.in-1.is)

pub returns-in-2 : goal.returns-in-2
unfolding secondary_row hadamard ones ones_in ◌at◌
returns-in-2 c = sym (ap secondary_row c.in-2.is)

pub returns-in-3 : goal.returns-in-3
unfolding secondary_row hadamard ones ones_in ◌at◌
returns-in-3 c = sym (ap secondary_row c.in-3.is)

pub returns-in-4 : goal.returns-in-4
unfolding secondary_row hadamard ones ones_in ◌at◌
returns-in-4 c = sym (ap secondary_row c.in-4.is)

pub returns-in-5 : goal.returns-in-5
unfolding secondary_row hadamard ones ones_in ◌at◌
returns-in-5 c = sym (ap secondary_row c.in-5.is)

pub returns-in-6 : goal.returns-in-6
unfolding secondary_row hadamard ones ones_in ◌at◌
returns-in-6 c = sym (ap secondary_row c.in-6.is)

pub returns-in-7 : goal.returns-in-7
unfolding secondary_row hadamard ones ones_in ◌at◌
returns-in-7 c = sym (ap secondary_row c.in-7.is)

pub returns-in-8 : goal.returns-in-8
unfolding secondary_row hadamard ones ones_in ◌at◌
returns-in-8 c = sym (ap secondary_row c.in-8.is)

pub returns-in-9 : goal.returns-in-9
unfolding secondary_row hadamard ones ones_in ◌at◌
returns-in-9 c = sym (ap secondary_row c.in-9.is)

pub returns-in-10 : goal.returns-in-10
unfolding secondary_row hadamard ones ones_in ◌at◌
returns-in-10 c = sym (ap secondary_row c.in-10.is)

pub returns-in-11 : goal.returns-in-11
unfolding secondary_row hadamard ones ones_in ◌at◌
returns-in-11 c = sym (ap secondary_row c.in-11.is)

pub returns-in-12 : goal.returns-in-12
unfolding secondary_row hadamard ones ones_in ◌at◌
returns-in-12 c = sym (ap secondary_row c.in-12.is)

pub returns-in-13 : goal.returns-in-13
unfolding secondary_row hadamard ones ones_in ◌at◌
returns-in-13 c = sym (ap secondary_row c.in-13.is)

pub returns-in-14 : goal.returns-in-14
unfolding secondary_row hadamard ones ones_in ◌at◌
returns-in-14 c = sym (ap secondary_row c.in-14.is)

pub returns-in-15 : goal.returns-in-15
unfolding secondary_row hadamard ones ones_in ◌at◌
returns-in-15 c = sym (ap secondary_row c.in-15.is)

pub returns-in_default : goal.returns-in_default
unfolding secondary_row hadamard ones ones_in ◌at◌
returns-in_default c = simp (le-ltb c.args.i 16 (omega arith))
