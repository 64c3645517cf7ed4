-- `bit_count` meets its contract. Assumes nothing.
use Prim.Native.Nat.{ℕ, zero, suc, ◌+◌, ◌≤◌}
use native.Mathlib.Omega.{arith}
use lib.Dec.{lit≤}
use mir.Facts.{Fits-below}
use Rattle.slot.specs.Slot.{slot_parts, data_chip_count}
use Rattle.bench.proofs.refusals.bit_count.Goals as goal
use Rattle.bench.proofs.refusals.bit_count.Goals.{After-parts_of-p}

-- no type has more data chips than type 2
at_most : (t : ℕ) → data_chip_count t ≤ 2208
unfolding slot_parts
at_most zero = lit≤ tt
at_most (suc zero) = lit≤ tt
at_most (suc (suc zero)) = lit≤ tt
at_most (suc (suc (suc zero))) = lit≤ tt
at_most (suc (suc (suc (suc t)))) = lit≤ tt

chips : (c : After-parts_of-p) → c.parts_of-p.result.field1 + c.parts_of-p.result.field2 ≤ 2208
chips c = rw c.parts_of-p.ensures (at_most c.args.kind)

pub overflow_add-result : goal.overflow_add-result
overflow_add-result c = Fits-below {n = 2208} tt (chips (goal.at.overflow_add-result c).After-parts_of-p)

pub overflow_mul-result : goal.overflow_mul-result
overflow_mul-result c = Fits-below {n = 4416} tt (omega (arith, chips (goal.at.overflow_mul-result c).After-parts_of-p))

pub returns : goal.returns
returns c = rw c.parts_of-p.ensures
