-- `any_clash` meets its contract. The loop's invariant: `found` is the answer for the codes looked at. Assumes nothing.
use Rattle.std.proofs.Common.{refl, arith}
use Rattle.codes.specs.Range.{any}
use Rattle.tables.proofs.Blocks.{any_more}
use Rattle.tables.proofs.gains.any_clash.Goals as goal

pub loop-k2-init : goal.loop-k2-init
unfolding any
loop-k2-init c = (omega arith, refl)

pub loop-k2-preserved : goal.loop-k2-preserved
loop-k2-preserved c = (omega arith, rw (any_more, c.clashes-found.ensures, c.loop-k2.invariant.1))
