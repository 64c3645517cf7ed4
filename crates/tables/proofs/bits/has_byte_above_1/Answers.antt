-- `has_byte_above_1` meets its contract. The loop's invariant: `found` is the answer for the bytes looked at. Assumes nothing.
use Rattle.std.proofs.Common.{refl, arith}
use Rattle.codes.specs.Range.{any}
use Rattle.tables.proofs.Blocks.{any_more}
use Rattle.tables.proofs.bits.has_byte_above_1.Goals as goal

pub loop-bit-init : goal.loop-bit-init
unfolding any
loop-bit-init c = (omega arith, refl)

pub loop-bit-preserved : goal.loop-bit-preserved
loop-bit-preserved c = (omega arith, rw (any_more, c.loop-bit.invariant.1))
