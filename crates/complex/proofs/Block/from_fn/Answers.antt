-- `Block::from_fn` meets its contract: the loop fills both arrays. Assumes nothing.
use native.Mathlib.Omega.{arith}
use borrow.Author.Rules.{rules}
use Rattle.complex.proofs.Blocks.{filled_none, filled_more, filled_all}
use Rattle.complex.proofs.Block.from_fn.Goals as goal

pub loop-i-init : goal.loop-i-init
loop-i-init g c of h = filled_none

pub loop-i-preserved : goal.loop-i-preserved
loop-i-preserved g c of h =
    filled_more (c.loop-i.invariant of h) (omega arith) c.f-z.result (search rules) (h _ _ (omega arith) (c.f-z.ensures))

pub returns : goal.returns
returns g c of h = filled_all (c.loop-i.invariant of h) (omega arith)
