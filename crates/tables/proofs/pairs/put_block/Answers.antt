-- `put_block` meets its contract. The loop's invariant: the first i entries of the block are written. Assumes nothing.
use Rattle.std.proofs.Common.{rules}
use mathlib.Core.Path.{◌≡◌}
use native.Mathlib.Omega.{arith}
use lib.ListN.{length-set}
use Rattle.tables.specs.PairChanges.{with_part}
use Rattle.tables.proofs.Entries.{part, all_entries, no_part, one_more_in_part}
use Rattle.tables.proofs.pairs.put_block.Goals as goal

pub loop-i-init : goal.loop-i-init
loop-i-init c = (omega arith, search rules, no_part _ _ _)

pub inner_pair-requires : goal.inner_pair-requires
inner_pair-requires c = (omega arith, c.requires.2)

pub loop-i-preserved : goal.loop-i-preserved
loop-i-preserved c =
    let l = c.loop-i in
    (omega arith, simp length-set l.invariant.1, rw c.inner_pair.ensures (one_more_in_part _ _ l.i (omega arith) l.invariant.2))

pub returns : goal.returns
unfolding with_part part
returns c =
    let l = c.loop-i in
    let e : l.i ≡ 16 = omega arith in
    all_entries l.invariant.1 (rw e at l.invariant.2)
