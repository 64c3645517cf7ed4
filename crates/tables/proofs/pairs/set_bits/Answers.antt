-- `set_bits` meets its contract. The loop's invariant: the first m blocks are written; the length of an array behind a reference is known
-- from the first `put_part` on. Assumes nothing.
use mathlib.Core.Path.{◌≡◌}
use Prim.Native.Nat.{◌+◌, ◌*◌, ◌≤◌, ◌<◌}
use native.Mathlib.Nat.{mul-le-mul_right}
use native.Mathlib.Omega.{arith}
use Rattle.tables.specs.Bits.{pairs_with_bits}
use Rattle.tables.proofs.Blocks.{pairs_in_block}
use Rattle.tables.proofs.Entries.{all_entries, no_block, one_more_block, all_blocks}
use Rattle.tables.proofs.pairs.set_bits.Goals as goal
use Rattle.tables.proofs.pairs.set_bits.Goals.{After-width-w, In-loop-m}

-- the code's part of a block
inside : (c : After-width-w) → let w = c.width-w.result in (0 < w) × (c.args.code.k * w + w ≤ 16)
inside c = rw c.width-w.ensures (pairs_in_block c.args.code.q c.args.code.k c.args.code.factor c.args.code.below)

-- a turn takes pairs that are among the first 2,208
enough : (c : In-loop-m) → let w = c.width-w.result in c.loop-m.m * w + w ≤ 2208
enough c =
    let w = c.width-w.result in
    let l : c.loop-m.m + 1 ≤ 138 = omega arith in
    let i : (0 < w) × (c.args.code.k * w + w ≤ 16) = rw c.width-w.ensures (pairs_in_block c.args.code.q c.args.code.k c.args.code.factor c.args.code.below) in
    omega (arith, mul-le-mul_right w l, i.1)

pub overflow_mul-from : goal.overflow_mul-from
overflow_mul-from c = omega (arith, inside (goal.at.overflow_mul-from c).After-width-w)

pub loop-m-init : goal.loop-m-init
loop-m-init c = (omega arith, λ l. absurd (omega arith), no_block _ _ _ _)

pub overflow_add-m : goal.overflow_add-m
overflow_add-m c = omega (arith, inside (goal.at.overflow_add-m c).After-width-w)

pub overflow_mul-m-in-loop-m : goal.overflow_mul-m-in-loop-m
overflow_mul-m-in-loop-m c = omega (arith, enough (goal.at.overflow_mul-m-in-loop-m c).In-loop-m)

pub put_part-requires : goal.put_part-requires
put_part-requires c =
    (omega (arith, inside (goal.at.put_part-requires c).After-width-w), enough (goal.at.put_part-requires c).In-loop-m, c.requires.0, c.requires.1)

pub loop-m-preserved : goal.loop-m-preserved
loop-m-preserved c =
    let i = inside (goal.at.loop-m-preserved c).After-width-w in
    let n = rw (← c.put_part.ensures) at (one_more_block _ _ _ c.loop-m.m i.0 i.1 c.loop-m.invariant.2) in
    (omega arith, λ l. n.0, n.1)

pub returns : goal.returns
unfolding pairs_with_bits
returns c =
    let l = c.loop-m in
    let e : l.m ≡ 138 = omega arith in
    all_entries (l.invariant.1 (omega arith)) (all_blocks _ _ _ (rw (e, c.width-w.ensures) at l.invariant.2))
