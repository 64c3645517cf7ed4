-- `is_leaf_open` meets its contract: level by level of the tree. Assumes nothing.
use Rattle.std.proofs.Common.{◌≡◌, ◌/◌, ◌||◌, arith}
use Rattle.modulation.specs.Nodes.{open_at}
use Rattle.tables.specs.OpenCodes.{is_leaf_open}
use Rattle.tables.proofs.pairs.is_leaf_open.Goals as goal

pub returns : goal.returns
unfolding is_leaf_open
returns c =
    let l = c.args.l in
    let first : 0 ≡ l / 16 = omega (arith, c.requires) in
    let last : l ≡ l / 1 = omega arith in
    rw (c.is_open-5.ensures, c.is_open-4.ensures, c.is_open-3.ensures, c.is_open-2.ensures, c.is_open.ensures)
    (λ i. open_at c.args.gains.now 1 (first i) || open_at c.args.gains.now 2 (l / 8) || open_at c.args.gains.now 4 (l / 4) || open_at c.args.gains.now 8 (l / 2) || open_at c.args.gains.now 16 (last i))
