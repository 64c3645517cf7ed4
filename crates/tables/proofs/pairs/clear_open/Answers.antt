-- `clear_open` meets its contract. Assumes nothing.
use mathlib.Core.Path.{◌∙◌}
use Rattle.tables.proofs.Cleared.{all_cleared}
use Rattle.tables.proofs.pairs.clear_open.Goals as goal

pub returns : goal.returns
returns c =
    c.clear_leaves.ensures.0 ∙ rw c.open_leaves-leaves.ensures (all_cleared _ _ c.clear_leaves.ensures.1)
