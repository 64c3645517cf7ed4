-- `open_leaves` meets its contract. Assumes nothing.
use Rattle.std.proofs.Common.{rules}
use Rattle.complex.proofs.Calls.{from_fn_listed}
use Rattle.tables.proofs.pairs.open_leaves.Goals as goal

pub returns : goal.returns
returns c = from_fn_listed c.from_fn.ensures.items (λ i y f h k. search rules)
