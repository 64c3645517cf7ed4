use borrow.Author.Rules.{rules}
use Rattle.complex.proofs.Calls.{from_fn_listed}
use Rattle.modulation.proofs.data.raised.Goals as goal

pub returns : goal.returns
returns c = from_fn_listed c.from_fn.ensures.items (λ i y f h k. search rules)
