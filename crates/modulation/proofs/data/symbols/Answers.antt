use borrow.Author.Rules.{rules}
use Rattle.complex.proofs.Calls.{from_fn_listed}
use Rattle.modulation.proofs.data.symbols.Goals as goal

pub returns : goal.returns
returns r c g h = from_fn_listed c.from_fn.ensures.items (λ i y f l k. search (rules, h))
