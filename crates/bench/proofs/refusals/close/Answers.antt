-- `close` meets its contract: the tests in document 01's order. Assumes nothing.
use Rattle.std.proofs.Common.{sym, ◌∙◌, drop}
use Rattle.slot.specs.View.{view}
use Rattle.bench.specs.BenchCalls.{close_refusals}
use Rattle.bench.proofs.Accepted.{given_later, refused_later}
use Rattle.bench.proofs.Opened.{open_as_found}
use Rattle.bench.proofs.refusals.close.Goals as goal

pub returns-then-not-is_open : goal.returns-then-not-is_open
returns-then-not-is_open c s g =
    let a = c.args in
    refused_later a.q a.k c.in_ok-code.code c.in_ok-code.ensures (drop 2 (close_refusals (view s) a.q a.k))
    (rw (open_as_found s c.in_ok-code.code a.q a.k c.in_ok-code.ensures g, sym c.is_open.ensures ∙ c.if-not-is_open.true))

pub returns : goal.returns
returns c s g =
    let a = c.args in
    given_later a.q a.k c.in_ok-code.code c.in_ok-code.ensures (drop 2 (close_refusals (view s) a.q a.k))
    (rw (open_as_found s c.in_ok-code.code a.q a.k c.in_ok-code.ensures g, sym c.is_open.ensures ∙ c.if-not-is_open.false))
