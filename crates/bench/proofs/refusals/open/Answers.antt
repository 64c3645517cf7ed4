-- `open` meets its contract: the tests in document 01's order. Assumes nothing.
use Rattle.std.proofs.Common.{sym, ◌∙◌, drop}
use Rattle.slot.specs.View.{view}
use Rattle.bench.specs.BenchCalls.{open_refusals}
use Rattle.bench.proofs.Accepted.{given_later, good_gain, refused_later}
use Rattle.bench.proofs.Opened.{related_as_found}
use Rattle.bench.proofs.refusals.open.Goals as goal

pub returns-then-is_related_to_open : goal.returns-then-is_related_to_open
returns-then-is_related_to_open c s g =
    let a = c.args in
    refused_later a.q a.k c.in_ok-code.code c.in_ok-code.ensures (drop 2 (open_refusals (view s) a.q a.k a.gain))
    (rw (good_gain a.gain c.in_ok-check_gain.ensures, related_as_found s c.in_ok-code.code a.q a.k c.in_ok-code.ensures g, sym c.is_related_to_open.ensures ∙ c.if-is_related_to_open.true))

pub returns : goal.returns
returns c s g =
    let a = c.args in
    given_later a.q a.k c.in_ok-code.code c.in_ok-code.ensures (drop 2 (open_refusals (view s) a.q a.k a.gain))
    (rw (good_gain a.gain c.in_ok-check_gain.ensures, related_as_found s c.in_ok-code.code a.q a.k c.in_ok-code.ensures g, sym c.is_related_to_open.ensures ∙ c.if-is_related_to_open.false))
