-- `set_gain` meets its contract: the tests in document 01's order. Assumes nothing.
use Rattle.std.proofs.Common.{sym, ◌∙◌, drop}
use Rattle.slot.specs.View.{view}
use Rattle.bench.specs.BenchCalls.{set_gain_refusals}
use Rattle.bench.proofs.Accepted.{given_later, good_gain, refused_later}
use Rattle.bench.proofs.Opened.{open_as_found}
use Rattle.bench.proofs.refusals.set_gain.Goals as goal

pub returns-then-not-is_open : goal.returns-then-not-is_open
returns-then-not-is_open c s g =
    let a = c.args in
    refused_later a.q a.k c.in_ok-code.code c.in_ok-code.ensures (drop 2 (set_gain_refusals (view s) a.q a.k a.gain))
    (rw (good_gain a.gain c.in_ok-check_gain.ensures, open_as_found s c.in_ok-code.code a.q a.k c.in_ok-code.ensures g, sym c.is_open.ensures ∙ c.if-not-is_open.true))

pub returns : goal.returns
returns c s g =
    let a = c.args in
    given_later a.q a.k c.in_ok-code.code c.in_ok-code.ensures (drop 2 (set_gain_refusals (view s) a.q a.k a.gain))
    (rw (good_gain a.gain c.in_ok-check_gain.ensures, open_as_found s c.in_ok-code.code a.q a.k c.in_ok-code.ensures g, sym c.is_open.ensures ∙ c.if-not-is_open.false))
