-- The records are opened in turn. Assumes nothing.
use Rattle.std.proofs.Common.{refl, ◌∙◌, get_or}
use mir.Facts.{Fits-below}
use Rattle.bench.specs.BenchCalls.{fresh_settings}
use Rattle.bench.specs.Changes.{with_gains}
use Rattle.bench.proofs.Accepted.{all_passed, gain_range}
use Rattle.bench.proofs.Plans.{none_left, one_failed, one_opened, tests}
use Rattle.bench.proofs.plan.gains_of.Goals as goal

pub loop-place-init : goal.loop-place-init
loop-place-init c = refl

pub loop-place-preserved : goal.loop-place-preserved
loop-place-preserved c =
    let l = c.loop-place in
    rw c.with_gain-gains.ensures
    (one_opened c.args.plan.now l.place l.gains _ c.loop-place-test.true c.in-Ok.code (c.in-Ok.ensures (with_gains fresh_settings l.gains) refl) ∙ l.invariant)

pub overflow_cast-c : goal.overflow_cast-c
overflow_cast-c c =
    let l = c.loop-place in
    let r = get_or c.args.plan.now l.place (record { q = 0; k = 0; gain = 0 }) in
    let p = (all_passed _ (tests l.gains r) (c.in-Ok.ensures (with_gains fresh_settings l.gains) refl)).0 in
    Fits-below {n = 4095} tt (gain_range r.gain p.1.1.0).1

pub returns-in-Err : goal.returns-in-Err
returns-in-Err c =
    let l = c.loop-place in
    one_failed c.args.plan.now l.place l.gains _ _ c.loop-place-test.true (c.in-Err.ensures (with_gains fresh_settings l.gains) refl) ∙ l.invariant

pub returns : goal.returns
returns c = let l = c.loop-place in none_left c.args.plan.now l.place l.gains c.loop-place-test.false ∙ l.invariant
