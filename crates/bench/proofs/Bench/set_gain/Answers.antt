-- The gain is set where the tests passed. Assumes nothing.
use Rattle.std.proofs.Common.{refl, ◌∙◌}
use mir.Facts.{Fits-below}
use Rattle.slot.specs.View.{view}
use Rattle.bench.specs.BenchCalls.{set_gain_refusals}
use Rattle.bench.proofs.Accepted.{accepts, call_accepted, all_passed, call_refused, gain_range, refuses, same_code}
use Rattle.bench.proofs.Bench.set_gain.Goals as goal
use Rattle.bench.proofs.Bench.set_gain.Goals.{in-Ok, in_default}

pub overflow_cast-gain : goal.overflow_cast-gain
overflow_cast-gain c =
    let a = c.args in
    let p = (all_passed _ (set_gain_refusals (view a.self.settings) a.q a.k a.gain) (c.in-Ok.ensures a.self.settings refl)).0 in
    Fits-below {n = 4095} tt (gain_range a.gain p.1.1.0).1

pub returns : goal.returns
returns c =
    let b = c.args.self in
    let Q = c.args.q in
    let k = c.args.k in
    let tests = set_gain_refusals (view b.settings) Q k c.args.gain in
    elim c.match-checked.branch [
      | in-Ok w ↦
          let e = w.in-Ok.ensures b.settings refl in
          let q = same_code tests w.in-Ok.code Q k e in
          let done = call_accepted (Q, k) tests b _ e in
          record {
            answer = rw (accepts c.map.result (rw w.checked-is at c.map.ensures.variant)) done.0;
            bench = rw (c.with_tables.ensures, w.gains-is, w.with_gain-gains.ensures, q.0, q.1) done.1;
          }
      | in_default w ↦
          let done = call_refused (Q, k) tests b _ (w.in_default.ensures b.settings refl) in
          let refusal = refuses _ c.map.result w.in_default.field-0 (w.checked-is ∙ w.in_default.is) c.map.ensures.cases in
          record { answer = rw refusal done.0; bench = rw (c.with_tables.ensures, w.gains-is) done.1 }
    ]
