-- The gain is cleared where the tests passed. Assumes nothing.
use Rattle.std.proofs.Common.{refl}
use Rattle.slot.specs.View.{view}
use Rattle.bench.specs.BenchCalls.{close_refusals}
use Rattle.bench.proofs.Accepted.{call_accepted, call_refused, same_code}
use Rattle.bench.proofs.Bench.close.Goals as goal
use Rattle.bench.proofs.Bench.close.Goals.{in-Ok, in_default}

pub returns-clause-bench : goal.returns-clause-bench
returns-clause-bench c =
    let b = c.args.self in
    let Q = c.args.q in
    let k = c.args.k in
    let tests = close_refusals (view b.settings) Q k in
    elim c.match-checked.branch [
      | in-Ok w ↦
          let e = w.in-Ok.ensures b.settings refl in
          let q = same_code tests w.in-Ok.code Q k e in
          rw (c.with_tables.ensures, w.gains-is, w.with_gain-gains.ensures, q.0, q.1) (call_accepted (Q, k) tests b _ e).1
      | in_default w ↦ rw (c.with_tables.ensures, w.gains-is) (call_refused (Q, k) tests b _ (w.in_default.ensures b.settings refl)).1
    ]
