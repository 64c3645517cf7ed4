-- The gains of the records settle to load plan. Assumes nothing.
use Rattle.std.proofs.Common.{ap, ◌∙◌}
use Rattle.bench.specs.declared.Bench.{Bench}
use Rattle.bench.specs.BenchCalls.{AnswerAt, plan_left_by, plan_outcome}
use Rattle.bench.proofs.Accepted.{accepts, refuses}
use Rattle.bench.proofs.Plans.{plan_settled, settled}
use Rattle.bench.proofs.Bench.load_plan.Goals as goal
use Rattle.bench.proofs.Bench.load_plan.Goals.{in-Ok, in_default}

pub returns : goal.returns
returns c =
    let b = c.args.self in
    let plan = c.args.plan.now in
    elim c.match-opened.branch [
      | in-Ok w ↦
          let done = ap (settled b) w.in-Ok.ensures ∙ plan_settled b plan in
          record {
            answer = rw (accepts c.map.result (rw w.opened-is at c.map.ensures.variant)) (ap plan_outcome done);
            bench = rw (c.with_tables-bench.ensures, w.gains-is, w.pairs-is, w.clear_open.ensures) (ap (λ (a : AnswerAt Bench). plan_left_by a b) done);
          }
      | in_default w ↦
          let done = ap (settled b) w.in_default.ensures ∙ plan_settled b plan in
          let refusal = refuses _ c.map.result w.in_default.field-0 (w.opened-is ∙ w.in_default.is) c.map.ensures.cases in
          record { answer = rw refusal (ap plan_outcome done); bench = rw (c.with_tables-bench.ensures, w.gains-is, w.pairs-is) (ap (λ (a : AnswerAt Bench). plan_left_by a b) done) }
    ]
