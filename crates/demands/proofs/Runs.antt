-- Every run: what it gives is the reference model's, the bench that it leaves is valid, and its accepted starts are as demand 3 has them. One induction over
-- the calls, each by the law of its own. Assumes nothing.
use mathlib.Core.Path.{◌≡◌, refl, sym, ap, subst, ◌∙◌}
use mathlib.Core.List.{List, [], ◌∷◌, map}
use lib.IntN.{ℤ}
use Rattle.bench.specs.declared.Bench.{Bench}
use Rattle.demands.specs.Calls.{Call, BenchAnswer, Step}
use Rattle.demands.specs.Reference.{Reference, fresh_reference, arguments, answers_by, left_after}
use Rattle.demands.specs.Runs.{RunFrom, ended, ◌then◌, Run, answers_in, left_from, left_in}
use Rattle.demands.specs.AcceptedStarts.{AcceptedStart, starts_from, accepted_starts}
use Rattle.demands.proofs.Steps.{reference_of, ValidBench, ran_steps, fresh_same, fresh_bench_valid}
use Rattle.demands.proofs.History.{Good, All, Recorded, all_good, kept_by}

-- what holds of the calls from the bench b on
pub record Holds (b : Bench) (calls : List (Call (List ℤ))) (ys : List (Step Bench)) : Type 0 where
  pub answers : answers_in ys ≡ answers_by (reference_of b) (map arguments calls)
  pub left : left_after (reference_of b) (map arguments calls) ≡ reference_of (left_from b ys)
  pub valid : ValidBench (left_from b ys)
  pub recorded : (past : List AcceptedStart) → Recorded (reference_of b) past → Recorded (reference_of (left_from b ys)) (starts_from (reference_of b) past calls (answers_in ys))

holds : {b : Bench} {calls : List (Call (List ℤ))} {ys : List (Step Bench)} → ValidBench b → RunFrom b calls ys → Holds b calls ys
unfolding answers_by left_after starts_from
holds v ended = record { answers = refl; left = refl; valid = v; recorded = λ past h. h }
holds v (◌then◌ {b} {c} {y} {cs} {ys} r run) =
    let s = ran_steps b v r in
    let rest = holds s.valid run in
    record {
      answers = rw s.same (ap (λ (l : List BenchAnswer). y.answer ∷ l) rest.answers);
      left = ap (λ (x : Step Reference). left_after x.next (map arguments cs)) s.same ∙ rest.left;
      valid = rest.valid;
      recorded = λ past h. rw s.same (rest.recorded _ (kept_by b v past h r));
    }

module _ (run : Run) where
  -- it begins with the fresh bench
  pub first_same : reference_of run.first ≡ fresh_reference
  first_same = ap reference_of run.fresh ∙ fresh_same

  pub run_holds : Holds run.first run.calls run.steps
  run_holds = holds (subst ValidBench (sym run.fresh) fresh_bench_valid) run.ran

  pub run_recorded : Recorded (reference_of (left_in run)) (accepted_starts run)
  run_recorded = subst (λ (r : Reference). Recorded (reference_of (left_in run)) (starts_from r [] run.calls (answers_in run.steps))) first_same
      (run_holds.recorded [] (ap (λ (b : Bench). (reference_of b).sending) run.fresh))

  pub run_good : All Good (accepted_starts run)
  run_good = all_good (reference_of (left_in run)) run_holds.valid.model (accepted_starts run) run_recorded
