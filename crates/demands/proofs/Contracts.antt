-- From the functions to definitions: what a function's contract gives of answer, new bench and buffers is what the definition that it cites gives. Assumes
-- nothing.
use mathlib.Core.Path.{◌≡◌, ap, ◌∙◌}
use Prim.Native.Nat.{ℕ}
use mathlib.Core.List.{List}
use lib.IntN.{ℤ}
use lib.ListN.{length}
use Rattle.complex.specs.Buffers.{Values, written}
use Rattle.codes.specs.Refusals.{Answer, gives, outcome, after}
use Rattle.bench.specs.declared.Bench.{Bench}
use Rattle.bench.specs.BenchCalls.{AnswerAt}
use Rattle.read.specs.Reading.{read_call}
use Rattle.harden.specs.Hardening.{harden_call}
use Rattle.read_sync.specs.declared.Candidate.{Candidate}
use Rattle.read_sync.specs.SyncReading.{read_sync_call}
use Rattle.demands.specs.Calls.{Call, Step, as_answer, as_plan_answer, as_draw_answer}
use Rattle.demands.specs.Runs.{Ran, by_set_cell, by_open, by_load_plan, by_load_records, by_close, by_set_gain, by_load_bits, by_set_sync, by_clear_sync, by_start, by_draw}
use Rattle.demands.specs.AnalyserRuns.{Output, RanRead, by_read, RanHarden, by_harden, RanReadSync, by_read_sync, wrote, wrote_bits}
use Rattle.demands.proofs.BenchSteps.{bench_step}

-- ---- the bench: the clauses `answer` and `bench` of a contract make the call's step
module _ {n n' : Bench} (q : n ≡ n') where
  as_step : {t t' : Answer (Unit {0})} → t ≡ t' → ◌≡◌ {A = Step Bench} (record { answer = as_answer t; next = n }) (record { answer = as_answer t'; next = n' })
  as_step p = λ i. record { answer = as_answer (p i); next = q i }

  as_plan_step : {t t' : AnswerAt (Unit {0})} → t ≡ t' → ◌≡◌ {A = Step Bench} (record { answer = as_plan_answer t; next = n }) (record { answer = as_plan_answer t'; next = n' })
  as_plan_step p = λ i. record { answer = as_plan_answer (p i); next = q i }

pub ran_step : {b : Bench} {c : Call (List ℤ)} {y : Step Bench} → Ran b c y → y ≡ bench_step b c
unfolding bench_step
ran_step (by_set_cell p t r e x) = as_step x.1 x.0
ran_step (by_open Q k g r e x) = as_step x.1 x.0
ran_step (by_load_plan κs plan r e x) = as_plan_step x.1 x.0
ran_step (by_load_records plan count r e x) = as_plan_step x.1 x.0
ran_step (by_close Q k r e x) = as_step x.1 x.0
ran_step (by_set_gain Q k g r e x) = as_step x.1 x.0
ran_step (by_load_bits κs Q k bits r e x) = as_step x.1 x.0
ran_step (by_set_sync case frame half g_p g_s r e x) = as_step x.1 x.0
ran_step (by_clear_sync r e x) = as_step x.1 x.0
ran_step (by_start r e x) = as_step x.1 x.0
ran_step (by_draw κs re im r e x) = λ i. record { answer = as_draw_answer (x.0 i) (x.1.1.0 i) (x.1.1.1 i); next = x.1.0 i }

-- ---- the analyser: where the definition gives values, the function accepted and wrote them
pub read_meets : {p Q k : ℕ} {field out : Values} {y : Output Values} → RanRead p Q k field out y
    → {v : Values} → read_call p Q k field.re field.im (length out.re) (length out.im) ≡ gives v → y ≡ wrote v out
read_meets (by_read κs re im outre outim r e x) h =
    (λ i. record { answer = x.0 i; left = record { re = x.1.0 i; im = x.1.1 i } })
    ∙ ap (λ (a : Answer Values). record {
      answer = outcome a;
      left = record { re = after a outre.now (λ v. written v.re outre.now); im = after a outim.now (λ v. written v.im outim.now) };
    }) h

pub harden_meets : {readings : Values} {bits : List ℕ} {y : Output (List ℕ)} → RanHarden readings bits y
    → {v : List ℕ} → harden_call readings.re readings.im (length bits) ≡ gives v → y ≡ wrote_bits v bits
harden_meets (by_harden κs re im bits r e x) h =
    (λ i. record { answer = x.0 i; left = x.1 i })
    ∙ ap (λ (a : Answer (List ℕ)). record { answer = outcome a; left = after a bits.now (λ v. written v bits.now) }) h

pub read_sync_meets : {case : ℕ} {chips : Values} {t : Answer Candidate} → RanReadSync case chips t → t ≡ read_sync_call case chips.re chips.im
read_sync_meets (by_read_sync κs re im r e x) = x
