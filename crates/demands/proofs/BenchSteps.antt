-- A call as one function of the bench, by the definitions that the contracts cite. An inner step: a run speaks of the functions alone, and `ran_step` leads
-- from them to here. Assumes nothing.
use lib.IntN.{ℤ}
use mathlib.Core.List.{List}
use lib.ListN.{length}
use Rattle.complex.specs.Buffers.{written}
use Rattle.codes.specs.Refusals.{Answer, outcome, after}
use Rattle.bench.specs.declared.Bench.{Bench}
use Rattle.bench.specs.BenchCalls.{set_cell_call, open_call, AnswerAt, load_plan_call, plan_outcome, plan_left_by, close_call, set_gain_call, load_bits_call, set_sync_call, clear_sync_call, start_call, AcceptedDraw, draw_call, draw_outcome, left_by}
use Rattle.demands.specs.Calls.{Call, set_cell, open_code, load_plan, close, set_gain, load_bits, set_sync, clear_sync, start, draw, Step, as_answer, as_plan_answer, as_draw_answer}

abbrev pub bench_called : Bench → Answer Bench → Step Bench
bench_called b r = record { answer = as_answer (outcome r); next = left_by r b }

abbrev pub bench_planned : Bench → AnswerAt Bench → Step Bench
bench_planned b r = record { answer = as_plan_answer (plan_outcome r); next = plan_left_by r b }

abbrev pub bench_drawn : Bench → List ℤ → List ℤ → Answer AcceptedDraw → Step Bench
bench_drawn b re im r =
    record {
      answer = as_draw_answer (draw_outcome r) (after r re (λ d. written d.chips.re re)) (after r im (λ d. written d.chips.im im));
      next = after r b (λ d. d.bench);
    }

unfoldable pub bench_step : Bench → Call (List ℤ) → Step Bench
bench_step b (set_cell p t) = bench_called b (set_cell_call b (record { 0 = p }) t)
bench_step b (open_code Q k g) = bench_called b (open_call b Q k g)
bench_step b (load_plan plan) = bench_planned b (load_plan_call b plan)
bench_step b (close Q k) = bench_called b (close_call b Q k)
bench_step b (set_gain Q k g) = bench_called b (set_gain_call b Q k g)
bench_step b (load_bits Q k bits) = bench_called b (load_bits_call b Q k bits)
bench_step b (set_sync case frame half g_p g_s) = bench_called b (set_sync_call b case frame half g_p g_s)
bench_step b clear_sync = bench_called b (clear_sync_call b)
bench_step b start = bench_called b (start_call b)
bench_step b (draw re im) = bench_drawn b re im (draw_call b (length re) (length im))
