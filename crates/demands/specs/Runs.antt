-- Document 01, "The list and its ledger": a run of the bench's functions. "The list has any length, also 0, and any arguments. Its first call takes the
-- fresh bench, each other one the bench as the call before left it."
--
-- Of each call a run says what its function's own `ensures` gives every caller, and nothing else: `Learnt`, which the toolchain reads from the source
-- (of load plan `LoadPlanReads` does, from the same). So what holds of every run holds of the functions; nothing stands between but the number and the values that an answer stands for.
use Rattle.std.specs.Prelude.{ℕ, List, [], ◌∷◌, map, ℤ, take}
use contract.Lifetimes.{Lfts}
use Rattle.std.specs.Borrow.{Bor, MutBor}
use Rattle.codes.specs.declared.refusal.Refusal.{Refusal}
use Rattle.codes.specs.Answers.{answer_of}
use Rattle.bench.specs.declared.Bench.{Bench}
use Rattle.bench.specs.declared.Channel.{Channel}
use Rattle.bench.specs.declared.PlanRecords.{PlanRecords}
use Rattle.bench.specs.declared.Answered.{Answered}
use Rattle.bench.specs.declared.PlanRefusal.{PlanRefusal}
use Rattle.bench.specs.BenchCalls.{answer_of_plan}
use Rattle.bench.proofs.Bench.fresh.Reads as fresh_contract
use Rattle.bench.proofs.Bench.set_cell.Reads as set_cell_contract
use Rattle.bench.proofs.Bench.open.Reads as open_contract
use Rattle.bench.proofs.Bench.load_records.Reads as load_records_contract
use Rattle.bench.proofs.Bench.close.Reads as close_contract
use Rattle.bench.proofs.Bench.set_gain.Reads as set_gain_contract
use Rattle.bench.proofs.Bench.load_bits.Reads as load_bits_contract
use Rattle.bench.proofs.Bench.set_sync.Reads as set_sync_contract
use Rattle.bench.proofs.Bench.clear_sync.Reads as clear_sync_contract
use Rattle.bench.proofs.Bench.start.Reads as start_contract
use Rattle.bench.proofs.Bench.draw.Reads as draw_contract
use Rattle.demands.specs.LoadPlanReads as load_plan_contract
use Rattle.demands.specs.Calls.{Call, set_cell, open_code, load_plan, close, set_gain, load_bits, set_sync, clear_sync, start, draw, BenchAnswer, Step, as_answer, as_plan_answer, as_draw_answer}

-- what a function answered, by document 01's number or values (`answer_of`), and the bench that it handed back
abbrev pub answered : Answered (Unit {0}) Refusal → Step Bench
answered r = record { answer = as_answer (answer_of r.answer); next = r.bench }

abbrev pub plan_answered : Answered (Unit {0}) PlanRefusal → Step Bench
plan_answered r = record { answer = as_plan_answer (answer_of_plan r.answer); next = r.bench }

-- of a draw also the two buffers as it left them
abbrev pub draw_answered : Answered ℕ Refusal → List ℤ → List ℤ → Step Bench
draw_answered r re im = record { answer = as_draw_answer (answer_of r.answer) re im; next = r.bench }

-- Ran b c y: the function of call c, given the bench b, answered and left y. There is a case for each public function of `Bench` that takes one: r is its
-- result, κs are the lifetimes of its references, e has its parameters as they are when it returns. `load_records` is load plan of the first records.
pub data Ran (b : Bench) : Call (List ℤ) → Step Bench → Type 0 where
  by_set_cell : (p t : ℕ) (r : Answered (Unit {0}) Refusal) (e : _) → set_cell_contract.Learnt tt (b, (record { 0 = p }, (t, tt))) r e → Ran b (set_cell p t) (answered r)
  by_open : (Q k g : ℕ) (r : Answered (Unit {0}) Refusal) (e : _) → open_contract.Learnt tt (b, (Q, (k, (g, tt)))) r e → Ran b (open_code Q k g) (answered r)
  by_load_plan : (κs : Lfts 1) (plan : Bor (List Channel)) (r : Answered (Unit {0}) PlanRefusal) (e : _) → load_plan_contract.Learnt κs (b, (plan, tt)) r e
      → Ran b (load_plan plan.now) (plan_answered r)
  by_load_records : (plan : PlanRecords) (count : ℕ) (r : Answered (Unit {0}) PlanRefusal) (e : _) → load_records_contract.Learnt tt (b, (plan, (count, tt))) r e
      → Ran b (load_plan (take count plan.records)) (plan_answered r)
  by_close : (Q k : ℕ) (r : Answered (Unit {0}) Refusal) (e : _) → close_contract.Learnt tt (b, (Q, (k, tt))) r e → Ran b (close Q k) (answered r)
  by_set_gain : (Q k g : ℕ) (r : Answered (Unit {0}) Refusal) (e : _) → set_gain_contract.Learnt tt (b, (Q, (k, (g, tt)))) r e → Ran b (set_gain Q k g) (answered r)
  by_load_bits : (κs : Lfts 1) (Q k : ℕ) (bits : Bor (List ℕ)) (r : Answered (Unit {0}) Refusal) (e : _) → load_bits_contract.Learnt κs (b, (Q, (k, (bits, tt)))) r e
      → Ran b (load_bits Q k bits.now) (answered r)
  by_set_sync : (case frame half g_p g_s : ℕ) (r : Answered (Unit {0}) Refusal) (e : _) → set_sync_contract.Learnt tt (b, (case, (frame, (half, (g_p, (g_s, tt)))))) r e
      → Ran b (set_sync case frame half g_p g_s) (answered r)
  by_clear_sync : (r : Answered (Unit {0}) Refusal) (e : _) → clear_sync_contract.Learnt tt (b, tt) r e → Ran b clear_sync (answered r)
  by_start : (r : Answered (Unit {0}) Refusal) (e : _) → start_contract.Learnt tt (b, tt) r e → Ran b start (answered r)
  by_draw : (κs : Lfts 2) (re im : MutBor (List ℤ)) (r : Answered ℕ Refusal) (e : _) → draw_contract.Learnt κs (b, (re, (im, tt))) r e
      → Ran b (draw re.now im.now) (draw_answered r e.1.0.now e.1.1.0.now)

-- "each other one the bench as the call before left it"
infixr 20 ◌then◌
pub data RunFrom : Bench → List (Call (List ℤ)) → List (Step Bench) → Type 0 where
  ended : {b : Bench} → RunFrom b [] []
  ◌then◌ : {b : Bench} {c : Call (List ℤ)} {y : Step Bench} {cs : List (Call (List ℤ))} {ys : List (Step Bench)}
      → Ran b c y → RunFrom y.next cs ys → RunFrom b (c ∷ cs) (y ∷ ys)

-- A run: "its first call takes the fresh bench", which is what `Bench::fresh` gave.
pub record Run : Type 0 where
  pub first : Bench
  pub fresh : fresh_contract.Learnt tt tt first tt
  pub calls : List (Call (List ℤ))
  pub steps : List (Step Bench)
  pub ran : RunFrom first calls steps

-- what was answered, call by call
abbrev pub answers_in : List (Step Bench) → List BenchAnswer
answers_in ys = map (λ (y : Step Bench). y.answer) ys

-- the bench that is left in the end
abbrev pub left_from : Bench → List (Step Bench) → Bench
left_from b [] = b
left_from b (y ∷ ys) = left_from y.next ys

abbrev pub left_in : Run → Bench
left_in run = left_from run.first run.steps
