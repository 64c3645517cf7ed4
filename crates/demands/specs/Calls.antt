-- Document 01, "The list and its ledger": the calls of a list, with any arguments, and what each answers.
use Rattle.std.specs.Prelude.{ℤ, ℕ, List, take}
use Rattle.complex.specs.Buffers.{Values}
use Rattle.codes.specs.Refusals.{Answer, refused, gives}
use Rattle.bench.specs.declared.Channel.{Channel}
use Rattle.bench.specs.BenchCalls.{AnswerAt, refused_at, loads}

-- A bench call with its arguments. B is what a draw is given as a buffer: the bench the buffer itself, the reference model its length.
pub data Call (B : Type 0) : Type 0 where
  set_cell : (parameter type : ℕ) → Call B
  open_code : (Q k gain : ℕ) → Call B
  load_plan : (plan : List Channel) → Call B
  close : (Q k : ℕ) → Call B
  set_gain : (Q k gain : ℕ) → Call B
  load_bits : (Q k : ℕ) (bits : List ℕ) → Call B
  set_sync : (case frame half g_p g_s : ℕ) → Call B
  clear_sync : Call B
  start : Call B
  draw : (re im : B) → Call B

-- What a bench call answers in a list: that it was accepted, and nothing more; a refusal's number; of load plan the place too; of a draw its count, and as many
-- entries from the start of its two buffers.
pub data BenchAnswer : Type 0 where
  accepted : BenchAnswer
  refused_by : (number : ℕ) → BenchAnswer
  refused_record : (number place : ℕ) → BenchAnswer
  drew : (count : ℕ) (chips : Values) → BenchAnswer

-- what a call answers, and the bench, or the model, that it leaves
pub record Step (S : Type 0) : Type 0 where
  pub answer : BenchAnswer
  pub next : S

-- A function's answer is a `Result`; `answer_of` and `answer_of_plan` give what it stands for, document 01's number or the values (`Answer`), as the
-- definitions of the calls do; and that, in a list, is this:
abbrev pub as_answer : Answer (Unit {0}) → BenchAnswer
as_answer (refused n) = refused_by n
as_answer (gives a) = accepted

abbrev pub as_plan_answer : AnswerAt (Unit {0}) → BenchAnswer
as_plan_answer (refused_at n place) = refused_record n place
as_plan_answer (loads a) = accepted

-- re and im are the buffers as the draw left them
abbrev pub as_draw_answer : Answer ℕ → List ℤ → List ℤ → BenchAnswer
as_draw_answer (refused n) re im = refused_by n
as_draw_answer (gives m) re im = drew m (record { re = take m re; im = take m im })
