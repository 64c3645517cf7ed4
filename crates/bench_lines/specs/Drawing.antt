-- What a draw makes of the state (docs/TDD.md), and what its line is answered.
use Rattle.std.specs.Prelude.{ℕ, ◌+◌, cond, Result, Ok, Err}
use Rattle.codes.specs.Answers.{number_of}
use Rattle.codes.specs.Refusals.{Answer, refused, gives}
use Rattle.bench.specs.declared.Bench.{Bench}
use Rattle.bench.specs.BenchCalls.{AcceptedDraw}
use Rattle.script.specs.declared.answer.LineAnswer.{LineAnswer}
use Rattle.script.specs.declared.answer.LineAnswer.TheVariants.{Counted}
use Rattle.script.specs.declared.faults.Fault.{Fault}
use Rattle.script.specs.declared.faults.Fault.TheVariants.{Full, Refused}
use Rattle.script.specs.Room.{fit}
use Rattle.bench_lines.specs.declared.State.{State}

-- "they go to the end of the recording"; where they do not fit, nothing changes, and the bench stays as it was before the draw
abbrev pub kept : State → Bench → ℕ → State
kept s b count =
    let r = s.recording in
    cond (fit r.chips count) (record { bench = b; recording = record { chips = r.chips + count; readings = r.readings; brief = r.brief } }) s

-- a refused draw changes nothing, however full the recording is
abbrev pub after_draw : State → Answer AcceptedDraw → State
after_draw s (refused k) = s
after_draw s (gives d) = kept s d.bench d.count

-- "`ok COUNT`"; a draw whose chips do not fit is no call
abbrev pub answer_of_count : State → ℕ → Result LineAnswer Fault
answer_of_count s count = cond (fit s.recording.chips count) (Ok (Counted count)) (Err (Full count))

-- "or `refused N`"
abbrev pub draw_answer : State → Answer AcceptedDraw → Answer (Result LineAnswer Fault)
draw_answer s (refused k) = refused k
draw_answer s (gives d) = gives (answer_of_count s d.count)

-- What stands below this line says what a line's result stands for.

-- document 01's number where the call was made and refused, and else the result itself
abbrev pub told : Result LineAnswer Fault → Answer (Result LineAnswer Fault)
told (Err (Refused r)) = refused (number_of r)
told a = gives a
