-- Load plan's answer as a C struct holds it: number and place of its refusal, or 0 and 0.
use Rattle.std.specs.Prelude.{ℕ}
use Rattle.bench.specs.BenchCalls.{AnswerAt, refused_at, loads}

abbrev pub plan_refusal_of : {A : Type 0} → AnswerAt A → ℕ
plan_refusal_of (refused_at n place) = n
plan_refusal_of (loads a) = 0

abbrev pub place_of : {A : Type 0} → AnswerAt A → ℕ
place_of (refused_at n place) = place
place_of (loads a) = 0
