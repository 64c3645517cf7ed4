-- A call's answer, as a C struct holds it. Assumes nothing.
use mathlib.Core.Path.{◌≡◌, ap, ◌∙◌}
use Prim.Native.Nat.{ℕ}
use Rattle.codes.specs.Refusals.{Answer, refused, gives, outcome, after, refusal_of}
use Rattle.codes.proofs.Refused.{held, refusal_of_outcome}
use Rattle.bench.specs.declared.Bench.{Bench}
use Rattle.bench.specs.BenchCalls.{AnswerAt, refused_at, loads, AcceptedDraw, draw_outcome, left_by, plan_outcome}
use Rattle.tdd_bench.specs.PlanResults.{place_of, plan_refusal_of}

-- a call whose answer has no value
module _ {A : Type 0} (a : Answer A) where
  pub answer_refusal : {t : Answer (Unit {0})} → t ≡ outcome a → refusal_of t ≡ refusal_of a
  answer_refusal e = ap refusal_of e ∙ refusal_of_outcome a

-- what `call_result` made of what a call of the bench answered and left
pub called : (a : Answer Bench) (b : Bench) {n : ℕ} {t : Answer (Unit {0})} {new left : Bench}
    → (n ≡ refusal_of t) × (new ≡ left) → (t ≡ outcome a) × (left ≡ left_by a b) → (n ≡ refusal_of a) × (new ≡ left_by a b)
called a b c e = (c.0 ∙ answer_refusal a e.0, c.1 ∙ e.1)

-- a draw tells its count
pub answer_count : (a : Answer AcceptedDraw) {t : Answer ℕ} → t ≡ draw_outcome a → (refusal_of t ≡ refusal_of a) × (after t 0 (λ m. m) ≡ after a 0 (λ d. d.count))
answer_count (refused n) e = held 0 (λ m. m) e
answer_count (gives d) e = held 0 (λ m. m) e

-- load plan tells the place of its refusal
pub answer_place : (a : AnswerAt Bench) {t : AnswerAt (Unit {0})} → t ≡ plan_outcome a → (plan_refusal_of t ≡ plan_refusal_of a) × (place_of t ≡ place_of a)
answer_place (refused_at n place) e = (ap plan_refusal_of e, ap place_of e)
answer_place (loads b) e = (ap plan_refusal_of e, ap place_of e)
