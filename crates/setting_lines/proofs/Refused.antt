-- A call that is refused hands back the bench that it was given. Assumes nothing.
use Rattle.std.proofs.Common.{◌≡◌, sym, ap, ◌∙◌, OnErr, Result, Ok, Err}
use Rattle.script.specs.declared.answer.LineAnswer.{LineAnswer}
use Rattle.script.specs.declared.faults.Fault.{Fault}
use Rattle.codes.specs.declared.refusal.Refusal.{Refusal}
use Rattle.codes.specs.Answers.{answer_of}
use Rattle.codes.specs.Refusals.{Answer, refused, gives, outcome}
use Rattle.bench.specs.declared.Bench.{Bench}
use Rattle.bench.specs.declared.Answered.{Answered}
use Rattle.bench.specs.BenchCalls.{left_by}

pub stays : (r : Result (Unit {0}) Refusal) (a : Answer Bench) (new b : Bench) → answer_of r ≡ outcome a → new ≡ left_by a b → OnErr r (new ≡ b)
stays (Ok x) a new b h l = tt
stays (Err e) (refused k) new b h l = l
stays (Err e) (gives x) new b h l = cc

pub on_err : (r : Result LineAnswer Fault) {P : Type 0} → P → OnErr r P
on_err (Ok x) p = tt
on_err (Err e) p = p

-- x is what was done, y what the call answered
pub handed_back : {x y : Answered (Unit {0}) Refusal} {b : Bench} {e : Refusal} → x ≡ y → x.answer ≡ Err e → OnErr y.answer (y.bench ≡ b) → x.bench ≡ b
handed_back {x} {y} {b} {e} p q h = ap (λ z. z.bench) p ∙ (rw (sym (ap (λ z. z.answer) p) ∙ q) at h)
