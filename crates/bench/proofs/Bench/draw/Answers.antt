-- The imaginary parts: what the real ones hold too, where the buffers are as long. Assumes nothing.
use Rattle.std.proofs.Common.{◌≡◌, ◌∙◌, ℕ, ◌+◌, ◌-◌, true, false, List, ◌++◌, Result, Ok, Err, is_ok, length, take, drop, arith, rules, length-take}
use Prim.Native.Nat.{min}
use lib.IntN.{ℤ}
use borrow.Author.Tests.{eqb-true, not-false}
use Rattle.complex.specs.Buffers.{listed, written}
use Rattle.complex.proofs.Lists.{length_listed}
use Rattle.codes.specs.Answers.{answer_of}
use Rattle.codes.specs.Refusals.{after, ◌otherwise◌}
use Rattle.codes.specs.declared.refusal.Refusal.{Refusal}
use Rattle.slot.specs.Slot.{slot_chip}
use Rattle.slot.specs.View.{view}
use Rattle.bench.specs.declared.Bench.{Bench}
use Rattle.bench.specs.BenchCalls.{draw_call, draw_refusals, is_running}
use Rattle.bench.proofs.Accepted.{all_passed, still_refused}
use Rattle.bench.proofs.Bench.draw.Goals as goal
use Rattle.bench.proofs.Bench.draw.Goals.{then-is_ok+then-from-n-ge2560, then-is_ok+else-from-n-ge2560, else-is_ok}

module _ (b : Bench) (re im : List ℤ) where
  abbrev tests : Result (Unit {0}) Refusal → Type 0
  tests r = answer_of r ≡ draw_refusals (is_running b) (length re) (length im) otherwise tt

  abbrev left : List ℤ
  left = after (draw_call b (length re) (length im)) im (λ d. written d.chips.im im)

  drawn : (r : Result (Unit {0}) Refusal) → tests r → is_ok r ≡ true → {m : ℕ} → m ≡ min (length re) (2560 - b.position)
      → {out : List ℤ} → out ≡ listed (length (take m im)) (λ i. (slot_chip (view b.sending) (b.position + i)).im) → out ++ drop m im ≡ left
  drawn (Ok u) e v {m} n o =
      let p = (all_passed tt (draw_refusals (is_running b) (length re) (length im)) e).0 in
      let l : length re ≡ length im = eqb-true _ _ (not-false _ p.1.0) in
      let k : length (take m im) ≡ min (length re) (2560 - b.position) = simp length-take (omega (arith, n, l)) in
      rw (o, p.0, p.1.0, k, n, length_listed)
  drawn (Err x) e v n o = absurd cc

  kept : (r : Result (Unit {0}) Refusal) → tests r → is_ok r ≡ false → im ≡ left
  kept (Ok u) e v = absurd cc
  kept (Err x) e v = rw (still_refused tt _ (draw_refusals (is_running b) (length re) (length im)) e)

pub returns-clause-imaginary : goal.returns-clause-imaginary
returns-clause-imaginary c =
    let a = c.args in
    elim c.if-is_ok.branch [
      | then-is_ok+then-from-n-ge2560 w ↦ w.im-is ∙ drawn a.self a.re.now a.im.now c.draw-checked.result c.draw-checked.ensures (search rules) (search rules) w.write.ensures.imaginary
      | then-is_ok+else-from-n-ge2560 w ↦ w.im-is ∙ drawn a.self a.re.now a.im.now c.draw-checked.result c.draw-checked.ensures (search rules) (search rules) w.write.ensures.imaginary
      | else-is_ok w ↦ w.im-is ∙ kept a.self a.re.now a.im.now c.draw-checked.result c.draw-checked.ensures (search rules)
    ]
