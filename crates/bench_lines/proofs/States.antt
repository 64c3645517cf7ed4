-- The state after a draw, and what its line is answered, by what the draw answered. Assumes nothing.
use Rattle.std.proofs.Common.{◌≡◌, ℕ, refl}
use Rattle.codes.specs.Refusals.{Answer, refused, gives, after}
use Rattle.bench.specs.declared.Bench.{Bench}
use Rattle.bench.specs.BenchCalls.{AcceptedDraw, draw_outcome}
use Rattle.bench_lines.specs.declared.State.{State}
use Rattle.bench_lines.specs.Drawing.{after_draw, answer_of_count, draw_answer, kept}

module _ (s : State) where
  pub refused_stays : (a : Answer AcceptedDraw) {k : ℕ} → refused k ≡ draw_outcome a → (s ≡ after_draw s a) × (refused k ≡ draw_answer s a)
  refused_stays (refused j) {k} e = (refl, rw (same e) refl)
    where
      same : ◌≡◌ {A = Answer ℕ} (refused k) (refused j) → k ≡ j
      same q = cc
  refused_stays (gives d) e = (cc, cc)

  pub drew_keeps : (a : Answer AcceptedDraw) {m : ℕ} {b : Bench} → gives m ≡ draw_outcome a → b ≡ after a s.bench (λ d. d.bench)
      → (kept s b m ≡ after_draw s a) × (gives (answer_of_count s m) ≡ draw_answer s a)
  drew_keeps (refused j) e f = (cc, cc)
  drew_keeps (gives d) {m} e f = (rw (same e, f) refl, rw (same e) refl)
    where
      same : gives m ≡ gives d.count → m ≡ d.count
      same q = cc
