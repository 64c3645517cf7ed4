-- A draw by the lengths of its buffers alone: any two that differ are refused alike, and a buffer longer than a slot gets no more. Assumes nothing.
use Rattle.std.proofs.Common.{◌≡◌, ℕ, zero, suc, ◌+◌, ◌-◌, ◌≤◌, min, Bool, true, false, cond, not, eqb, List, [], ◌∷◌, ◌++◌, length, take, drop, ℤ, refl, ap, ◌∙◌, subst, ap₂, append_assoc, le_of_suc-le-suc, not-suc-le-zero, arith, take-append-drop, eq-eqb, eqb-true}
use Rattle.complex.specs.declared.Complex.{Complex}
use Rattle.complex.specs.Buffers.{in_buffers, written}
use Rattle.complex.proofs.Lists.{length_listed}
use Rattle.codes.specs.Refusals.{Answer, refused, gives, after}
use Rattle.bench.specs.declared.Bench.{Bench}
use Rattle.slot.specs.Slot.{slot_chip}
use Rattle.slot.specs.View.{view}
use Rattle.bench.specs.BenchCalls.{AcceptedDraw, draw_outcome, draw_call, moved_on, is_running}

-- the end of a part, and what follows the part
part_then_rest : {A : Type 0} (k n : ℕ) (d : List A) → k ≤ n → drop k (take n d) ++ drop n d ≡ drop k d
part_then_rest zero n d l = take-append-drop n d
part_then_rest (suc k) zero d l = absurd (not-suc-le-zero l)
part_then_rest (suc k) (suc n) [] l = refl
part_then_rest (suc k) (suc n) (x ∷ xs) l = part_then_rest k n xs (le_of_suc-le-suc l)

-- what a draw that answers a ensures: its answer, and the bench and the two buffers that it leaves
abbrev pub Drawn : Answer AcceptedDraw → Bench → List ℤ → List ℤ → Answer ℕ → Bench → List ℤ → List ℤ → Type 0
Drawn a b re im answer left re' im' =
    (answer ≡ draw_outcome a)
    × ((left ≡ after a b (λ d. d.bench)) × ((re' ≡ after a re (λ d. written d.chips.re re)) × (im' ≡ after a im (λ d. written d.chips.im im))))

-- a part of x entries that was left as it was, or written
kept : (x : ℕ) (d : List ℤ) {new : List ℤ} → new ≡ take x d → new ++ drop x d ≡ d
kept x d e = rw e (take-append-drop x d)

filled : (x : ℕ) (d p : List ℤ) {new : List ℤ} → length p ≤ x → new ≡ written p (take x d) → new ++ drop x d ≡ written p d
filled x d p l e = rw e (append_assoc p (drop (length p) (take x d)) (drop x d) ∙ ap (λ (r : List ℤ). p ++ r) (part_then_rest (length p) x d l))

-- an accepted draw writes at most x and y chips
abbrev WritesAtMost : ℕ → ℕ → Answer AcceptedDraw → Type 0
WritesAtMost x y (refused k) = Unit {0}
WritesAtMost x y (gives d) = (length d.chips.re ≤ x) × (length d.chips.im ≤ y)

module _ (b : Bench) (re im : List ℤ) (x y : ℕ) {answer : Answer ℕ} {left : Bench} {re' im' : List ℤ} where
  -- parts of x and y entries were lent: the buffers are left as if they had been lent whole
  lent : (a : Answer AcceptedDraw) → WritesAtMost x y a
      → Drawn a b (take x re) (take y im) answer left re' im' → Drawn a b re im answer left (re' ++ drop x re) (im' ++ drop y im)
  lent (refused k) f (t, (l, (r, i))) = (t, (l, (kept x re r, kept y im i)))
  lent (gives d) f (t, (l, (r, i))) = (t, (l, (filled x re d.chips.re f.0 r, filled y im d.chips.im f.1 i)))

module _ (b : Bench) where
  -- lengths that differ are refused alike
  pub unequal : (n m n' m' : ℕ) → eqb n m ≡ false → eqb n' m' ≡ false → draw_call b n m ≡ draw_call b n' m'
  unequal n m n' m' e e' = rw (e, e') refl

  -- a slot has 2560 chips
  pub no_more : (n : ℕ) → draw_call b (min n 2560) (min n 2560) ≡ draw_call b n n
  no_more n = rw (eq-eqb n n refl, eq-eqb (min n 2560) (min n 2560) refl, least) refl
    where
      least : min (min n 2560) (2560 - b.position) ≡ min n (2560 - b.position)
      least = omega arith

  -- an accepted draw has buffers of one length, and writes no more than that
  within : (n m : ℕ) → WritesAtMost n m (draw_call b n m)
  within n m = go (is_running b) (eqb n m) refl
    where
      c : ℕ
      c = min n (2560 - b.position)

      f : ℕ → Complex
      f i = slot_chip (view b.sending) (b.position + i)

      d : AcceptedDraw
      d = record { count = c; chips = in_buffers c f; bench = moved_on b c }

      go : (t s : Bool) → eqb n m ≡ s → WritesAtMost n m (cond (not t) (refused 11) (cond (not s) (refused 12) (gives d)))
      go false s e = tt
      go true false e = tt
      go true true e =
          let h = eqb-true n m e in (omega (arith, length_listed (λ i. (f i).re) c), omega (arith, h, length_listed (λ i. (f i).im) c))

  -- a draw into parts of x and y entries is one into buffers of n and m, where both are answered alike
  pub relent : (n m x y : ℕ) (re im : List ℤ) {answer : Answer ℕ} {left : Bench} {re' im' : List ℤ} → length (take x re) ≡ x → length (take y im) ≡ y
      → draw_call b x y ≡ draw_call b n m
      → Drawn (draw_call b (length (take x re)) (length (take y im))) b (take x re) (take y im) answer left re' im'
      → Drawn (draw_call b n m) b re im answer left (re' ++ drop x re) (im' ++ drop y im)
  relent n m x y re im {answer} {left} {re'} {im'} g h e d =
      subst (λ (a : Answer AcceptedDraw). Drawn a b re im answer left (re' ++ drop x re) (im' ++ drop y im)) e
      (lent b re im x y (draw_call b x y) (within x y) (subst (λ (a : Answer AcceptedDraw). Drawn a b (take x re) (take y im) answer left re' im') (ap₂ (draw_call b) g h) d))
