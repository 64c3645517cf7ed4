-- `whole` meets its contract. The loop's invariant: the sums passed are in the buffer, and its other entries are as they were. Assumes nothing.
use mathlib.Core.Path.{◌≡◌, refl, ◌∙◌}
use Prim.Native.Nat.{ℕ, ◌+◌, ◌<◌, ◌≤◌}
use native.Mathlib.Omega.{arith}
use lib.IntN.{◌+ℤ◌, ◌-ℤ◌}
use lib.ListN.{set, length-set}
use Rattle.complex.specs.Buffers.{listed, ◌at◌}
use Rattle.complex.specs.Fits.{Within}
use Rattle.complex.proofs.Lists.{one_more_written}
use Rattle.analyser_parts.proofs.Products.{held}
use Rattle.find.proofs.Golay.{kept, Step, step, taken_within, whole_of}
use Rattle.find.proofs.finding.whole.Goals as goal
use Rattle.find.proofs.finding.whole.Goals.{In-loop-i}

-- the entries read: those of y are as they were
module _ (c : In-loop-i) where
  entry_kept : (k : ℕ) → c.loop-i.i ≤ k → c.loop-i.y at k ≡ c.args.y.now at k
  entry_kept k l = kept (whole_of (◌at◌ c.args.y.now) (◌at◌ c.args.t.now)) c.args.y.now c.loop-i.i c.loop-i.invariant.1 k l

  y_small : (k : ℕ) → c.loop-i.i ≤ k → k < c.args.count + 192 → Within 6400000 (c.loop-i.y at k)
  y_small k l g = held (entry_kept k l) (taken_within 6400000 (c.args.count + 192) c.args.y.now c.requires.3 k g)

  t_small : (k : ℕ) → k < c.args.count + 192 → Within 6400000 (c.args.t.now at k)
  t_small k g = taken_within 6400000 (c.args.count + 192) c.args.t.now c.requires.4 k g

  -- the sum of this turn
  here : let y = ◌at◌ c.loop-i.y in let t = ◌at◌ c.args.t.now in let i = c.loop-i.i in Step (y i) (y (i + 128)) (t (i + 192)) (t (i + 64))
  here = step (y_small _ (omega arith) (omega arith)) (y_small _ (omega arith) (omega arith)) (t_small _ (omega arith)) (t_small _ (omega arith))

  here_is : let y = ◌at◌ c.loop-i.y in let old = ◌at◌ c.args.y.now in let i = c.loop-i.i in (y i ≡ old i) × (y (i + 128) ≡ old (i + 128))
  here_is = (entry_kept _ (omega arith), entry_kept _ (omega arith))

pub loop-i-init : goal.loop-i-init
unfolding listed
loop-i-init c = (omega arith, refl, refl)

pub overflow_add-y-in-loop-i : goal.overflow_add-y-in-loop-i
unfolding ◌at◌
overflow_add-y-in-loop-i c = (here (goal.at.overflow_add-y-in-loop-i c).In-loop-i).sum

pub overflow_sub-y : goal.overflow_sub-y
unfolding ◌at◌
overflow_sub-y c = (here (goal.at.overflow_sub-y c).In-loop-i).difference

pub overflow_add-y-in-loop-i-4 : goal.overflow_add-y-in-loop-i-4
unfolding ◌at◌
overflow_add-y-in-loop-i-4 c = (here (goal.at.overflow_add-y-in-loop-i-4 c).In-loop-i).whole

pub loop-i-preserved : goal.loop-i-preserved
unfolding ◌at◌
loop-i-preserved c =
    let place = (goal.at.loop-i-preserved c).In-loop-i in
    let l = c.loop-i in
    let a = c.args in
    let k = here_is place in
    let sum = (here place).value ∙ (λ i. k.0 i +ℤ k.1 i +ℤ (a.t.now at (l.i + 192) -ℤ a.t.now at (l.i + 64))) in (
      omega arith,
      (λ j. set (l.invariant.1 j) l.i (sum j)) ∙ one_more_written (whole_of (◌at◌ a.y.now) (◌at◌ a.t.now)) _ l.i (omega arith),
      simp length-set l.invariant.2,
    )
