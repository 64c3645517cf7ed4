-- `sums` meets its contract. The loop's invariant: the sums passed are in the buffer. Assumes nothing.
use mathlib.Core.Path.{refl, ◌∙◌}
use Prim.Native.Nat.{ℕ, ◌+◌}
use native.Mathlib.Omega.{arith}
use lib.Dec.{lit≤}
use lib.ListN.{set, length-set}
use Rattle.complex.specs.Buffers.{listed, ◌at◌}
use Rattle.complex.specs.Fits.{Within}
use Rattle.complex.proofs.Lists.{one_more_written}
use Rattle.complex.proofs.Sizes.{within_more}
use Rattle.find.specs.PeakSearch.{four_of}
use Rattle.find.proofs.Golay.{Step, step}
use Rattle.find.proofs.finding.sums.Goals as goal
use Rattle.find.proofs.finding.sums.Goals.{In-loop-i}

module _ (c : In-loop-i) where
  entry : (k : ℕ) → Within 6400000 (c.args.x.now at k)
  unfolding ◌at◌
  entry k = within_more (c.requires.5.at k) 6400000 (lit≤ tt)

  here : let x = ◌at◌ c.args.x.now in Step (x c.loop-i.i) (x (c.loop-i.i + c.args.a)) (x (c.loop-i.i + c.args.b)) (x (c.loop-i.i + c.args.c))
  here = step (entry _) (entry _) (entry _) (entry _)

pub loop-i-init : goal.loop-i-init
unfolding listed
loop-i-init c = (omega arith, refl, refl)

pub overflow_add-y-in-loop-i-4 : goal.overflow_add-y-in-loop-i-4
unfolding ◌at◌
overflow_add-y-in-loop-i-4 c = (here (goal.at.overflow_add-y-in-loop-i-4 c).In-loop-i).whole

pub loop-i-preserved : goal.loop-i-preserved
unfolding ◌at◌
loop-i-preserved c =
    let l = c.loop-i in
    let a = c.args in
    let value = (here (goal.at.loop-i-preserved c).In-loop-i).value in (
      omega arith,
      (λ j. set (l.invariant.1 j) l.i (value j)) ∙ one_more_written (four_of (◌at◌ a.x.now) a.a a.b a.c) _ l.i (omega arith),
      simp length-set l.invariant.2,
    )
