-- `pairs` meets its contract. The loop's invariant: the sums passed are in both buffers, and the other entries are as they were. Assumes nothing.
use mathlib.Core.Path.{◌≡◌, refl, ◌∙◌}
use Prim.Native.Nat.{ℕ, ◌+◌, ◌<◌, ◌≤◌}
use native.Mathlib.Omega.{arith}
use lib.Dec.{lit≤}
use lib.IntN.{◌+ℤ◌, ◌-ℤ◌}
use lib.ListN.{set, length-set}
use Rattle.complex.specs.Buffers.{listed, ◌at◌}
use Rattle.complex.specs.Fits.{Within}
use Rattle.complex.proofs.Lists.{one_more_written}
use Rattle.complex.proofs.Sizes.{within_more}
use Rattle.analyser_parts.proofs.Products.{held}
use Rattle.find.specs.PeakSearch.{four_of}
use Rattle.find.proofs.Golay.{kept, Step, step, taken_within}
use Rattle.find.proofs.finding.pairs.Goals as goal
use Rattle.find.proofs.finding.pairs.Goals.{In-loop-i}

-- the entries read, which are as they were
module _ (c : In-loop-i) where
  entry_kept : (k : ℕ) → c.loop-i.i ≤ k → c.loop-i.y at k ≡ c.args.y.now at k
  entry_kept k l = kept (four_of (◌at◌ c.args.y.now) 32 16 48) c.args.y.now c.loop-i.i c.loop-i.invariant.1 k l

  small : (k : ℕ) → c.loop-i.i ≤ k → k < c.args.count + 48 → Within 6400000 (c.loop-i.y at k)
  small k l g = held (entry_kept k l) (within_more (taken_within 1600000 (c.args.count + 48) c.args.y.now c.requires.3 k g) 6400000 (lit≤ tt))

  at_kept : let y = ◌at◌ c.loop-i.y in let old = ◌at◌ c.args.y.now in let i = c.loop-i.i in
      (y i ≡ old i) × (y (i + 32) ≡ old (i + 32)) × (y (i + 16) ≡ old (i + 16)) × (y (i + 48) ≡ old (i + 48))
  at_kept = (entry_kept _ (omega arith), entry_kept _ (omega arith), entry_kept _ (omega arith), entry_kept _ (omega arith))

  -- the sums of this turn
  plus : let y = ◌at◌ c.loop-i.y in let i = c.loop-i.i in Step (y i) (y (i + 32)) (y (i + 16)) (y (i + 48))
  plus = step (small _ (omega arith) (omega arith)) (small _ (omega arith) (omega arith)) (small _ (omega arith) (omega arith)) (small _ (omega arith) (omega arith))

  minus : let y = ◌at◌ c.loop-i.y in let i = c.loop-i.i in Step (y i) (y (i + 32)) (y (i + 48)) (y (i + 16))
  minus = step (small _ (omega arith) (omega arith)) (small _ (omega arith) (omega arith)) (small _ (omega arith) (omega arith)) (small _ (omega arith) (omega arith))

pub loop-i-init : goal.loop-i-init
unfolding listed
loop-i-init c = (omega arith, refl, refl, refl, refl)

pub overflow_add-y : goal.overflow_add-y
unfolding ◌at◌
overflow_add-y c = (plus (goal.at.overflow_add-y c).In-loop-i).sum

pub overflow_sub-y : goal.overflow_sub-y
unfolding ◌at◌
overflow_sub-y c = (plus (goal.at.overflow_sub-y c).In-loop-i).difference

pub overflow_add-y-in-loop-i : goal.overflow_add-y-in-loop-i
unfolding ◌at◌
overflow_add-y-in-loop-i c = (plus (goal.at.overflow_add-y-in-loop-i c).In-loop-i).whole

pub overflow_add-t : goal.overflow_add-t
unfolding ◌at◌
overflow_add-t c = (minus (goal.at.overflow_add-t c).In-loop-i).sum

pub overflow_sub-t : goal.overflow_sub-t
unfolding ◌at◌
overflow_sub-t c = (minus (goal.at.overflow_sub-t c).In-loop-i).difference

pub overflow_add-t-in-loop-i : goal.overflow_add-t-in-loop-i
unfolding ◌at◌
overflow_add-t-in-loop-i c = (minus (goal.at.overflow_add-t-in-loop-i c).In-loop-i).whole

pub loop-i-preserved : goal.loop-i-preserved
unfolding ◌at◌
loop-i-preserved c =
    let place = (goal.at.loop-i-preserved c).In-loop-i in
    let l = c.loop-i in
    let old = c.args.y.now in
    let k = at_kept place in
    let u = (plus place).value ∙ (λ t. k.0 t +ℤ k.1 t +ℤ (k.2 t -ℤ k.3 t)) in
    let v = (minus place).value ∙ (λ t. k.0 t +ℤ k.1 t +ℤ (k.3 t -ℤ k.2 t)) in (
      omega arith,
      (λ j. set (l.invariant.1 j) l.i (u j)) ∙ one_more_written (four_of (◌at◌ old) 32 16 48) _ l.i (omega arith),
      simp length-set l.invariant.2,
      (λ j. set (l.invariant.3 j) l.i (v j)) ∙ one_more_written (four_of (◌at◌ old) 32 48 16) _ l.i (omega arith),
      simp length-set l.invariant.4,
    )
