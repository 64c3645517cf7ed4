-- `bounds` meets its contract. The loop's invariant: the entries of the blocks passed bound their sizes. Assumes nothing.
use mathlib.Core.Path.{◌≡◌, sym, ◌∙◌, subst}
use mathlib.Core.Bool.{true}
use Prim.Native.Nat.{◌+◌, ◌*◌, ◌/◌, ◌≤◌}
use native.Mathlib.Omega.{arith}
use borrow.Author.Rules.{rules}
use lib.IntN.{ℤ, pos}
use lib.ListN.{length-set, get_or-append}
use lib.Signed.{le_z}
use mir.Syntax.{w32, w64}
use mir.Val.{SFits, to_z, of_z}
use mir.Facts.{to_z-of_z}
use Rattle.complex.specs.Arithmetic.{◌+j◌, squared_size}
use Rattle.complex.specs.Buffers.{◌at◌}
use Rattle.find.specs.Searching.{size_at, starts}
use Rattle.find.proofs.Blocks.{bounded_more, size_least}
use Rattle.find.proofs.finding.Correlations.bounds.Goals as goal
use Rattle.find.proofs.finding.Correlations.bounds.Goals.{After-lowest-low}

-- the lowest, as the local holds it
low_is : (c : After-lowest-low) → to_z w32 (of_z w32 c.lowest-low.result) ≡ c.lowest-low.result
low_is c = let f : SFits w32 c.lowest-low.result = search rules in to_z-of_z f

pub loop-k-preserved : goal.loop-k-preserved
loop-k-preserved c =
    let place = (goal.at.loop-k-preserved c).After-lowest-low in
    let l = c.loop-k in
    let f : SFits w64 c.squared.result = search rules in
    let value_is = to_z-of_z f ∙ c.squared.ensures ∙ (λ t. squared_size (low_is place t +j low_is place t)) in
    let m : l.k + 1 ≤ starts c.args.self.now / 32 = search rules in
    record {
      block = m;
      whole = length-set l.bound-items l.k _ ∙ l.invariant.whole;
      bounded = bounded_more _ l.k l.bound-items _ (omega (arith, m, l.invariant.whole)) l.invariant.bounded
          (λ i j. subst (λ (z : ℤ). le_z (size_at c.args.self.now (l.k * 32 + i)) z ≡ true) (sym value_is) (size_least _ _ c.lowest-low.result (omega (arith, c.lowest-low.ensures.each i j))));
    }

pub returns : goal.returns
unfolding ◌at◌
returns c =
    let l = c.loop-k in
    let e : l.k ≡ starts c.args.self.now / 32 = search rules in
    record { each = λ k m i j. rw (get_or-append l.bound-items _ (pos 0) k (omega (arith, m, l.invariant.whole))) (l.invariant.bounded.each k (omega (arith, m, e)) i j) }
