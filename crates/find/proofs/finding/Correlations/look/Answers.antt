-- `look` meets its contract. The loop's invariant: `found` is the largest of the sizes passed, the earliest of equal ones. Assumes nothing.
use mathlib.Core.Path.{◌≡◌, sym, ◌∙◌, subst}
use Prim.Native.Nat.{◌+◌}
use native.Mathlib.Omega.{arith}
use borrow.Author.Rules.{rules}
use mir.Syntax.{w64}
use mir.Val.{SFits}
use mir.Facts.{to_z-of_z}
use Rattle.find.specs.Searching.{Searched}
use Rattle.find.proofs.Blocks.{one_passed}
use Rattle.find.proofs.finding.Correlations.look.Goals as goal

pub loop-i-preserved : goal.loop-i-preserved
loop-i-preserved c =
    let l = c.loop-i in
    let f : SFits w64 c.size.result = search rules in
    record {
      start = omega arith;
      end = omega arith;
      searched = λ t h. subst (Searched c.args.self.now t (l.i + 1)) (sym c.or_later-found.ensures) (one_passed _ _ t l.i l.found (omega arith) (l.invariant.searched t h) _ (to_z-of_z f ∙ c.size.ensures));
    }

pub returns : goal.returns
returns c =
    let e : c.loop-i.i ≡ c.args.end = omega arith in
    rw e at c.loop-i.invariant.searched
