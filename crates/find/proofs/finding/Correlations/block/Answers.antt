-- `block` meets its contract: a start that counts is no larger than the best where its block is passed over. Assumes nothing.
use Prim.Native.Nat.{◌+◌}
use native.Mathlib.Omega.{arith}
use borrow.Author.Rules.{rules}
use mir.Syntax.{w64}
use mir.Val.{SFits}
use mir.Facts.{to_z-of_z}
use Rattle.complex.proofs.Order.{lt_z_false, le_z_true, le_z_false, le_le_z}
use Rattle.find.specs.Searching.{size_at}
use Rattle.find.proofs.Blocks.{more_passed}
use Rattle.find.proofs.finding.Correlations.block.Goals as goal
use Rattle.find.proofs.finding.Correlations.block.Goals.{else-floor-bound-via-then-floor-bound+else-best-bound, else-floor-bound-via-else-floor-bound}

pub returns-then-best-bound : goal.returns-then-best-bound
returns-then-best-bound c = c.look.ensures _ c.requires.2

pub returns : goal.returns
returns c =
    let value = size_at c.args.self.now in
    let bound = to_z-of_z c.ranges.bound in
    let own = c.requires.2.own in
    let f : SFits w64 c.args.best.value = search rules in
    more_passed _ _ _ c.args.from 32 c.args.best c.requires.2
    (λ i l t.
    let x = value (c.args.from + i) in
    let y = value c.args.best.at in
    let high = le_z_true x c.args.bound (c.requires.1 i l) in
    let low = le_z_true c.args.floor x t in
    le_le_z x y
    (elim c.else-floor-bound.branch [
      | else-floor-bound-via-then-floor-bound+else-best-bound w ↦ let e = rw (to_z-of_z f, bound, own) at w.if-best-bound.false in omega (arith, lt_z_false, le_z_false)
      | else-floor-bound-via-else-floor-bound w ↦ let e = rw (to_z-of_z c.ranges.floor, bound) at w.if-floor-bound.false in omega (arith, lt_z_false, le_z_false)
    ]))
