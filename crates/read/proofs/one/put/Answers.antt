-- `put` meets its contract. The loop's invariant: i more entries are written. Assumes nothing.
use mathlib.Core.Path.{◌≡◌, refl, ap, ◌∙◌}
use mathlib.Core.List.{List}
use Prim.Native.Nat.{ℕ, ◌+◌, ◌<◌}
use native.Mathlib.Omega.{arith}
use borrow.Author.Rules.{rules}
use lib.IntN.{ℤ, pos}
use lib.ListN.{get_or, set, length-set}
use mir.Syntax.{w32}
use mir.Val.{SFits}
use mir.Facts.{to_z-of_z}
use Rattle.complex.specs.Buffers.{listed, written}
use Rattle.complex.proofs.Lists.{one_more_written, listed_at}
use Rattle.read.proofs.one.put.Goals as goal

pub loop-i-init : goal.loop-i-init
loop-i-init c =
    let from = c.args.at in
    let e : from ≡ from + 0 = omega arith in
    (omega arith, refl, λ f d n g h. h ∙ ap (λ (k : ℕ). written (listed k f) d) e)

pub loop-i-preserved : goal.loop-i-preserved
loop-i-preserved c =
    let l = c.loop-i in
    let s = c.args in
    let z : SFits w32 (get_or s.x.now l.i (pos 0)) = search rules in
    let e : s.at + l.i + 1 ≡ s.at + (l.i + 1) = omega arith in
    let m : l.i < 16 = omega arith in (
      omega arith,
      simp length-set l.invariant.1,
      λ f d n g h.
          (λ j. set (l.invariant.2 f d n g h j) (s.at + l.i) ((to_z-of_z z ∙ ap (λ (t : List ℤ). get_or t l.i (pos 0)) g ∙ listed_at (λ i. f (s.at + i)) (pos 0) 16 l.i m) j))
          ∙ one_more_written f d (s.at + l.i) (omega arith)
          ∙ ap (λ (k : ℕ). written (listed k f) d) e,
    )

pub shape_of-out : goal.shape_of-out
shape_of-out c = c.loop-i.invariant.1

pub returns : goal.returns
returns c =
    let e : c.loop-i.i ≡ 16 = omega arith in
    rw e at c.loop-i.invariant.2
