-- `lowest` meets its contract. The loop's invariant: `low` covers the entries passed. Assumes nothing.
use mathlib.Core.Path.{◌≡◌, sym, ap, ◌∙◌, subst}
use Prim.Native.Nat.{◌+◌, ◌<◌}
use native.Mathlib.Omega.{arith}
use borrow.Author.Rules.{rules}
use mathlib.Core.List.{List, [], ◌∷◌, ◌++◌}
use lib.IntN.{ℤ, pos}
use lib.ListN.{length, length-append, length-take, take, drop}
use mir.Syntax.{w32}
use mir.Val.{SFits, to_z, of_z}
use mir.Facts.{to_z-of_z}
use Rattle.std.proofs.lemmas.List.{get_or-take, get_or-drop}
use Rattle.std.proofs.lemmas.Slice.Zip.{zip_turn}
use Rattle.complex.specs.Buffers.{◌at◌}
use Rattle.complex.proofs.Sizes.{fits_within}
use Rattle.find.specs.PeakSearch.{Covers, lower_of}
use Rattle.find.proofs.Blocks.{covers_more}
use Rattle.find.proofs.finding.Correlations.lowest.Goals as goal

pub loop-x-preserved : goal.loop-x-preserved
unfolding ◌at◌
loop-x-preserved c =
    let l = c.loop-x in
    let n = length l.yielded in
    let re = c.args.self.now.re.now in
    let im = c.args.self.now.im.now in
    let from = c.args.from in
    let turn = zip_turn (take 32 (drop from re)) (take 32 (drop from im)) l.yielded _ l.x-iterator c.next.new.self _ (search rules) (search rules) l.yielded_by _ c.in-Some.is c.next.ensures.steps in
    let m : n < 32 = omega (arith, turn.0, length-take 32 (drop from re)) in
    let entry = λ (x : List ℤ). get_or-take 32 (drop from x) n (pos 0) m ∙ get_or-drop from x n (pos 0) in
    let small_re = c.args.self.now.re_small.at (from + n) in
    let small_im = c.args.self.now.im_small.at (from + n) in
    let x_is = ap (λ v. to_z w32 (of_z w32 v)) (turn.2 (pos 0) ∙ entry re) ∙ to_z-of_z {w = w32} (fits_within small_re tt) in
    let y_is = ap (λ v. to_z w32 (of_z w32 v)) (turn.3 (pos 0) ∙ entry im) ∙ to_z-of_z {w = w32} (fits_within small_im tt) in
    let f : SFits w32 c.lower-low.result = search rules in
    let low_is = to_z-of_z f ∙ c.lower-low.ensures ∙ (λ i. lower_of (to_z w32 l.low-bits) (x_is i) (y_is i)) in
    let long : length (l.yielded ++ (c.in-Some.x, c.in-Some.y) ∷ []) ≡ n + 1 = length-append l.yielded _ in
    rw long (subst (Covers re im from (n + 1)) (sym low_is) (covers_more _ _ _ n _ l.invariant small_re small_im))
