-- `products` meets its contract. The loop's invariant: the products passed are in both arrays. Assumes nothing.
use mathlib.Core.Path.{◌≡◌, refl, sym, ap, ◌∙◌, subst}
use native.Mathlib.Omega.{arith}
use borrow.Author.Rules.{rules}
use lib.Dec.{lit≤}
use lib.ListN.{set}
use mir.Syntax.{w64}
use mir.Val.{SFits}
use mir.Facts.{to_z-of_z}
use Rattle.complex.specs.declared.Complex.{Complex}
use Rattle.complex.specs.Buffers.{listed}
use Rattle.complex.specs.Fits.{Bound}
use Rattle.complex.proofs.Bounds.{bound_listed, bound_more}
use Rattle.complex.proofs.Lists.{one_more_written, all_written}
use Rattle.read_sync.proofs.Shares.{product_within}
use Rattle.read_sync.proofs.sync_reading.PartSums.products.Goals as goal

pub loop-i-init : goal.loop-i-init
unfolding listed
loop-i-init c = (omega arith, refl, refl)

pub loop-i-preserved : goal.loop-i-preserved
loop-i-preserved c =
    let l = c.loop-i in
    let f : SFits w64 c.product-d.result.re = search rules in
    let g : SFits w64 c.product-d.result.im = search rules in (
      omega arith,
      (λ j. set (l.invariant.1 j) l.i ((to_z-of_z f ∙ ap (λ (z : Complex). z.re) c.product-d.ensures) j)) ∙ one_more_written _ _ l.i (omega arith),
      (λ j. set (l.invariant.2 j) l.i ((to_z-of_z g ∙ ap (λ (z : Complex). z.im) c.product-d.ensures) j)) ∙ one_more_written _ _ l.i (omega arith),
    )

pub invariant_of-result : goal.invariant_of-result
invariant_of-result c =
    let l = c.loop-i in
    let e : l.i ≡ 16 = omega arith in
    let within = product_within c.args.self.now.re_small c.args.self.now.im_small c.requires in
    let re = rw e at l.invariant.1 in
    let im = rw e at l.invariant.2 in
    record {
      re_small = subst (Bound 5300000000000000) (sym (re ∙ all_written _ _ 16 refl)) (bound_more (bound_listed 5242880000000000 16 _ (λ i. (within i).re)) 5300000000000000 (lit≤ tt));
      im_small = subst (Bound 5300000000000000) (sym (im ∙ all_written _ _ 16 refl)) (bound_more (bound_listed 5242880000000000 16 _ (λ i. (within i).im)) 5300000000000000 (lit≤ tt));
    }

pub returns : goal.returns
returns c =
    let l = c.loop-i in
    let e : l.i ≡ 16 = omega arith in
    let x = rw e at l.invariant.1 in
    let y = rw e at l.invariant.2 in
    (x ∙ all_written _ _ 16 refl, y ∙ all_written _ _ 16 refl)
