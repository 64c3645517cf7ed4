-- `reading` meets its contract. The loop's invariant: `sum` is the sum of the chips passed, each with its multiplier. Assumes nothing.
use mathlib.Core.Path.{◌≡◌, refl, sym, ap₂, ◌∙◌}
use native.Mathlib.Omega.{arith}
use Rattle.complex.specs.Arithmetic.{𝟎, ◌⊕◌, ◌⊗◌, Σ<}
use Rattle.complex.specs.Fits.{Both}
use Rattle.complex.proofs.Bounds.{value_both}
use Rattle.complex.proofs.Components.{both-⊕, both-⊗, both_fits, product_fits}
use Rattle.complex.proofs.Sums.{Σ_more}
use Rattle.read.specs.Multipliers.{multiplied_sum}
use Rattle.read.proofs.Readings.{multiplied_sum_both}
use Rattle.read.proofs.reading.reading.Goals as goal

pub loop-i-init : goal.loop-i-init
unfolding multiplied_sum Σ< 𝟎
loop-i-init c = (omega arith, refl)

pub times-requires : goal.times-requires
times-requires c =
    let p = c.requires.bound in
    let w : Both 1 c.at.result = rw c.at.ensures (value_both p.0 p.1 _) in
    product_fits c.chip.ensures.size w tt tt

pub plus-sum-requires : goal.plus-sum-requires
plus-sum-requires c =
    let p = c.requires.bound in
    let l = c.loop-i in
    let f = c.args.field.now in
    let h : Both 3200000 l.sum = rw l.invariant.1 (multiplied_sum_both f.re_bound f.im_bound p.0 p.1 _ _ (omega arith)) in
    let w : Both 1 c.at.result = rw c.at.ensures (value_both p.0 p.1 _) in
    let g : Both 200000 c.times.result = rw c.times.ensures (both-⊗ c.chip.ensures.size w) in
    both_fits (both-⊕ h g) tt

pub loop-i-preserved : goal.loop-i-preserved
unfolding multiplied_sum
loop-i-preserved c =
    let l = c.loop-i in
    let term = c.times.ensures ∙ ap₂ ◌⊗◌ c.chip.ensures.is c.at.ensures in
    (omega arith, c.plus-sum.ensures ∙ ap₂ ◌⊕◌ l.invariant.1 term ∙ sym (Σ_more l.i _))

pub returns : goal.returns
returns c =
    let e : c.loop-i.i ≡ c.args.q = omega arith in
    rw e at c.loop-i.invariant.1
