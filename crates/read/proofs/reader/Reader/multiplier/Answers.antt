-- `multiplier` meets its contract: the conjugate of the scrambling element times the code's sign. Assumes nothing.
use mathlib.Core.Path.{ap, ap₂, ◌∙◌}
use borrow.Author.Rules.{rules}
use mir.Syntax.{w32}
use mir.Val.{SFits}
use mir.Facts.{to_z-of_z}
use Rattle.complex.specs.Arithmetic.{real, ◌⊗◌, conj}
use Rattle.complex.specs.Fits.{Both}
use Rattle.complex.proofs.Components.{both_conj, both_fits, product_fits, real_both}
use Rattle.codes.proofs.Leaves.{element_within}
use Rattle.codes.proofs.Rows.{scrambling_both}
use Rattle.read.specs.Multipliers.{multiplier}
use Rattle.read.proofs.reader.Reader.multiplier.Goals as goal

pub conjugate-requires : goal.conjugate-requires
unfolding conj
conjugate-requires c =
    let h : Both 1 c.element.result = rw c.element.ensures (scrambling_both _ _) in
    (both_fits (both_conj h) tt).im

pub times-requires : goal.times-requires
unfolding real
times-requires c =
    let h : Both 1 c.conjugate.result = rw (c.conjugate.ensures ∙ ap conj c.element.ensures) (both_conj (scrambling_both _ _)) in
    let f : SFits w32 c.sign.result = search rules in
    let g : Both 1 c.from-sign.result = rw (c.from-sign.ensures ∙ ap real (to_z-of_z f ∙ c.sign.ensures)) (real_both (element_within _ _ _)) in
    product_fits h g tt tt

pub returns : goal.returns
unfolding multiplier
returns c =
    let f : SFits w32 c.sign.result = search rules in
    c.times.ensures ∙ ap₂ ◌⊗◌ (c.conjugate.ensures ∙ ap conj c.element.ensures) (c.from-sign.ensures ∙ ap real (to_z-of_z f ∙ c.sign.ensures))
