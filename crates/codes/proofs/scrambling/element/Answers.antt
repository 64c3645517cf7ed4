-- `element` meets its contract. Assumes nothing.
use borrow.Author.Rules.{rules}
use mathlib.Core.Path.{sym, subst, ap, ◌∙◌}
use mir.Facts.{to_z-of_z}
use mir.Syntax.{w32}
use mir.Val.{SFits}
use Rattle.complex.specs.Arithmetic.{real}
use Rattle.complex.specs.Fits.{Both}
use Rattle.codes.proofs.Rows.{v_small}
use Rattle.codes.proofs.scrambling.element.Goals as goal

pub rotated-requires : goal.rotated-requires
rotated-requires c =
    let f : SFits w32 c.sign.result = search rules in
    let h : Both 1 c.from.result =
    subst (Both 1) (sym (c.from.ensures ∙ ap real (to_z-of_z f ∙ c.sign.ensures))) (v_small c.args.p.0 c.args.i) in
    search rules
