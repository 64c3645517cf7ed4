-- `floor` meets its contract. Assumes nothing.
use mathlib.Core.Path.{◌∙◌}
use mathlib.Core.Bool.{false}
use borrow.Author.Rules.{rules}
use mir.Syntax.{w64}
use mir.Val.{SFits}
use mir.Facts.{to_z-of_z}
use Rattle.find.proofs.Blocks.{none_counts}
use Rattle.find.proofs.finding.Correlations.floor.Goals as goal

pub returns : goal.returns
returns c =
    let f : SFits w64 c.look.result.value = search rules in
    let h = c.look.ensures (λ k. false) (none_counts _ _ _ c.args.first c.requires.1 c.requires.2) in
    (c.look.result.at, h.below, to_z-of_z f ∙ h.own)
