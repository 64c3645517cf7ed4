-- `squared` meets its contract: the squares and their sum fit. Assumes nothing.
use mathlib.Core.Path.{◌∙◌}
use borrow.Author.Rules.{rules}
use mir.Syntax.{w32, w64}
use mir.Val.{SFits}
use mir.Facts.{to_z-of_z}
use Rattle.analyser_parts.proofs.Products.{products_fit, held}
use Rattle.find.proofs.finding.squared.Goals as goal

pub sum_of_products-requires : goal.sum_of_products-requires
sum_of_products-requires c =
    let f : SFits w64 c.from-a.result = search rules in
    let g : SFits w64 c.from-b.result = search rules in
    let h : SFits w32 c.args.z.re = search rules in
    let k : SFits w32 c.args.z.im = search rules in
    let re = held (to_z-of_z f ∙ c.from-a.ensures ∙ to_z-of_z h) c.requires.re in
    let im = held (to_z-of_z g ∙ c.from-b.ensures ∙ to_z-of_z k) c.requires.im in
    products_fit re re im im tt tt tt
