-- `modulated_parts` meets its contract: a sum of three. Assumes nothing.
use mathlib.Core.Path.{◌≡◌, sym, ap₂, ◌∙◌, subst}
use Rattle.complex.specs.Arithmetic.{◌⊕◌}
use Rattle.complex.specs.Fits.{Fits32}
use Rattle.complex.proofs.Components.{both-⊕, both_fits}
use Rattle.modulation.specs.SixteenChips.{modulated_part, modulated_parts}
use Rattle.modulation.proofs.BurstParts.{modulated_both, modulated_parts_both}
use Rattle.modulation.proofs.burst.modulated_parts.Goals as goal
use Rattle.modulation.proofs.burst.modulated_parts.Goals.{After-modulated_part-2, After-modulated_part-3, Start}

module _ (c : After-modulated_part-2) where
  abbrev start : Start
  start = c.before.before.before.before

  two : c.modulated_part.result ⊕ c.modulated_part-2.result ≡ modulated_part start.args.s.first start.args.m ⊕ modulated_part start.args.s.second start.args.m
  two = ap₂ ◌⊕◌ c.modulated_part.ensures c.modulated_part-2.ensures

three : (c : After-modulated_part-3) → let s = start c.before.before.before in c.plus.result ⊕ c.modulated_part-3.result ≡ modulated_parts s.args.s s.args.m
three c = ap₂ ◌⊕◌ (c.plus.ensures ∙ two c.before.before.before) c.modulated_part-3.ensures

pub plus-requires : goal.plus-requires
plus-requires c =
    let p = (start c).requires in
    subst Fits32 (sym (two c)) (both_fits (both-⊕ (modulated_both _ p.0 _) (modulated_both _ p.1 _)) tt)

pub plus-requires-2 : goal.plus-requires-2
plus-requires-2 c = subst Fits32 (sym (three c)) (both_fits (modulated_parts_both _ (start (goal.at.plus-requires-2 c).After-modulated_part-2).requires _) tt)

pub returns : goal.returns
returns c = c.plus-2.ensures ∙ three (goal.at.returns c).After-modulated_part-3
