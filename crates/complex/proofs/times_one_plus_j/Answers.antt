-- Assumes nothing.
use Rattle.std.proofs.Common.{SFits, rules, ◌∙◌, sym}
use Rattle.std.specs.Int.{w32}
use mir.Facts.{to_z-of_z}
use Rattle.complex.proofs.Ring.{by_components, real_one_plus_j}
use Rattle.complex.proofs.times_one_plus_j.Goals as goal

pub returns : goal.returns
returns c =
    let f : SFits w32 c.args.x = search rules in
    by_components (to_z-of_z f) (to_z-of_z f) ∙ sym (real_one_plus_j c.args.x)
