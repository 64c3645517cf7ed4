-- The components are those of the conjugate. Assumes nothing.
use Rattle.std.proofs.Common.{rules, SFits}
use Rattle.std.specs.Int.{w32}
use mir.Facts.{to_z-of_z}
use Rattle.complex.specs.Arithmetic.{conj}
use Rattle.complex.proofs.Machine.{neg_gives}
use Rattle.complex.proofs.Ring.{by_components}
use Rattle.complex.proofs.Complex.conjugate.Goals as goal

pub returns : goal.returns
unfolding conj
returns c =
    let f : SFits w32 c.args.self.re = search rules in
    let g : SFits w32 c.args.self.im = search rules in
    by_components (to_z-of_z f) (neg_gives g c.requires)
