-- Each arm is the rotation of its n modulo 4. Assumes nothing.
use Rattle.std.proofs.Common.{◌≡◌, ◌%◌, ◌∙◌, sym, arith, rules, SFits}
use Rattle.std.specs.Int.{w32}
use mir.Facts.{to_z-of_z}
use Rattle.complex.proofs.Machine.{neg_gives}
use Rattle.complex.proofs.Ring.{by_components}
use Rattle.complex.proofs.Rotations.{rotate_0, rotate_1, rotate_2, rotate_3}
use Rattle.complex.proofs.Complex.rotated.Goals as goal

pub returns-in-0 : goal.returns-in-0
returns-in-0 c = sym (rotate_0 c.args.n c.args.self c.in-0.is)

pub returns-in-1 : goal.returns-in-1
returns-in-1 c =
    let f : SFits w32 c.args.self.re = search rules in
    let g : SFits w32 c.args.self.im = search rules in
    by_components (neg_gives g c.requires.im) (to_z-of_z f) ∙ sym (rotate_1 c.args.n c.args.self c.in-1.is)

pub returns-in-2 : goal.returns-in-2
returns-in-2 c =
    let f : SFits w32 c.args.self.re = search rules in
    let g : SFits w32 c.args.self.im = search rules in
    by_components (neg_gives f c.requires.re) (neg_gives g c.requires.im) ∙ sym (rotate_2 c.args.n c.args.self c.in-2.is)

pub returns-in_default : goal.returns-in_default
returns-in_default c =
    let f : SFits w32 c.args.self.re = search rules in
    let g : SFits w32 c.args.self.im = search rules in
    let e : c.args.n % 4 ≡ 3 = omega arith in
    by_components (to_z-of_z g) (neg_gives f c.requires.re) ∙ sym (rotate_3 c.args.n c.args.self e)
