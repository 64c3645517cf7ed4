-- Each component is the sum of the two that it is made of. Assumes nothing.
use Rattle.std.proofs.Common.{rules, SFits}
use Rattle.std.specs.Int.{w32}
use Rattle.complex.specs.Arithmetic.{◌⊕◌}
use Rattle.complex.proofs.Machine.{add_asks, add_gives}
use Rattle.complex.proofs.Ring.{by_components}
use Rattle.complex.proofs.Complex.plus.Goals as goal

pub overflow_add-result : goal.overflow_add-result
unfolding ◌⊕◌
overflow_add-result c =
    let f : SFits w32 c.args.self.re = search rules in
    let g : SFits w32 c.args.other.re = search rules in
    add_asks f g c.requires.re

pub overflow_add-result-2 : goal.overflow_add-result-2
unfolding ◌⊕◌
overflow_add-result-2 c =
    let f : SFits w32 c.args.self.im = search rules in
    let g : SFits w32 c.args.other.im = search rules in
    add_asks f g c.requires.im

pub returns : goal.returns
unfolding ◌⊕◌
returns c =
    let f : SFits w32 c.args.self.re = search rules in
    let g : SFits w32 c.args.other.re = search rules in
    let f' : SFits w32 c.args.self.im = search rules in
    let g' : SFits w32 c.args.other.im = search rules in
    by_components (add_gives f g c.requires.re) (add_gives f' g' c.requires.im)
