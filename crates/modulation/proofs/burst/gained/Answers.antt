-- `gained` meets its contract. Assumes nothing.
use mathlib.Core.Path.{sym, ◌∙◌}
use native.Mathlib.Omega.{arith}
use lib.IntN.{ℤ, pos, ◌+ℤ◌, ◌-ℤ◌, ◌*ℤ◌}
use mir.Syntax.{w32}
use mir.Val.{to_z, of_z}
use Rattle.complex.proofs.Ring.{by_components}
use Rattle.complex.proofs.Stored.{Is, held, given, number, stored, plus, minus, times}
use Rattle.modulation.proofs.BurstParts.{gained_is}
use Rattle.modulation.proofs.burst.gained.Goals as goal
use Rattle.modulation.proofs.burst.gained.Goals.{After-from-gain}

module _ (c : After-from-gain) where
  abbrev re : ℤ
  re = c.args.t.re

  abbrev im : ℤ
  im = c.args.t.im

  difference : Is 6 (held re -ℤ held im) (re -ℤ im)
  difference = minus (stored (given c.requires.re) tt) (stored (given c.requires.im) tt)

  sum : Is 6 (held re +ℤ held im) (re +ℤ im)
  sum = plus (stored (given c.requires.re) tt) (stored (given c.requires.im) tt)

  product : {x y : ℤ} → Is 6 x y → Is 393210 (to_z w32 (of_z w32 c.from-gain.result) *ℤ held x) (pos c.args.g *ℤ y)
  product h = rw c.from-gain.ensures (times (stored (number 65535 c.args.g (omega arith)) tt) (stored h tt))

pub returns : goal.returns
returns c =
    let s = (goal.at.returns c).After-from-gain in
    by_components (stored (product s (difference s)) tt).equal (stored (product s (sum s)) tt).equal ∙ sym (gained_is (pos c.args.g) c.args.t)
