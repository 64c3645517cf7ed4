-- `Lanes::put_readings` meets its contract. The loop's invariant: the readings passed are written. Assumes nothing.
use mathlib.Core.Path.{◌≡◌, refl, ap, ◌∙◌}
use native.Mathlib.Omega.{arith}
use borrow.Author.Rules.{rules}
use lib.ListN.{set, length-set}
use mir.Syntax.{w32}
use mir.Val.{SFits}
use mir.Facts.{to_z-of_z}
use Rattle.complex.specs.declared.Complex.{Complex}
use Rattle.complex.specs.Buffers.{listed}
use Rattle.complex.proofs.Lists.{one_more_written}
use Rattle.read.proofs.sixteen.Lanes.put_readings.Goals as goal

pub loop-m-init : goal.loop-m-init
unfolding listed
loop-m-init c = (omega arith, refl, refl, refl, refl)

pub reading-y-requires : goal.reading-y-requires
reading-y-requires c = (omega arith, λ i l. c.requires.3 i (omega arith))

pub loop-m-preserved : goal.loop-m-preserved
loop-m-preserved c =
    let l = c.loop-m in
    let f : SFits w32 c.reading-y.result.re = search rules in
    let g : SFits w32 c.reading-y.result.im = search rules in (
      omega arith,
      simp length-set l.invariant.1,
      simp length-set l.invariant.2,
      (λ j. set (l.invariant.3 j) l.m ((to_z-of_z f ∙ ap (λ (x : Complex). x.re) c.reading-y.ensures) j)) ∙ one_more_written _ _ l.m (omega arith),
      (λ j. set (l.invariant.4 j) l.m ((to_z-of_z g ∙ ap (λ (x : Complex). x.im) c.reading-y.ensures) j)) ∙ one_more_written _ _ l.m (omega arith),
    )

pub returns : goal.returns
returns c =
    let e : c.loop-m.m ≡ c.args.n = omega arith in
    record { real = rw e at c.loop-m.invariant.3; imaginary = rw e at c.loop-m.invariant.4 }
