-- `part_chip` meets its contract. Assumes nothing.
use mathlib.Core.Path.{sym, ◌∙◌}
use lib.IntN.{ℤ, ◌+ℤ◌, ◌*ℤ◌}
use Rattle.complex.specs.Fits.{Within}
use Rattle.complex.proofs.Ring.{by_components}
use Rattle.complex.proofs.Stored.{Is, held, given, stored, fits, plus, times}
use Rattle.complex.specs.Buffers.{◌at◌}
use Rattle.codes.specs.SyncCodes.{a, b}
use Rattle.codes.proofs.Rows.{row_within, a_test, b_test}
use Rattle.modulation.proofs.BurstParts.{part_chip_is}
use Rattle.modulation.proofs.burst.part_chip.Goals as goal
use Rattle.modulation.proofs.burst.part_chip.Goals.{After-a_sign, After-b_sign-sign, Start}

u_is : (c : After-a_sign) → Is 65535 (held c.a_sign.result *ℤ held c.args.p) (a at c.args.i *ℤ c.args.p)
u_is c = times (stored (record { equal = c.a_sign.ensures; size = row_within a a_test _ }) tt) (stored (given c.requires.0) tt)

module _ (c : After-b_sign-sign) where
  abbrev start : Start
  start = c.before.before

  -- for either component x of s
  product : {x : ℤ} → Within 400000 x → Is 400000 (held c.b_sign-sign.result *ℤ held x) (b at start.args.i *ℤ x)
  product h = times (stored (record { equal = c.b_sign-sign.ensures; size = row_within b b_test _ }) tt) (stored (given h) tt)

  sum : {x : ℤ} → Within 400000 x
      → Is 465535 (held (held c.a_sign.result *ℤ held start.args.p) +ℤ held (held c.b_sign-sign.result *ℤ held x)) (a at start.args.i *ℤ start.args.p +ℤ b at start.args.i *ℤ x)
  sum h = plus (stored (u_is c.before) tt) (stored (product h) tt)

pub overflow_mul-u : goal.overflow_mul-u
overflow_mul-u c = fits (u_is c) tt

pub overflow_mul-result : goal.overflow_mul-result
overflow_mul-result c = fits (product (goal.at.overflow_mul-result c).After-b_sign-sign (start (goal.at.overflow_mul-result c).After-b_sign-sign).requires.1.re) tt

pub overflow_add-result : goal.overflow_add-result
overflow_add-result c = fits (sum (goal.at.overflow_add-result c).After-b_sign-sign (start (goal.at.overflow_add-result c).After-b_sign-sign).requires.1.re) tt

pub overflow_mul-result-2 : goal.overflow_mul-result-2
overflow_mul-result-2 c = fits (product (goal.at.overflow_mul-result-2 c).After-b_sign-sign (start (goal.at.overflow_mul-result-2 c).After-b_sign-sign).requires.1.im) tt

pub overflow_add-result-2 : goal.overflow_add-result-2
overflow_add-result-2 c = fits (sum (goal.at.overflow_add-result-2 c).After-b_sign-sign (start (goal.at.overflow_add-result-2 c).After-b_sign-sign).requires.1.im) tt

pub returns : goal.returns
returns c =
    let s = start (goal.at.returns c).After-b_sign-sign in
    by_components (stored (sum (goal.at.returns c).After-b_sign-sign s.requires.1.re) tt).equal (stored (sum (goal.at.returns c).After-b_sign-sign s.requires.1.im) tt).equal ∙ sym (part_chip_is s.args.p s.args.s s.args.i)
