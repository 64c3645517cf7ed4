-- `modulated_part` meets its contract: a sign times a unit. Assumes nothing.
use mathlib.Core.Path.{sym, ap, ◌∙◌}
use Prim.Native.Nat.{ℕ}
use lib.IntN.{ℤ, ◌*ℤ◌}
use Rattle.complex.specs.Fits.{Within}
use Rattle.complex.proofs.Ring.{by_components, real-⊗}
use Rattle.complex.proofs.Stored.{Is, held, given, stored, fits, times}
use Rattle.codes.specs.PackedSigns.{sign_bit, secondary_row}
use Rattle.codes.proofs.Rows.{sign_within}
use Rattle.modulation.specs.SixteenChips.{modulated_part}
use Rattle.modulation.proofs.burst.modulated_part.Goals as goal
use Rattle.modulation.proofs.burst.modulated_part.Goals.{After-sign_at-sign, Start}

module _ (c : After-sign_at-sign) where
  abbrev start : Start
  start = c.before.before

  sign : Is 1 (held c.sign_at-sign.result) (sign_bit (secondary_row start.args.c.code) start.args.m)
  sign =
      let e = c.sign_at-sign.ensures ∙ ap (λ (r : ℕ). sign_bit r start.args.m) c.secondary_row.ensures in
      stored (record { equal = e; size = sign_within _ _ }) tt

  product : {x : ℤ} → Within 1 x → Is 1 (held c.sign_at-sign.result *ℤ held x) (sign_bit (secondary_row start.args.c.code) start.args.m *ℤ x)
  product h = times sign (stored (given h) tt)

pub overflow_mul-result : goal.overflow_mul-result
overflow_mul-result c = fits (product (goal.at.overflow_mul-result c).After-sign_at-sign (start (goal.at.overflow_mul-result c).After-sign_at-sign).requires.re) tt

pub overflow_mul-result-2 : goal.overflow_mul-result-2
overflow_mul-result-2 c = fits (product (goal.at.overflow_mul-result-2 c).After-sign_at-sign (start (goal.at.overflow_mul-result-2 c).After-sign_at-sign).requires.im) tt

pub returns : goal.returns
unfolding modulated_part
returns c =
    by_components (stored (product (goal.at.returns c).After-sign_at-sign (start (goal.at.returns c).After-sign_at-sign).requires.re) tt).equal (stored (product (goal.at.returns c).After-sign_at-sign (start (goal.at.returns c).After-sign_at-sign).requires.im) tt).equal ∙ sym (real-⊗ _ (start (goal.at.returns c).After-sign_at-sign).args.c.unit)
