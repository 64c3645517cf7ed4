-- `times_one_minus_j` meets its contract: 1 - j is the conjugate of 1 + j. Assumes nothing.
use mathlib.Core.Path.{◌≡◌, sym, ◌∙◌}
use lib.IntN.{ℤ, ◌+ℤ◌, ◌-ℤ◌}
use mir.Syntax.{w32}
use mir.Val.{SFits}
use mir.Facts.{to_z-of_z}
use Rattle.complex.specs.Arithmetic.{◌+j◌}
use Rattle.complex.proofs.Stored.{held}
use Rattle.complex.proofs.Sizes.{within_add, within_sub, fits_within}
use Rattle.complex.proofs.Ring.{by_components}
use Rattle.analyser_parts.proofs.Correlations.{times_one_minus_j}
use Rattle.analyser_parts.proofs.correlation.times_one_minus_j.Goals as goal

-- the components, as they are held
parts : (x y : ℤ) → SFits w32 x → SFits w32 y → SFits w32 (x +ℤ y) → SFits w32 (y -ℤ x) → held (held x +ℤ held y) +j held (held y -ℤ held x) ≡ (x +ℤ y) +j (y -ℤ x)
parts x y f g h k = by_components (rw (to_z-of_z f, to_z-of_z g) (to_z-of_z h)) (rw (to_z-of_z f, to_z-of_z g) (to_z-of_z k))

pub returns : goal.returns
returns c =
    let z = c.requires in
    parts c.args.z.re c.args.z.im (fits_within z.re tt) (fits_within z.im tt) (fits_within (within_add z.re z.im) tt) (fits_within (within_sub z.im z.re) tt)
    ∙ sym (times_one_minus_j c.args.z)
