-- `sign` meets its contract. Assumes nothing.
use mathlib.Core.Path.{ap, ◌∙◌}
use borrow.Author.Rules.{rules}
use lib.IntN.{◌*ℤ◌}
use mir.Syntax.{w32}
use mir.Facts.{to_z-of_z}
use Rattle.complex.proofs.Stored.{Is, held, stored, fits, times}
use Rattle.codes.specs.PackedSigns.{sign_bit, signed_by_j}
use Rattle.codes.specs.Tree.{element}
use Rattle.codes.proofs.Leaves.{element_within}
use Rattle.codes.proofs.Rows.{sign_within}
use Rattle.read.proofs.sixteen.sign.Goals as goal
use Rattle.read.proofs.sixteen.sign.Goals.{After-code_sign}

-- the product, as it is made
product : (c : After-code_sign) → let s = c.before.args in Is 1 (held c.before.sign_at.result *ℤ held c.code_sign.result) (sign_bit s.row s.i *ℤ element 16 s.k s.i)
product c =
    times (stored (record { equal = c.before.sign_at.ensures; size = sign_within _ _ }) tt) (stored (record { equal = c.code_sign.ensures; size = element_within _ _ _ }) tt)

pub overflow_mul-sign_at : goal.overflow_mul-sign_at
overflow_mul-sign_at c = fits (product c) tt

pub signed_by_j-requires : goal.signed_by_j-requires
signed_by_j-requires c = rw (stored (product c) tt).equal (product c).size

pub returns : goal.returns
returns c =
    let p = product (goal.at.returns c).After-code_sign in
    to_z-of_z {w = w32} (search rules) ∙ c.signed_by_j.ensures ∙ ap (λ t. signed_by_j t c.args.i) (stored p tt).equal
