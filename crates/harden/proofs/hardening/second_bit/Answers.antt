-- `second_bit` meets its contract. Assumes nothing.
use mathlib.Core.Path.{◌≡◌, ap, ap₂, ◌∙◌}
use borrow.Author.Rules.{rules}
use lib.IntN.{ℤ}
use lib.Signed.{lt_z}
use mir.Syntax.{w32}
use mir.Val.{SFits, bool_byte}
use mir.Facts.{to_z-of_z}
use Rattle.complex.proofs.Stored.{held}
use Rattle.harden.proofs.Pairs.{second_byte}
use Rattle.harden.proofs.hardening.second_bit.Goals as goal

-- the components, as they are held
tested : (re im : ℤ) → SFits w32 re → SFits w32 im → lt_z (held im) (held re) ≡ lt_z im re
tested re im g f = ap₂ lt_z (to_z-of_z f) (to_z-of_z g)

pub returns : goal.returns
returns c =
    let y = c.args.y in
    c.from.ensures ∙ ap bool_byte (tested y.re y.im (search rules) (search rules)) ∙ second_byte y.re y.im
