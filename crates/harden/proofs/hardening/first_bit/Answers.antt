-- `first_bit` meets its contract. Assumes nothing.
use mathlib.Core.Path.{◌≡◌, ap, ap₂, ◌∙◌}
use borrow.Author.Rules.{rules}
use lib.IntN.{ℤ, negsuc, ◌-ℤ◌}
use lib.Signed.{le_z}
use mir.Syntax.{w32}
use mir.Val.{SFits, bool_byte}
use mir.Facts.{to_z-of_z}
use Rattle.complex.proofs.Stored.{held}
use Rattle.harden.proofs.Pairs.{complement_fits, first_byte}
use Rattle.harden.proofs.hardening.first_bit.Goals as goal

-- the complement of im, as it is held
complement : (im : ℤ) → SFits w32 im → SFits w32 (negsuc 0 -ℤ held im)
complement im f = rw (to_z-of_z f) (complement_fits f)

-- the two sides of the comparison, as they are held
tested : (re im : ℤ) → SFits w32 re → SFits w32 im → le_z (held re) (held (negsuc 0 -ℤ held im)) ≡ le_z re (negsuc 0 -ℤ im)
tested re im g f =
    ap₂ le_z (to_z-of_z g) (to_z-of_z (complement im f) ∙ ap (λ (z : ℤ). negsuc 0 -ℤ z) (to_z-of_z f))

pub overflow_sub-y : goal.overflow_sub-y
overflow_sub-y c = complement c.args.y.im (search rules)

pub returns : goal.returns
returns c =
    let y = c.args.y in
    c.from.ensures ∙ ap bool_byte (tested y.re y.im (search rules) (search rules)) ∙ first_byte y.re y.im
