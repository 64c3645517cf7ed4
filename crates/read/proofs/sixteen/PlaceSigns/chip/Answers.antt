-- `PlaceSigns::chip` meets its contract. Assumes nothing.
use mathlib.Core.Path.{◌≡◌, sym, ap, ap₂, ◌∙◌}
use mathlib.Core.Bool.{true}
use mathlib.Core.List.{List}
use Prim.Native.Nat.{ℕ}
use lib.IntN.{ℤ, pos, ◌*ℤ◌}
use lib.ListN.{get_or}
use mir.Syntax.{w32}
use mir.Val.{SFits}
use mir.Facts.{to_z-of_z}
use Rattle.complex.specs.Buffers.{◌at◌}
use Rattle.complex.specs.declared.Complex.{Complex}
use Rattle.complex.specs.Arithmetic.{◌+j◌}
use Rattle.complex.proofs.Bounds.{value_both}
use Rattle.complex.proofs.Components.{both_sign}
use Rattle.complex.proofs.Ring.{real-⊗}
use Rattle.complex.proofs.Sizes.{fits_within}
use Rattle.read.specs.Multipliers.{is_sign}
use Rattle.read.proofs.Signs.{sign_within}
use Rattle.read.proofs.sixteen.PlaceSigns.chip.Goals as goal

-- the sign at place i fits
fits : (l : List ℤ) (i : ℕ) → is_sign (get_or l i (pos 0)) ≡ true → SFits w32 (get_or l i (pos 0))
fits l i h = fits_within (sign_within _ h) tt

pub both_signed-requires : goal.both_signed-requires
unfolding ◌at◌
both_signed-requires c =
    let h = c.args.self.now.known.each c.args.i c.requires.1 in
    let held = ap is_sign (to_z-of_z (fits c.args.self.now.signs c.args.i h)) ∙ h in
    (held, held, c.chip.ensures.size)

pub returns : goal.returns
unfolding ◌at◌
returns c =
    let h = c.args.self.now.known.each c.args.i c.requires.1 in
    let f = c.args.field.now in
    let e =
    c.both_signed.ensures
    ∙ ap₂ (λ (t : ℤ) (x : Complex). (t *ℤ x.re) +j (t *ℤ x.im)) (to_z-of_z (fits c.args.self.now.signs c.args.i h)) c.chip.ensures.is
    ∙ sym (real-⊗ _ _) in
    record { is = e; size = rw e (both_sign (value_both f.re_bound f.im_bound _) (sign_within _ h)) }
