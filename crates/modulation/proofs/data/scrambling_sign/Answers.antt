-- `scrambling_sign` meets its contract. Assumes nothing.
use borrow.Author.Rules.{rules}
use mathlib.Core.Path.{◌≡◌, sym, subst, ap, ◌∙◌}
use Prim.Native.Nat.{◌+◌}
use lib.IntN.{ℤ}
use mir.Syntax.{w32}
use mir.Val.{to_z, of_z}
use mir.Facts.{to_z-of_z}
use Rattle.complex.specs.declared.Complex.{Complex}
use Rattle.complex.specs.Fits.{Within}
use Rattle.complex.proofs.Sizes.{fits_within}
use Rattle.complex.proofs.Ring.{by_components}
use Rattle.complex.proofs.Stored.{held}
use Rattle.codes.specs.PackedSigns.{signed_by_j}
use Rattle.codes.specs.Scrambling.{v}
use Rattle.codes.proofs.Rows.{v_within}
use Rattle.modulation.specs.SixteenChips.{scrambling_signs}
use Rattle.modulation.proofs.ScramblingSigns.{scrambling_signs_are}
use Rattle.modulation.proofs.data.scrambling_sign.Goals as goal
use Rattle.modulation.proofs.data.scrambling_sign.Goals.{After-sign-v}

-- the sign as the local holds it
sign_is : (c : After-sign-v) → to_z w32 (of_z w32 c.sign-v.result) ≡ v c.args.cell.0 (c.args.place + 1)
sign_is c = to_z-of_z {w = w32} (fits_within (subst (Within 1) (sym c.sign-v.ensures) (v_within _ _)) tt) ∙ c.sign-v.ensures

pub signed_by_j-requires : goal.signed_by_j-requires
signed_by_j-requires c = rw (sign_is c) (v_within _ _)

pub signed_by_j-requires-2 : goal.signed_by_j-requires-2
signed_by_j-requires-2 c = rw (sign_is (goal.at.signed_by_j-requires-2 c).After-sign-v) (v_within _ _)

pub returns : goal.returns
returns c =
    let place = c.args.place in
    let e = scrambling_signs_are c.args.cell.0 place in
    let signs = sign_is (goal.at.returns c).After-sign-v in
    let re : held c.signed_by_j.result ≡ (scrambling_signs c.args.cell.0 place).re = to_z-of_z {w = w32} (search rules) ∙ c.signed_by_j.ensures ∙ ap (λ (x : ℤ). signed_by_j x place) signs ∙ sym (ap (λ (z : Complex). z.re) e) in
    let im : held c.signed_by_j-2.result ≡ (scrambling_signs c.args.cell.0 place).im = to_z-of_z {w = w32} (search rules) ∙ c.signed_by_j-2.ensures ∙ ap (λ (x : ℤ). signed_by_j x (place + 3)) signs ∙ sym (ap (λ (z : Complex). z.im) e) in
    by_components re im
