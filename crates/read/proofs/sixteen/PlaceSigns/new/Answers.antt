-- `PlaceSigns::new` meets its contract. Assumes nothing.
use mathlib.Core.Path.{◌≡◌, sym, ap, ◌∙◌}
use Prim.Native.Nat.{ℕ, ◌<◌}
use native.Mathlib.Omega.{arith}
use borrow.Author.Rules.{rules}
use lib.IntN.{ℤ, ◌*ℤ◌}
use Rattle.complex.specs.Buffers.{listed}
use Rattle.complex.proofs.Calls.{from_fn_listed}
use Rattle.complex.proofs.Lists.{listed_cong}
use Rattle.codes.specs.PackedSigns.{sign_bit, signed_by_j}
use Rattle.codes.specs.Tree.{element}
use Rattle.codes.proofs.Rows.{annex_read_back, v_at}
use Rattle.read.specs.Multipliers.{place_sign}
use Rattle.read.proofs.Lanes.{signs_are}
use Rattle.read.proofs.sixteen.PlaceSigns.new.Goals as goal
use Rattle.read.proofs.sixteen.PlaceSigns.new.Goals.{After-from_fn-signs}

abbrev sign_of : ℕ → ℕ → ℕ → ℤ
sign_of row k i = signed_by_j (sign_bit row i *ℤ element 16 k i) i

-- the signs of a row of Annex A are those of the places
place_signs : (c : After-from_fn-signs) → let r = c.args.reader in c.from_fn-signs.result ≡ listed 16 (place_sign r.cell.0 r.code.k)
unfolding place_sign
place_signs c =
    let r = c.args.reader in
    let made : c.from_fn-signs.result ≡ listed 16 (sign_of c.annex_row-row.result r.code.k) = from_fn_listed c.from_fn-signs.ensures.items (λ i y f h k. search rules) in
    made
    ∙ listed_cong 16 _ _ (λ i l. ap (λ (z : ℤ). signed_by_j (z *ℤ element 16 r.code.k i) i) (ap (λ (w : ℕ). sign_bit w i) c.annex_row-row.ensures ∙ annex_read_back r.cell.0 r.known i ∙ sym (v_at r.cell.0 i)))

pub invariant_of-result : goal.invariant_of-result
invariant_of-result c =
    let r = c.args.reader in
    let below : r.code.k < 16 = omega (arith, r.code.below) in
    record { known = signs_are _ _ (place_signs c) r.known below }

pub returns : goal.returns
returns c = place_signs (goal.at.returns c).After-from_fn-signs
