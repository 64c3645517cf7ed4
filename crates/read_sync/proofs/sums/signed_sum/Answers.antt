-- `signed_sum` meets its contract. The loop's invariant: `s` is the sum of the terms passed. Assumes nothing.
use mathlib.Core.Path.{◌≡◌, refl, sym, ◌∙◌, subst}
use Prim.Native.Nat.{◌+◌, ◌*◌}
use native.Mathlib.Omega.{arith}
use borrow.Author.Rules.{rules}
use lib.IntN.{pos, ◌+ℤ◌, ◌*ℤ◌}
use lib.ListN.{get_or}
use mir.Syntax.{w32}
use mir.Val.{SFits, to_z, of_z}
use mir.Facts.{to_z-of_z}
use Rattle.complex.specs.Arithmetic.{Σℤ<}
use Rattle.complex.specs.Fits.{Within}
use Rattle.complex.proofs.Sizes.{fits_within, within_add, within_more, within_mul}
use Rattle.complex.proofs.Components.{within_Σℤ}
use Rattle.complex.proofs.Sums.{Σℤ_more}
use Rattle.codes.specs.PackedSigns.{sign_bit}
use Rattle.codes.proofs.Rows.{sign_within}
use Rattle.read_sync.proofs.Halves.{term_held}
use Rattle.read_sync.proofs.sums.signed_sum.Goals as goal
use Rattle.read_sync.proofs.sums.signed_sum.Goals.{After-sign_at-sign}
use Rattle.read_sync.proofs.sums.signed_sum.Given.{Over}

module _ (g : Over) (c : After-sign_at-sign g) where
  -- the term: it fits, and which it is
  term : SFits w32 (to_z w32 (of_z w32 c.sign_at-sign.result) *ℤ to_z w32 (of_z w32 (get_or c.args.x.now (c.args.from + c.loop-i.i) (pos 0))))
      × (to_z w32 (of_z w32 (to_z w32 (of_z w32 c.sign_at-sign.result) *ℤ to_z w32 (of_z w32 (get_or c.args.x.now (c.args.from + c.loop-i.i) (pos 0)))))
      ≡ sign_bit c.args.row (c.args.at + c.loop-i.i) *ℤ get_or c.args.x.now (c.args.from + c.loop-i.i) (pos 0))
  term = term_held (search rules) c.sign_at-sign.ensures (sign_within _ _) (c.requires.2.at _)

  -- the sum of those passed and of this one
  small : Within 24000000 (to_z w32 c.loop-i.s-bits)
  small = within_more (subst (Within (c.loop-i.i * 1600000)) (sym c.loop-i.invariant.1) (within_Σℤ 1600000 c.loop-i.i _ (λ k l. within_mul (sign_within _ _) (c.requires.2.at _)))) 24000000 (omega arith)

  sum : SFits w32 (to_z w32 c.loop-i.s-bits +ℤ to_z w32 (of_z w32 (to_z w32 (of_z w32 c.sign_at-sign.result) *ℤ to_z w32 (of_z w32 (get_or c.args.x.now (c.args.from + c.loop-i.i) (pos 0))))))
  sum = rw term.1 (fits_within (within_add small (within_mul (sign_within _ _) (c.requires.2.at _))) tt)

pub loop-i-init : goal.loop-i-init
unfolding Σℤ<
loop-i-init g c = (omega arith, refl)

pub overflow_mul-s : goal.overflow_mul-s
overflow_mul-s g c = (term g (goal.at.overflow_mul-s g c).After-sign_at-sign).0

pub overflow_add-s-in-loop-i : goal.overflow_add-s-in-loop-i
overflow_add-s-in-loop-i g c = sum g (goal.at.overflow_add-s-in-loop-i g c).After-sign_at-sign

pub loop-i-preserved : goal.loop-i-preserved
loop-i-preserved g c =
    let place = (goal.at.loop-i-preserved g c).After-sign_at-sign in
    let l = c.loop-i in
    (omega arith, to_z-of_z (sum g place) ∙ (λ j. l.invariant.1 j +ℤ (term g place).1 j) ∙ sym (Σℤ_more l.i _))

pub returns : goal.returns
returns g c =
    let e : c.loop-i.i ≡ g.row.N = omega arith in
    rw e at c.loop-i.invariant.1
