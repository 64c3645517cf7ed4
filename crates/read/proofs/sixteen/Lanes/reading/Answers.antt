-- `Lanes::reading` meets its contract. Assumes nothing.
use mathlib.Core.Path.{◌≡◌, refl, ap, ap₂, ◌∙◌}
use native.Mathlib.Omega.{arith}
use lib.IntN.{neg_ℤ}
use Rattle.complex.specs.declared.Complex.{Complex}
use Rattle.complex.specs.Arithmetic.{◌+j◌, ◌⊕◌, ◌⊗◌, j^}
use Rattle.complex.specs.Fits.{Both}
use Rattle.complex.proofs.Components.{both-⊕, both_fits, both_j^}
use Rattle.complex.proofs.Sizes.{within_neg}
use Rattle.read.specs.Multipliers.{from_lanes}
use Rattle.read.proofs.sixteen.Lanes.reading.Goals as goal

-- the size of two lanes' sum
two : {x y p q z : Complex} → z ≡ x ⊕ y → x ≡ p → y ≡ q → Both 400000 p → Both 400000 q → Both 800000 z
two d e f g h = rw (d, e, f) (both-⊕ g h)

minus : {x : Complex} → Both 800000 x → Both 800000 (neg_ℤ x.re +j neg_ℤ x.im)
minus h = record { re = within_neg h.re; im = within_neg h.im }

pub plus-even-requires : goal.plus-even-requires
plus-even-requires c = both_fits (two refl c.at.ensures c.at-2.ensures (c.requires.1 _ (omega arith)) (c.requires.1 _ (omega arith))) tt

pub plus-odd-requires : goal.plus-odd-requires
plus-odd-requires c = both_fits (two refl c.at-3.ensures c.at-4.ensures (c.requires.1 _ (omega arith)) (c.requires.1 _ (omega arith))) tt

pub rotated-requires : goal.rotated-requires
rotated-requires c =
    both_fits (minus (two c.plus-even.ensures c.at.ensures c.at-2.ensures (c.requires.1 _ (omega arith)) (c.requires.1 _ (omega arith)))) tt

pub plus-requires : goal.plus-requires
plus-requires c =
    let h = two c.plus-even.ensures c.at.ensures c.at-2.ensures (c.requires.1 _ (omega arith)) (c.requires.1 _ (omega arith)) in
    let g : Both 800000 c.rotated.result = rw c.rotated.ensures (both_j^ h 1) in
    both_fits (both-⊕ (two c.plus-odd.ensures c.at-3.ensures c.at-4.ensures (c.requires.1 _ (omega arith)) (c.requires.1 _ (omega arith))) g) tt

pub returns : goal.returns
unfolding from_lanes
returns c =
    c.plus.ensures
    ∙ ap₂ ◌⊕◌ (c.plus-odd.ensures ∙ ap₂ ◌⊕◌ c.at-3.ensures c.at-4.ensures)
    (c.rotated.ensures ∙ ap (λ (x : Complex). j^ 1 ⊗ x) (c.plus-even.ensures ∙ ap₂ ◌⊕◌ c.at.ensures c.at-2.ensures))
