-- `times_conjugate` meets its contract: at 64 bits all products and sums fit. Assumes nothing.
use mathlib.Core.Path.{◌≡◌, sym, ◌∙◌}
use borrow.Author.Rules.{rules}
use lib.IntN.{ℤ, pos, neg_ℤ, ◌+ℤ◌, ◌-ℤ◌, ◌*ℤ◌}
use mir.Syntax.{w32, w64}
use mir.Val.{SFits, to_z, of_z}
use mir.Facts.{to_z-of_z}
use Rattle.complex.proofs.Machine.{neg_gives}
use Rattle.complex.proofs.Ring.{by_components}
use Rattle.complex.proofs.Sizes.{fits_within, within_neg}
use Rattle.analyser_parts.proofs.Products.{products_fit, held, times_conj}
use Rattle.read_sync.proofs.sync_reading.times_conjugate.Goals as goal
use Rattle.read_sync.proofs.sync_reading.times_conjugate.Goals.{After-from-d}

-- a component at 64 bits, as its local holds it
widened : {x y : ℤ} → SFits w32 x → SFits w64 y → y ≡ to_z w32 (of_z w32 x) → to_z w64 (of_z w64 y) ≡ x
widened f g e = to_z-of_z g ∙ e ∙ to_z-of_z f

module _ (c : After-from-d) where
  a_is : to_z w64 (of_z w64 c.from-a.result) ≡ c.args.s.re
  a_is = widened (search rules) (search rules) c.from-a.ensures

  b_is : to_z w64 (of_z w64 c.from-b.result) ≡ c.args.s.im
  b_is = widened (search rules) (search rules) c.from-b.ensures

  c_is : to_z w64 (of_z w64 c.from-c.result) ≡ c.args.p.re
  c_is = widened (search rules) (search rules) c.from-c.ensures

  d_is : to_z w64 (of_z w64 c.from-d.result) ≡ c.args.p.im
  d_is = widened (search rules) (search rules) c.from-d.ensures

  -d_is : to_z w64 (of_z w64 (pos 0 -ℤ to_z w64 (of_z w64 c.from-d.result))) ≡ neg_ℤ c.args.p.im
  -d_is =
      let f : SFits w64 c.from-d.result = search rules in
      let is : c.from-d.result ≡ c.args.p.im = sym (to_z-of_z f) ∙ d_is in
      neg_gives f (fits_within (within_neg (held is c.requires.1.im)) tt) ∙ (λ i. neg_ℤ (is i))

pub sum_of_products-requires : goal.sum_of_products-requires
sum_of_products-requires c =
    let p = c.requires in
    products_fit (held (a_is c) p.0.re) (held (c_is c) p.1.re) (held (b_is c) p.0.im) (held (d_is c) p.1.im) tt tt tt

pub sum_of_products-requires-2 : goal.sum_of_products-requires-2
sum_of_products-requires-2 c =
    let place = (goal.at.sum_of_products-requires-2 c).After-from-d in
    let p = c.requires in
    products_fit (held (b_is place) p.0.im) (held (c_is place) p.1.re) (held (a_is place) p.0.re) (held (-d_is place) (within_neg p.1.im)) tt tt tt

pub returns : goal.returns
returns c =
    let place = (goal.at.returns c).After-from-d in
    let f : SFits w64 c.sum_of_products.result = search rules in
    let g : SFits w64 c.sum_of_products-2.result = search rules in
    by_components
    (to_z-of_z f ∙ c.sum_of_products.ensures ∙ (λ i. a_is place i *ℤ c_is place i +ℤ b_is place i *ℤ d_is place i))
    (to_z-of_z g ∙ c.sum_of_products-2.ensures ∙ (λ i. b_is place i *ℤ c_is place i +ℤ a_is place i *ℤ -d_is place i))
    ∙ sym (times_conj c.args.s c.args.p)
