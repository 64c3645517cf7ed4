-- `all` meets its contract. Assumes nothing.
use mathlib.Core.Path.{◌≡◌, sym, ap, ◌∙◌, subst}
use Prim.Native.Nat.{ℕ, ◌*◌, ◌/◌, ◌%◌, ◌<◌}
use native.Mathlib.Omega.{arith}
use mathlib.Core.List.{List}
use lib.IntN.{ℤ}
use lib.ListN.{length}
use Rattle.complex.specs.declared.Complex.{Complex}
use Rattle.complex.specs.Buffers.{value, written, ◌at◌}
use Rattle.complex.specs.Fits.{Both}
use Rattle.complex.proofs.Bounds.{value_both}
use Rattle.complex.proofs.Lists.{listed_cong}
use Rattle.read.specs.declared.field.FieldChips.{FieldChips}
use Rattle.read.specs.Multipliers.{from_lanes}
use Rattle.read.specs.Reading.{reading}
use Rattle.read.proofs.Lanes.{lane_both, readings_are}
use Rattle.read.proofs.sixteen.all.Goals as goal
use Rattle.read.proofs.sixteen.all.Goals.{After-new-lanes}

module _ (c : After-new-lanes) where
  abbrev f : FieldChips
  f = c.before.args.field.now

  -- the lanes' sizes
  lanes_both : (i : ℕ) → i < 4 * (length f.re.now / 16) → Both 400000 (value c.new-lanes.result.re c.new-lanes.result.im i)
  lanes_both i l =
      let s = c.before.new-signs.result in
      subst (Both 400000) (sym (c.new-lanes.ensures.each i l))
      (lane_both (◌at◌ s.signs) (value f.re.now f.im.now) s.known.each (value_both f.re_bound f.im_bound) (16 * (i / 4)) (i % 4) (omega arith))

  readings : (m : ℕ) → m < length f.re.now / 16
      → let r = c.before.args.reader in from_lanes (value c.new-lanes.result.re c.new-lanes.result.im) m ≡ reading r.cell.0 16 r.code.k (value f.re.now f.im.now) m
  readings = readings_are _ _ c.before.new-signs.ensures (value f.re.now f.im.now) _ (length f.re.now / 16) c.new-lanes.ensures.each

pub put_readings-requires : goal.put_readings-requires
put_readings-requires c =
    let n : c.len.result / 16 ≡ length c.args.field.now.re.now / 16 = omega arith in
    (omega arith, omega arith, omega arith, λ i l. lanes_both (goal.at.put_readings-requires c).After-new-lanes i (omega arith))

pub returns : goal.returns
returns c =
    let g = readings (goal.at.returns c).After-new-lanes in
    record {
      real = (rw c.len.ensures at c.put_readings.ensures.real) ∙ ap (λ (t : List ℤ). written t c.args.outre.now) (listed_cong _ _ _ (λ m j. ap (λ (x : Complex). x.re) (g m j)));
      imaginary = (rw c.len.ensures at c.put_readings.ensures.imaginary) ∙ ap (λ (t : List ℤ). written t c.args.outim.now) (listed_cong _ _ _ (λ m j. ap (λ (x : Complex). x.im) (g m j)));
    }
