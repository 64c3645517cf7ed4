-- `by_products` meets its contract. The loop's invariant: the sums passed are written. Assumes nothing.
use mathlib.Core.Path.{◌≡◌, refl, sym, ap, ◌∙◌}
use mathlib.Core.Bool.{true}
use Prim.Native.Nat.{ℕ, ◌+◌, ◌*◌, ◌/◌, ◌≤◌, ◌<◌}
use native.Mathlib.Nat.{div-add-mod', mul-le-mul_right}
use native.Mathlib.Omega.{arith}
use borrow.Author.Rules.{rules}
use lib.ListN.{length, set, length-set}
use mir.Syntax.{w32}
use mir.Val.{SFits}
use mir.Facts.{to_z-of_z}
use Rattle.complex.specs.declared.Complex.{Complex}
use Rattle.complex.specs.declared.Block.{Block}
use Rattle.complex.specs.Buffers.{block_of, listed, value, written}
use Rattle.complex.proofs.Lists.{one_more_written}
use Rattle.complex.proofs.Blocks.{block_bound}
use Rattle.codes.specs.Tree.{is_spreading_factor}
use Rattle.codes.proofs.Factors.{factor_range}
use Rattle.read.specs.Multipliers.{multiplied_sum, multiplier}
use Rattle.read.specs.Reading.{reading}
use Rattle.read.proofs.Readings.{multiplier_both, reading_is}
use Rattle.read.proofs.reading.by_products.Goals as goal

-- a reading lies in the field
inside : (n q l : ℕ) → n + 1 ≤ l / q → n * q + q ≤ l
inside n q l h = omega (arith, mul-le-mul_right q h, div-add-mod' l q)

-- the sums with the multipliers are the readings
readings : (p q k : ℕ) (chip : ℕ → Complex) (w : Block) → is_spreading_factor q ≡ true → w ≡ block_of (multiplier p q k)
    → ◌≡◌ {A = ℕ → Complex} (λ m. multiplied_sum chip (value w.re w.im) (m * q) q) (reading p q k chip)
readings p q k chip w s e =
    λ j m. (ap (λ (b : Block). multiplied_sum chip (value b.re b.im) (m * q) q) e ∙ reading_is p q k s chip m) j

pub loop-n-init : goal.loop-n-init
unfolding listed
loop-n-init c = (omega arith, refl, refl, refl, refl)

pub reading-y-requires : goal.reading-y-requires
reading-y-requires c =
    let r = c.args.reader in
    let h = inside c.loop-n.n r.code.q (length c.args.field.now.re.now) (rw (sym c.len.ensures) (omega arith)) in
    record { q_in_bounds = (h, (factor_range r.code.q r.code.factor).1); bound = block_bound _ c.multipliers-w.ensures (λ i. multiplier_both _ _ _ i) }

pub loop-n-preserved : goal.loop-n-preserved
loop-n-preserved c =
    let l = c.loop-n in
    let r = c.reading-y in
    let s = c.args in
    let n = ap (λ (n : ℕ). n / s.reader.code.q) c.len.ensures in
    let re : l.n < length s.outre.now = omega (arith, n) in
    let im : l.n < length s.outim.now = omega (arith, n) in
    let f : SFits w32 r.result.re = search rules in
    let g : SFits w32 r.result.im = search rules in (
      omega arith,
      simp length-set l.invariant.1,
      simp length-set l.invariant.2,
      (λ j. set (l.invariant.3 j) l.n ((to_z-of_z f ∙ ap (λ (x : Complex). x.re) r.ensures) j)) ∙ one_more_written _ _ l.n (omega arith),
      (λ j. set (l.invariant.4 j) l.n ((to_z-of_z g ∙ ap (λ (x : Complex). x.im) r.ensures) j)) ∙ one_more_written _ _ l.n (omega arith),
    )

pub returns : goal.returns
returns c =
    let l = c.loop-n in
    let s = c.args in
    let t = s.reader in
    let e' : l.n ≡ c.len.result / t.code.q = omega arith in
    let e = e' ∙ ap (λ (n : ℕ). n / t.code.q) c.len.ensures in
    let r = readings t.cell.0 t.code.q t.code.k (value s.field.now.re.now s.field.now.im.now) _ t.code.factor c.multipliers-w.ensures in
    record {
      real = l.invariant.3 ∙ (λ j. written (listed (e j) (λ m. (r j m).re)) s.outre.now);
      imaginary = l.invariant.4 ∙ (λ j. written (listed (e j) (λ m. (r j m).im)) s.outim.now);
    }
