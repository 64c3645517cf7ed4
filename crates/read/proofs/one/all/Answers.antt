-- `all` meets its contract. The loop's invariant: the products passed are written. Assumes nothing.
use mathlib.Core.Path.{◌≡◌, refl, sym, ap, ◌∙◌}
use mathlib.Core.List.{List}
use Prim.Native.Nat.{ℕ, ◌+◌, ◌*◌, ◌%◌, ◌<◌}
use native.Mathlib.Omega.{arith}
use lib.IntN.{ℤ}
use lib.ListN.{length}
use Rattle.complex.specs.declared.Complex.{Complex}
use Rattle.complex.specs.declared.Block.{Block}
use Rattle.complex.specs.Arithmetic.{◌⊗◌}
use Rattle.complex.specs.Buffers.{block_of, listed, value, written}
use Rattle.complex.proofs.Lists.{listed_cong}
use Rattle.read.specs.Multipliers.{multiplier}
use Rattle.read.proofs.PowersOfJ.{powers_of_j, reading_one}
use Rattle.read.proofs.one.all.Goals as goal

-- sixteen products, by their places in the field, and where the next sixteen begin
placed : (f : ℕ → ℕ → ℤ) (m : ℕ) (x : List ℤ) → x ≡ listed 16 (λ i. f (16 * m + i) i) → x ≡ listed 16 (λ i. f (16 * m + i) ((16 * m + i) % 16))
placed f m x e =
    e ∙ listed_cong 16 _ _ (λ i l. let r : i ≡ (16 * m + i) % 16 = omega arith in ap (f (16 * m + i)) r)

next : (f : ℕ → ℤ) (d u : List ℤ) (m : ℕ) → u ≡ written (listed (16 * m + 16) f) d → u ≡ written (listed (16 * (m + 1)) f) d
next f d u m h = let e : 16 * m + 16 ≡ 16 * (m + 1) = omega arith in h ∙ ap (λ (k : ℕ). written (listed k f) d) e

pub loop-m-init : goal.loop-m-init
unfolding listed
loop-m-init c = (omega arith, refl, refl, refl, refl)

-- the multipliers are those of code (1, k)
of_one : (p k : ℕ) {q : ℕ} {w : Block} → q ≡ 1 → w ≡ block_of (multiplier p q k) → w ≡ block_of (multiplier p 1 k)
of_one p k e h = h ∙ ap (λ (n : ℕ). block_of (multiplier p n k)) e

below_one : {q k : ℕ} → q ≡ 1 → k < q → k < 1
below_one e h = omega arith

pub sixteen_products-b-requires : goal.sixteen_products-b-requires
sixteen_products-b-requires c =
    let r = c.args.reader in
    let w = of_one r.cell.0 r.code.k c.requires.0 c.multipliers-w.ensures in
    (omega arith, powers_of_j r.cell.0 r.code.k r.known (below_one c.requires.0 r.code.below) (λ j. (w j).re) (λ j. (w j).im))

pub loop-m-preserved : goal.loop-m-preserved
loop-m-preserved c =
    let l = c.loop-m in
    let w = c.multipliers-w.result in
    let s = c.args in
    let chip = value s.field.now.re.now s.field.now.im.now in
    let f : ℕ → ℕ → Complex = λ n i. chip n ⊗ value w.re w.im i in (
      omega arith,
      omega (arith, l.invariant.1),
      omega (arith, l.invariant.2),
      next _ s.outre.now _ l.m (c.put.ensures (λ n. (f n (n % 16)).re) s.outre.now (sym l.invariant.1) (placed (λ n i. (f n i).re) l.m _ (λ j. (c.sixteen_products-b.ensures j).re)) l.invariant.3),
      next _ s.outim.now _ l.m (c.put-in-loop-m.ensures (λ n. (f n (n % 16)).im) s.outim.now (sym l.invariant.2) (placed (λ n i. (f n i).im) l.m _ (λ j. (c.sixteen_products-b.ensures j).im)) l.invariant.4),
    )

pub returns : goal.returns
returns c =
    let l = c.loop-m in
    let s = c.args in
    let t = s.reader in
    let f = s.field.now in
    let w = of_one t.cell.0 t.code.k c.requires.0 c.multipliers-w.ensures in
    let e : 16 * l.m ≡ length f.re.now = omega (arith, f.sixteens) in
    let r = reading_one t.cell.0 t.code.k t.known (below_one c.requires.0 t.code.below) (λ j. (w j).re) (λ j. (w j).im) (value f.re.now f.im.now) in
    record {
      real = l.invariant.3 ∙ (λ j. written (listed (e j) (λ n. (r n j).re)) s.outre.now);
      imaginary = l.invariant.4 ∙ (λ j. written (listed (e j) (λ n. (r n j).im)) s.outim.now);
    }
