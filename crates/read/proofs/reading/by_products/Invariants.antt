use mathlib.Core.Path.{◌≡◌}
use Prim.Native.Nat.{◌*◌, ◌≤◌}
use lib.ListN.{length}
use Rattle.complex.specs.Buffers.{listed, value, written}
use Rattle.read.specs.Multipliers.{multiplied_sum}
use Rattle.read.proofs.reading.by_products.Given as goal

abbrev pub invariant-loop-n : goal.invariant-loop-n
invariant-loop-n l =
    (l.n ≤ l.n-end) × (length l.outre ≡ length l.initial.outre) × (length l.outim ≡ length l.initial.outim)
    × (l.outre ≡ written (listed l.n (λ m. (multiplied_sum (value l.field.re.now l.field.im.now) (value l.w.re l.w.im) (m * l.step) l.step).re)) l.initial.outre)
    × (l.outim ≡ written (listed l.n (λ m. (multiplied_sum (value l.field.re.now l.field.im.now) (value l.w.re l.w.im) (m * l.step) l.step).im)) l.initial.outim)
