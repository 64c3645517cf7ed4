use mathlib.Core.Path.{◌≡◌}
use Prim.Native.Nat.{◌*◌, ◌%◌, ◌≤◌}
use lib.ListN.{length}
use Rattle.complex.specs.Arithmetic.{◌⊗◌}
use Rattle.complex.specs.Buffers.{listed, value, written}
use Rattle.read.proofs.one.all.Given as goal

abbrev pub invariant-loop-m : goal.invariant-loop-m
invariant-loop-m l =
    (l.m ≤ l.m-end) × (length l.outre ≡ length l.initial.outre) × (length l.outim ≡ length l.initial.outim)
    × (l.outre ≡ written (listed (16 * l.m) (λ n. (value l.field.re.now l.field.im.now n ⊗ value l.w.re l.w.im (n % 16)).re)) l.initial.outre)
    × (l.outim ≡ written (listed (16 * l.m) (λ n. (value l.field.re.now l.field.im.now n ⊗ value l.w.re l.w.im (n % 16)).im)) l.initial.outim)
