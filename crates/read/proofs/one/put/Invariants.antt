use mathlib.Core.Path.{◌≡◌}
use mathlib.Core.List.{List}
use Prim.Native.Nat.{ℕ, ◌+◌, ◌≤◌}
use lib.IntN.{ℤ}
use lib.ListN.{length}
use Rattle.complex.specs.Buffers.{listed, written}
use Rattle.read.proofs.one.put.Given as goal

abbrev pub invariant-loop-i : goal.invariant-loop-i
invariant-loop-i l =
    (l.i ≤ 16) × (length l.out ≡ length l.initial.out)
    × ((f : ℕ → ℤ) (d : List ℤ) → length d ≡ length l.initial.out → l.x ≡ listed 16 (λ j. f (l.at + j)) → l.initial.out ≡ written (listed l.at f) d → l.out ≡ written (listed (l.at + l.i) f) d)
