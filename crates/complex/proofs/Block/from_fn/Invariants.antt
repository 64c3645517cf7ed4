use mathlib.Core.Path.{◌≡◌}
use Prim.Native.Nat.{ℕ, ◌<◌}
use Rattle.complex.specs.declared.Complex.{Complex}
use Rattle.complex.proofs.Blocks.{Filled}
use Rattle.complex.proofs.Block.from_fn.Given as goal

abbrev pub invariant-loop-i : goal.invariant-loop-i
invariant-loop-i g l =
    (of : ℕ → Complex) → ((i : ℕ) (z : Complex) → i < 16 → goal.F-post g l.f i z → z ≡ of i) → Filled of l.re l.im l.i
