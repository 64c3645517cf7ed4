use mathlib.Core.Path.{◌≡◌}
use Prim.Native.Nat.{◌≤◌}
use lib.ListN.{length}
use Rattle.complex.specs.Buffers.{listed, written, ◌at◌}
use Rattle.find.proofs.Golay.{whole_of}
use Rattle.find.proofs.finding.whole.Given as goal

abbrev pub invariant-loop-i : goal.invariant-loop-i
invariant-loop-i l = (l.i ≤ l.count) × (l.y ≡ written (listed l.i (whole_of (◌at◌ l.initial.y) (◌at◌ l.t))) l.initial.y) × (length l.y ≡ length l.initial.y)
