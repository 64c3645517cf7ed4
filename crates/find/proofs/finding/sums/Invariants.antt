use mathlib.Core.Path.{◌≡◌}
use Prim.Native.Nat.{◌≤◌}
use lib.ListN.{length}
use Rattle.complex.specs.Buffers.{listed, written, ◌at◌}
use Rattle.find.specs.PeakSearch.{four_of}
use Rattle.find.proofs.finding.sums.Given as goal

abbrev pub invariant-loop-i : goal.invariant-loop-i
invariant-loop-i l = (l.i ≤ l.count) × (l.y ≡ written (listed l.i (four_of (◌at◌ l.x) l.a l.b l.c)) l.initial.y) × (length l.y ≡ length l.initial.y)
