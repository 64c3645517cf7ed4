use mathlib.Core.Path.{◌≡◌}
use Prim.Native.Nat.{◌≤◌}
use lib.ListN.{length}
use Rattle.complex.specs.Buffers.{listed, written, ◌at◌}
use Rattle.find.specs.PeakSearch.{four_of}
use Rattle.find.proofs.finding.pairs.Given as goal

abbrev pub invariant-loop-i : goal.invariant-loop-i
invariant-loop-i l = (l.i ≤ l.count) × (l.y ≡ written (listed l.i (four_of (◌at◌ l.initial.y) 32 16 48)) l.initial.y) × (length l.y ≡ length l.initial.y) × (l.t ≡ written (listed l.i (four_of (◌at◌ l.initial.y) 32 48 16)) l.initial.t) × (length l.t ≡ length l.initial.t)
