use mathlib.Core.Path.{◌≡◌}
use Prim.Native.Nat.{◌≤◌}
use lib.ListN.{length}
use Rattle.complex.specs.Buffers.{listed, value, written}
use Rattle.read.specs.Multipliers.{from_lanes}
use Rattle.read.proofs.sixteen.Lanes.put_readings.Given as goal

abbrev pub invariant-loop-m : goal.invariant-loop-m
invariant-loop-m l =
    (l.m ≤ l.n) × (length l.outre ≡ length l.initial.outre) × (length l.outim ≡ length l.initial.outim)
    × (l.outre ≡ written (listed l.m (λ i. (from_lanes (value l.self.re l.self.im) i).re)) l.initial.outre)
    × (l.outim ≡ written (listed l.m (λ i. (from_lanes (value l.self.re l.self.im) i).im)) l.initial.outim)
