use mathlib.Core.Path.{◌≡◌}
use Prim.Native.Nat.{◌*◌, ◌≤◌}
use Rattle.complex.specs.Buffers.{listed, written}
use Rattle.codes.specs.PackedSigns.{packed}
use Rattle.codes.specs.SyncCodes.{a, b}
use Rattle.analyser_parts.specs.PartSums.{signed_sum}
use Rattle.read_sync.proofs.sync_reading.parts.Given as goal

abbrev pub invariant-loop-m : goal.invariant-loop-m
invariant-loop-m l = (l.m ≤ 16) × (l.y ≡ written (listed l.m (λ k. signed_sum l.x (k * 16) (packed a))) l.initial.y) × (l.z ≡ written (listed l.m (λ k. signed_sum l.x (k * 16) (packed b))) l.initial.z)
