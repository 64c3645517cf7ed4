use mathlib.Core.Path.{◌≡◌}
use Prim.Native.Nat.{◌≤◌}
use Rattle.complex.specs.Buffers.{listed, written}
use Rattle.read_sync.specs.Shares.{product}
use Rattle.read_sync.proofs.sync_reading.PartSums.products.Given as goal

abbrev pub invariant-loop-i : goal.invariant-loop-i
invariant-loop-i l = (l.i ≤ 16) × (l.re ≡ written (listed l.i (λ k. (product l.self.re l.self.im l.p k).re)) l.initial.re) × (l.im ≡ written (listed l.i (λ k. (product l.self.re l.self.im l.p k).im)) l.initial.im)
