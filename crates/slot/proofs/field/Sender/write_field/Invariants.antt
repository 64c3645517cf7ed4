use mathlib.Core.Path.{◌≡◌}
use Prim.Native.Nat.{◌+◌, ◌-◌, ◌≤◌}
use lib.ListN.{length}
use Rattle.complex.specs.Buffers.{listed, written}
use Rattle.slot.specs.Sent.{sent_chip}
use Rattle.slot.proofs.field.Sender.write_field.Given as goal

abbrev pub invariant-loop-done : goal.invariant-loop-done
invariant-loop-done l =
    (l.done ≤ l.n) × (length l.re ≡ length l.initial.re) × (length l.im ≡ length l.initial.im)
    × (l.re ≡ written (listed l.done (λ i. (sent_chip l.self l.field (l.q + i)).re)) l.initial.re)
    × (l.im ≡ written (listed l.done (λ i. (sent_chip l.self l.field (l.q + i)).im)) l.initial.im)

abbrev pub decreases-loop-done : goal.decreases-loop-done
decreases-loop-done l = l.n - l.done
