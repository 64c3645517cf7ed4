use mathlib.Core.Path.{◌≡◌}
use Prim.Native.Nat.{◌*◌, ◌≤◌}
use lib.ListN.{length}
use Rattle.complex.specs.Buffers.{listed, value, written}
use Rattle.harden.specs.Hardening.{hard_bit}
use Rattle.harden.proofs.hardening.all.Given as goal

abbrev pub invariant-loop-n : goal.invariant-loop-n
invariant-loop-n l = (l.n ≤ length l.re) × (length l.bits ≡ length l.initial.bits) × (l.bits ≡ written (listed (2 * l.n) (hard_bit (value l.re l.im))) l.initial.bits)
