use mathlib.Core.Path.{◌≡◌}
use Prim.Native.Nat.{◌≤◌, ◌<◌}
use lib.ListN.{length}
use Rattle.modulation.specs.Symbols.{pair}
use Rattle.tables.proofs.Entries.{Became, blocks}
use Rattle.tables.proofs.pairs.set_bits.Given as goal

abbrev pub invariant-loop-m : goal.invariant-loop-m
invariant-loop-m l = (l.m ≤ 138) × (0 < l.m → length l.pairs ≡ 2208) × Became (blocks l.w l.fn.code.k (pair l.bits) l.m) l.initial.pairs l.pairs
