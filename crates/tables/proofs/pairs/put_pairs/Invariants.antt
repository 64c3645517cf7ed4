use mathlib.Core.Path.{◌≡◌}
use Prim.Native.Nat.{◌+◌, ◌≤◌}
use lib.ListN.{length}
use Rattle.modulation.specs.Symbols.{pair}
use Rattle.tables.proofs.Entries.{Became, part}
use Rattle.tables.proofs.pairs.put_pairs.Given as goal

abbrev pub invariant-loop-i : goal.invariant-loop-i
invariant-loop-i l = (l.i ≤ l.w) × (length l.all ≡ 2208) × Became (part l.at (λ j. pair l.bits (l.n + j)) l.i) l.initial.all l.all
