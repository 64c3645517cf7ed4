use mathlib.Core.Path.{◌≡◌}
use mathlib.Core.Bool.{Bool, false, cond}
use mathlib.Core.List.{List}
use Prim.Native.Nat.{ℕ, ◌+◌, ◌*◌, ◌%◌, ◌≤◌}
use lib.ListN.{length, get_or}
use Rattle.tables.proofs.Entries.{Became, passed}
use Rattle.tables.proofs.pairs.clear_leaves.Given as goal

-- an entry after the pass
abbrev pub kept : List Bool → ℕ → ℕ → ℕ
kept leaves i x = cond (get_or leaves (i % 16) false) 0 x

abbrev pub invariant-loop-i : goal.invariant-loop-i
invariant-loop-i l = (l.i ≤ 16) × (length l.all ≡ 2208)
    × ((old : List ℕ) → Became (passed (kept l.leaves) (16 * l.m)) old l.initial.all → Became (passed (kept l.leaves) (16 * l.m + l.i)) old l.all)

abbrev pub invariant-loop-m : goal.invariant-loop-m
invariant-loop-m l = (l.m ≤ 138) × (length l.all ≡ 2208) × Became (passed (kept l.leaves) (16 * l.m)) l.initial.all l.all
