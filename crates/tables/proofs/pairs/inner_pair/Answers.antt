-- `inner_pair` meets its contract. Assumes nothing.
use Prim.Native.Nat.{ℕ, ◌+◌, ◌*◌, ◌≤◌}
use native.Mathlib.Omega.{arith}
use lib.ListN.{get_or}
use Rattle.tables.proofs.Blocks.{is_bit}
use Rattle.tables.proofs.pairs.inner_pair.Goals as goal
use Rattle.tables.proofs.pairs.inner_pair.Goals.{Start}

-- a byte is at most 1
bit : (c : Start) (n : ℕ) → get_or c.args.bits.now n 0 ≤ 1
bit c = is_bit c.args.bits.now c.requires.1

pub overflow_mul-result-2 : goal.overflow_mul-result-2
overflow_mul-result-2 c = omega (arith, bit (goal.at.overflow_mul-result-2 c).Start (2 * c.args.n))

pub overflow_add-result-2 : goal.overflow_add-result-2
overflow_add-result-2 c =
    let n = 2 * c.args.n in
    omega (arith, bit (goal.at.overflow_add-result-2 c).Start n, bit (goal.at.overflow_add-result-2 c).Start (n + 1))
