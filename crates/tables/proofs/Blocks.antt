-- Codes and bits, as the tables take them. Assumes nothing.
use mathlib.Core.Path.{◌≡◌, sym, ◌∙◌}
use mathlib.Core.Bool.{Bool, true, false, ◌||◌, true≢false}
use mathlib.Core.List.{List}
use Prim.Native.Nat.{ℕ, ◌+◌, ◌*◌, ◌<◌, ◌≤◌}
use native.Mathlib.Decide.{dec_lt}
use native.Mathlib.Omega.{arith}
use native.Mathlib.Numerals.{add-one}
use Rattle.std.proofs.Math.Bool.{or_comm}
use Rattle.codes.specs.Range.{any}
use borrow.Author.Tests.{lt-ltb, ltb-false}
use lib.Dec.{ltb}
use lib.ListN.{length, get_or, get_or-eq_default}
use Rattle.codes.specs.Tree.{is_code, is_spreading_factor, width}
use Rattle.codes.specs.declared.tree.Code.{Code}
use Rattle.codes.proofs.Factors.{factor_range}
use Rattle.codes.proofs.Leaves.{no_width, leaves_within}
use Rattle.codes.proofs.Tests.{none_at}
use Rattle.tables.specs.Bits.{has_byte_above_1}

-- what the tables ask of a code
pub record IsCode (Q k : ℕ) : Type 0 where
  pub factor : is_spreading_factor Q ≡ true
  pub below : k < Q
  pub small : Q ≤ 16
  pub listed : is_code Q k ≡ true

pub is_one : (c : Code) → IsCode c.q c.k
is_one c = record { factor = c.factor; below = c.below; small = (factor_range c.q c.factor).1; listed = rw (c.factor, lt-ltb c.k c.q c.below) }

-- a test over one number more, as at a turn of a loop
pub any_more : (n : ℕ) (f : ℕ → Bool) → any (n + 1) f ≡ (any n f || f n)
unfolding any
any_more n f = rw add-one (or_comm (f n) (any n f))

-- where no byte is above 1, each is a bit; so is what stands past the end
pub is_bit : (bits : List ℕ) → has_byte_above_1 bits ≡ false → (n : ℕ) → get_or bits n 0 ≤ 1
is_bit bits e n = go (dec_lt n (length bits))
  where
    go : Dec (n < length bits) → get_or bits n 0 ≤ 1
    go (yes l) = ltb-false 1 (get_or bits n 0) (none_at (length bits) (λ i. ltb 1 (get_or bits i 0)) e n l)
    go (no l) = rw (get_or-eq_default bits 0 {n = n} (omega arith)) (omega arith)

module _ (Q k : ℕ) (t : is_spreading_factor Q ≡ true) (h : k < Q) where
  -- it has pairs in each block, all inside the block
  pub pairs_in_block : (0 < width Q) × (k * width Q + width Q ≤ 16)
  pairs_in_block = (some (dec_lt 0 (width Q)), leaves_within Q k h)
    where
      some : Dec (0 < width Q) → 0 < width Q
      some (yes l) = l
      some (no l) = absurd (true≢false (sym t ∙ no_width Q (omega arith)))
