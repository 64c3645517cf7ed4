-- The bits that the refusal tests of `load_bits` let through. Assumes nothing.
use mathlib.Core.Path.{◌≡◌, sym, subst}
use mathlib.Core.Bool.{Bool, true, false}
use mathlib.Core.List.{List}
use Prim.Native.Nat.{ℕ, suc, ◌-◌, ◌%◌, ◌<◌}
use native.Mathlib.Decide.{dec_lt}
use native.Mathlib.Nat.{zero-div}
use native.Mathlib.Omega.{arith}
use borrow.Author.Tests.{eqb-true, leb-false, not-false}
use lib.Dec.{T, eqb, eqb→eq}
use lib.ListN.{length}
use Rattle.codes.specs.Range.{each}
use Rattle.codes.specs.Tree.{is_spreading_factor}
use Rattle.codes.proofs.Leaves.{each_code, at_code}
use Rattle.codes.proofs.Refused.{Passed}
use Rattle.codes.proofs.Tests.{each_at}
use Rattle.slot.specs.Setup.{Setup}
use Rattle.slot.specs.Slot.{bit_count, slot_parts}
use Rattle.tables.specs.Bits.{has_byte_above_1}
use Rattle.bench.specs.BenchCalls.{load_bits_refusals}

-- ---- a code
-- it has an even count of bits in every burst type
counts : ℕ → ℕ → Bool
counts Q k = each 4 (λ t. eqb (bit_count t Q % 2) 0)

counts_test : T (each_code counts)
unfolding each_code counts each slot_parts
counts_test = tt

module _ (Q k : ℕ) (t : is_spreading_factor Q ≡ true) (h : k < Q) where
  factor : T (is_spreading_factor Q)
  factor = subst T (sym t) tt

  even_count : (type : ℕ) → bit_count type Q % 2 ≡ 0
  unfolding counts slot_parts
  even_count type = go (dec_lt type 4)
    where
      go : Dec (type < 4) → bit_count type Q % 2 ≡ 0
      go (yes l) = eqb→eq _ _ (each_at 4 (λ t. eqb (bit_count t Q % 2) 0) (at_code counts counts_test Q k factor h) type l)
      go (no l) =
          let e : suc (suc (suc (suc (type - 4)))) ≡ type = omega arith in
          subst (λ (n : ℕ). bit_count n Q % 2 ≡ 0) e (rw zero-div)

-- ---- what the refusal tests leave
-- this is what `set_bits` requires
pub load_passed : (s : Setup) (Q k : ℕ) (bits : List ℕ) → Passed (load_bits_refusals s Q k bits) → (has_byte_above_1 bits ≡ false) × (length bits % 2 ≡ 0)
load_passed s Q k bits p =
    let n = bit_count s.type Q in
    let e = eqb-true (length bits) n (not-false (eqb (length bits) n) p.1.1.1.0) in
    let factor = not-false (is_spreading_factor Q) p.0 in
    (p.1.1.1.1.0, rw e (even_count Q k factor (leb-false Q k p.1.0) s.type))
