-- What the lengths of every burst type have in common, also of one that is not listed. Assumes nothing.
use mathlib.Core.Path.{◌≡◌}
use Prim.Native.Nat.{ℕ, zero, suc, ◌+◌, ◌%◌, ◌≤◌}
use lib.Dec.{T, eqb, eqb→eq, leb, leb→le}
use Rattle.slot.specs.declared.parts.Parts.{Parts}
use Rattle.slot.specs.Slot.{slot_length, slot_parts}

pub record Lengths (t : Parts) : Type 0 where
  pub first : t.field1 % 16 ≡ 0
  pub second : (t.field1 + t.midamble) % 16 ≡ 0
  pub chips : (t.field1 + t.field2) % 16 ≡ 0
  pub pairs : t.field1 + t.field2 ≤ 2208
  -- "A slot has 2,560 chips: field 1, midamble, field 2, guard."
  pub slot : t.field1 + t.midamble + t.field2 + t.guard ≡ slot_length

-- the rules as tests that compute
row : {t : Parts} → T (eqb (t.field1 % 16) 0) → T (eqb ((t.field1 + t.midamble) % 16) 0) → T (eqb ((t.field1 + t.field2) % 16) 0)
    → T (leb (t.field1 + t.field2) 2208) → T (eqb (t.field1 + t.midamble + t.field2 + t.guard) slot_length) → Lengths t
row a b c d e = record { first = eqb→eq _ _ a; second = eqb→eq _ _ b; chips = eqb→eq _ _ c; pairs = leb→le _ _ d; slot = eqb→eq _ _ e }

pub lengths_of : (t : ℕ) → Lengths (slot_parts t)
unfolding slot_parts
lengths_of zero = row tt tt tt tt tt
lengths_of (suc zero) = row tt tt tt tt tt
lengths_of (suc (suc zero)) = row tt tt tt tt tt
lengths_of (suc (suc (suc zero))) = row tt tt tt tt tt
lengths_of (suc (suc (suc (suc t)))) = row tt tt tt tt tt
