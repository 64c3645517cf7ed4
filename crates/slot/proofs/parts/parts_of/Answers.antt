-- `parts_of` meets its contract, row by row of the table. Assumes nothing.
use mathlib.Core.Path.{◌≡◌, sym, ap, ◌∙◌}
use Prim.Native.Nat.{ℕ, suc, ◌-◌, ◌≤◌}
use native.Mathlib.Decide.{dec_le}
use native.Mathlib.Omega.{arith}
use Rattle.slot.specs.Slot.{slot_parts, lengths}
use Rattle.slot.proofs.parts.parts_of.Goals as goal

past_table : (t : ℕ) → 4 ≤ t → slot_parts t ≡ lengths 0 0 0 2560
unfolding slot_parts
past_table t l = let e : t ≡ suc (suc (suc (suc (t - 4)))) = omega arith in ap slot_parts e

pub returns-in-1 : goal.returns-in-1
unfolding slot_parts
returns-in-1 c = c.lengths.ensures ∙ sym (ap slot_parts c.in-1.is)

pub returns-in-2 : goal.returns-in-2
unfolding slot_parts
returns-in-2 c = c.lengths-in-2.ensures ∙ sym (ap slot_parts c.in-2.is)

pub returns-in-3 : goal.returns-in-3
unfolding slot_parts
returns-in-3 c = c.lengths-in-3.ensures ∙ sym (ap slot_parts c.in-3.is)

-- any other type is 0 or past the table
pub returns-in_default : goal.returns-in_default
unfolding slot_parts
returns-in_default c = c.lengths-in_default.ensures ∙ sym (go (dec_le 4 c.args.kind))
  where
    go : Dec (4 ≤ c.args.kind) → slot_parts c.args.kind ≡ lengths 0 0 0 2560
    go (yes l) = past_table _ l
    go (no l) = let e : c.args.kind ≡ 0 = omega arith in ap slot_parts e
