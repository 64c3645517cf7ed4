-- Document 01, "Proved table of instances": what the definitions give, and what the document states.
use Rattle.std.specs.Prelude.{ℤ, pos, neg_ℤ, ℕ, Bool, true, false, List, [], ◌∷◌, map, get_or}
use Rattle.std.proofs.Math.Option.{some}
use Rattle.complex.specs.declared.Complex.{Complex}
use Rattle.complex.specs.Arithmetic.{◌+j◌, real}
use Rattle.complex.specs.Buffers.{listed}
use Rattle.codes.specs.Tree.{code, related}
use Rattle.codes.specs.Scrambling.{scrambling_element}
use Rattle.codes.specs.declared.Allocated.{Allocated}
use Rattle.codes.specs.SyncCodes.{Cp, C}
use Rattle.codes.specs.Allocation.{allocation, with_unit}
use Rattle.codes.specs.Burst.{burst_start}
use Rattle.slot.specs.Setup.{Setup}
use Rattle.slot.specs.Slot.{slot_chip}
use Rattle.read.specs.Reading.{reading}
use Rattle.harden.specs.Hardening.{hard_bit}
use Rattle.demands.specs.Reference.{cell_set, with_channel}

-- the values that an instance speaks of
pub data InstanceValue : Type 0 where
  elements : List ℤ → InstanceValue
  truths : List Bool → InstanceValue
  complex : List Complex → InstanceValue
  numbers : List ℕ → InstanceValue
  code_units : Allocated → InstanceValue

pub record Instance : Type 0 where
  pub computed : List InstanceValue
  pub stated : List InstanceValue

infix 30 ◌is◌
abbrev pub ◌is◌ : List InstanceValue → List InstanceValue → Instance
v is w = record { computed = v; stated = w }

-- y times j
abbrev pub times_j : ℤ → Complex
times_j y = pos 0 +j y

abbrev pub minus : ℕ → ℤ
minus n = neg_ℤ (pos n)

-- code (Q, k) open with this gain and these bits
abbrev pub and_open : Setup → ℕ → ℕ → ℕ → List ℕ → Setup
and_open s Q k g bits = with_channel s Q k (some (record { gain = g; bits = bits }))

-- 5. Cell 8, (4, 1), gain 3, pair 01
abbrev pub one_code : Setup
one_code = and_open (cell_set 8 1) 4 1 3 (0 ∷ 1 ∷ [])

-- 6. Cell 8, (2, 0) gain 3 pairs 01 01 with (4, 2) gain 5 pair 10
abbrev pub two_codes : Setup
two_codes = and_open (and_open (cell_set 8 1) 2 0 3 (0 ∷ 1 ∷ 0 ∷ 1 ∷ [])) 4 2 5 (1 ∷ 0 ∷ [])

-- the first four chips, and the first n readings of code (Q, k)
abbrev pub chips_of : Setup → InstanceValue
chips_of s = complex (listed 4 (slot_chip s))

abbrev pub readings_of : Setup → ℕ → ℕ → ℕ → InstanceValue
readings_of s Q k n = complex (listed n (reading s.cell Q k (slot_chip s)))

abbrev pub three_codes : ℕ → Complex → ℕ → Complex → ℕ → Complex → InstanceValue
three_codes i u j v k w = code_units (record { first = with_unit i u; second = with_unit j v; marker = with_unit k w })

-- the readings 0, 5+5j, -5-5j
abbrev pub three_readings : ℕ → Complex
three_readings n = get_or (real (pos 0) ∷ (pos 5 +j pos 5) ∷ (minus 5 +j minus 5) ∷ []) n (real (pos 0))

unfoldable pub table : List Instance
table =
    -- 1. (4, 1) is 1 1 -1 -1.
    (elements (code 4 1) ∷ [] is elements (pos 1 ∷ pos 1 ∷ minus 1 ∷ minus 1 ∷ []) ∷ []) ∷
    -- 2. (8, 5) is 1 -1 1 -1 -1 1 -1 1.
    (elements (code 8 5) ∷ [] is elements (pos 1 ∷ minus 1 ∷ pos 1 ∷ minus 1 ∷ minus 1 ∷ pos 1 ∷ minus 1 ∷ pos 1 ∷ []) ∷ []) ∷
    -- 3. (4, 1) and (16, 5) are related, (4, 1) and (16, 8) not.
    (truths (related 4 1 16 5 ∷ related 4 1 16 8 ∷ []) ∷ [] is truths (true ∷ false ∷ []) ∷ []) ∷
    -- 4. Scrambling code 8 begins j, -1, -j, -1.
    (complex (map (scrambling_element 8) (1 ∷ 2 ∷ 3 ∷ 4 ∷ [])) ∷ [] is complex (times_j (pos 1) ∷ real (minus 1) ∷ times_j (minus 1) ∷ real (minus 1) ∷ []) ∷ []) ∷
    -- 5. Cell 8, (4, 1), gain 3, pair 01: 3j, -3, 3j, 3, reading 12.
    (chips_of one_code ∷ readings_of one_code 4 1 1 ∷ []
    is complex (times_j (pos 3) ∷ real (minus 3) ∷ times_j (pos 3) ∷ real (pos 3) ∷ []) ∷ complex (real (pos 12) ∷ []) ∷ []) ∷
    -- 6. Cell 8, (2, 0) gain 3 pairs 01 01 with (4, 2) gain 5 pair 10: -2j, -8, 2j, -8; readings 6, 6 and -20, free (4, 3) reads 0.
    (chips_of two_codes ∷ readings_of two_codes 2 0 2 ∷ readings_of two_codes 4 2 1 ∷ readings_of two_codes 4 3 1 ∷ []
    is complex (times_j (minus 2) ∷ real (minus 8) ∷ times_j (pos 2) ∷ real (minus 8) ∷ []) ∷
    complex (real (pos 6) ∷ real (pos 6) ∷ []) ∷ complex (real (minus 20) ∷ []) ∷ complex (real (pos 0) ∷ []) ∷ []) ∷
    -- 7. Bursts start at 720 for group 15, 1488 for 16, 2208 for 31.
    (numbers (map burst_start (15 ∷ 16 ∷ 31 ∷ [])) ∷ [] is numbers (720 ∷ 1488 ∷ 2208 ∷ []) ∷ []) ∷
    -- 8. Case 1, group 31, frame 2: -jC13, -jC14, -C10.
    (code_units (allocation 1 31 2 0) ∷ [] is three_codes 13 (times_j (minus 1)) 14 (times_j (minus 1)) 10 (real (minus 1)) ∷ []) ∷
    -- 9. Case 2, group 9, frame 2, half 1: -C10, C13, -C14.
    (code_units (allocation 2 9 2 1) ∷ [] is three_codes 10 (real (minus 1)) 13 (real (pos 1)) 14 (real (minus 1)) ∷ []) ∷
    -- 10. Cp chip 48 is -1-j.
    (complex (Cp 48 ∷ []) ∷ [] is complex ((minus 1 +j minus 1) ∷ []) ∷ []) ∷
    -- 11. C1 chip 16 is -1-j.
    (complex (C 1 16 ∷ []) ∷ [] is complex ((minus 1 +j minus 1) ∷ []) ∷ []) ∷
    -- 12. Readings 0, 5+5j, -5-5j harden to 00, 00, 10.
    (numbers (listed 6 (hard_bit three_readings)) ∷ [] is numbers (0 ∷ 0 ∷ 0 ∷ 0 ∷ 1 ∷ 0 ∷ []) ∷ []) ∷ []
