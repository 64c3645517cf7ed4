-- How the functions make sixteen chips at a time, data and burst. Nothing here is document 01's: the contracts of the bench's calls do not name it.
use Rattle.std.specs.Prelude.{ℤ, pos, ◌+ℤ◌, ◌-ℤ◌, ◌*ℤ◌, ℕ, ◌+◌, ◌*◌, ◌/◌, ◌%◌, List, Bool, true, false, cond, eqb, get_or}
use Rattle.complex.specs.declared.Complex.{Complex}
use Rattle.complex.specs.Arithmetic.{◌+j◌, real, ◌⊕◌, ◌⊗◌, Σℤ<}
use Rattle.complex.specs.Buffers.{listed, ◌at◌}
use Rattle.codes.specs.PackedSigns.{sign_bit, secondary_row}
use Rattle.codes.specs.Range.{any}
use Rattle.codes.specs.Scrambling.{scrambling_element}
use Rattle.codes.specs.Tree.{over_factors, element, width}
use Rattle.codes.specs.declared.ModulatedCode.{ModulatedCode}
use Rattle.codes.specs.declared.Allocated.{Allocated}
use Rattle.codes.specs.SyncCodes.{a, b}
use Rattle.modulation.specs.declared.data.OpenLevels.{OpenLevels}
use Rattle.modulation.specs.Nodes.{node, open_at}
use Rattle.modulation.specs.Symbols.{symbol}

-- ---- data: a block of sixteen chips from sixteen entries, one component x of their symbols at a time
-- what the codes of factor Q add to chip c
unfoldable pub level_sum : List ℕ → List ℤ → ℕ → ℕ → ℤ
level_sum gains x Q c = Σℤ< Q (λ k. pos (get_or gains (node Q k) 0) *ℤ get_or x (k * width Q + c / Q) (pos 0) *ℤ element Q k (c % Q))

-- what all codes add to chip c
unfoldable pub summed : List ℕ → List ℤ → ℕ → ℤ
summed gains x c = over_factors ◌+ℤ◌ (pos 0) (λ Q. level_sum gains x Q c)

-- One level up the tree: code (Q, k) stands in (2Q, 2k) twice, and in (2Q, 2k+1) with its negative second. So one symbol of
-- each of the two goes out, with code (Q, k), as their sum on the first Q chips and as their difference on the last Q. Entry i of level Q from the entries x of level 2Q:
unfoldable pub raised : List ℤ → ℕ → ℕ → ℤ
raised x Q i =
    let w = width Q in
    let n = i / w * w + i % w / 2 in
    cond (eqb Q 16) (pos 0)
    (cond (eqb (i % 2) 0) (get_or x n (pos 0) +ℤ get_or x (n + w / 2) (pos 0)) (get_or x n (pos 0) -ℤ get_or x (n + w / 2) (pos 0)))

-- what level Q's own codes add to its entry i, by their gains on the symbols s
unfoldable pub own : List ℕ → List ℤ → ℕ → ℕ → ℤ
own gains s Q i = pos (get_or gains (node Q (i / width Q)) 0) *ℤ get_or s i (pos 0)

-- entry i of level Q: what the entries x of the level below it make, and its own codes
abbrev pub climbed : List ℕ → List ℤ → List ℤ → ℕ → ℕ → ℤ
climbed gains s x Q i = raised x Q i +ℤ own gains s Q i

-- the entries x of level Q itself, with its own codes
abbrev pub with_own : List ℕ → List ℤ → List ℤ → ℕ → ℕ → ℤ
with_own gains s x Q i = get_or x i (pos 0) +ℤ own gains s Q i

-- whether a code of factor Q is open
abbrev pub has_open : List ℕ → ℕ → Bool
has_open gains Q = any Q (open_at gains Q)

-- which levels have an open code
abbrev pub levels_of : List ℕ → OpenLevels
levels_of gains = record { q1 = has_open gains 1; q2 = has_open gains 2; q4 = has_open gains 4; q8 = has_open gains 8; q16 = has_open gains 16 }

-- re where the flag is true, else im
abbrev pub component : Complex → Bool → ℤ
component z re = cond re z.re z.im

-- ---- scrambling: (x + y j) w for a w that is imaginary at even places, from 0, and real at odd ones. With w (1 + j) = t + u j the product is
-- t y + u x j at even places, t x + u y j at odd ones.
-- the scrambling signs of chip i, as t + u j: scrambling element i + 1 times 1 + j
abbrev pub scrambling_signs : ℕ → ℕ → Complex
scrambling_signs p i = scrambling_element p (i + 1) ⊗ (pos 1 +j pos 1)

-- entry i of the signs t times that of `even` or of `odd`, by the place's parity
abbrev pub scrambled : List ℤ → List ℤ → List ℤ → ℕ → ℤ
scrambled t even odd i = get_or t i (pos 0) *ℤ cond (eqb (i % 2) 0) (get_or even i (pos 0)) (get_or odd i (pos 0))

-- ---- a block from the tables
-- one component of the sixteen chips before scrambling, from the pairs that stand from `from` on
abbrev pub summed_component : List ℕ → List ℕ → ℕ → Bool → List ℤ
summed_component gains pairs from re = listed 16 (summed gains (listed 16 (λ i. component (symbol (get_or pairs (from + i) 0)) re)))

-- chip c of them, scrambled by the signs t and u
abbrev pub block_chip : List ℕ → List ℕ → ℕ → List ℤ → List ℤ → ℕ → Complex
block_chip gains pairs from t u c =
    let x = summed_component gains pairs from true in
    let y = summed_component gains pairs from false in
    scrambled t y x c +j scrambled u x y c

-- ---- the burst by parts of sixteen chips
-- what (1 + j) b is multiplied by in part m of a modulated code
unfoldable pub modulated_part : ModulatedCode → ℕ → Complex
modulated_part c m = real (sign_bit (secondary_row c.code) m) ⊗ c.unit

abbrev pub modulated_parts : Allocated → ℕ → Complex
modulated_parts s m = modulated_part s.first m ⊕ modulated_part s.second m ⊕ modulated_part s.marker m

-- chip i of a part: (1 + j) p times a, and s times b
abbrev pub part_chip : ℤ → Complex → ℕ → Complex
part_chip p s i = real (a at i) ⊗ (p +j p) ⊕ real (b at i) ⊗ s
