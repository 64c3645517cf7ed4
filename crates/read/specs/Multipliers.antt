-- What read multiplies each chip by, and the fast forms of its sums. Nothing here is document 01's: the contracts of the public calls do not name it.
use Rattle.std.specs.Prelude.{◌≡◌, ℤ, pos, negsuc, ◌*ℤ◌, ℕ, ◌+◌, ◌*◌, ◌/◌, ◌%◌, ◌<◌, Bool, true, List, eqb}
use Rattle.complex.specs.declared.Complex.{Complex}
use Rattle.complex.specs.Arithmetic.{real, ◌⊕◌, ◌⊗◌, conj, j^, Σ<}
use Rattle.complex.specs.Buffers.{value, ◌at◌}
use Rattle.codes.specs.PackedSigns.{signed_by_j}
use Rattle.codes.specs.Tree.{element}
use Rattle.codes.specs.Scrambling.{v, scrambling_element}

-- what chip i of each 16 is multiplied by
unfoldable pub multiplier : ℕ → ℕ → ℕ → ℕ → Complex
multiplier p Q k i = conj (scrambling_element p (i + 1)) ⊗ real (element Q k (i % Q))

-- the sum of q chips, each with its multiplier
unfoldable pub multiplied_sum : (ℕ → Complex) → (ℕ → Complex) → ℕ → ℕ → Complex
multiplied_sum chip w from q = Σ< q (λ i. chip (from + i) ⊗ w ((from + i) % 16))

-- ---- Q 16
-- the sign of the multiplier at place i: the multiplier is this sign, times j where i is even
unfoldable pub place_sign : ℕ → ℕ → ℕ → ℤ
place_sign p k i = signed_by_j (v p (i + 1) *ℤ element 16 k i) i

-- 1 or -1
unfoldable pub is_sign : ℤ → Bool
is_sign (pos n) = eqb n 1
is_sign (negsuc n) = eqb n 0

pub record Signs (l : List ℤ) : Type 0 where
  pub each : (i : ℕ) → i < 16 → is_sign (l at i) ≡ true

-- the sum of four of the sixteen chips from `from` on, four places apart, each with its sign
unfoldable pub lane : (ℕ → ℤ) → (ℕ → Complex) → ℕ → ℕ → Complex
lane s chip from l =
    real (s l) ⊗ chip (from + l) ⊕ real (s (l + 4)) ⊗ chip (from + (l + 4)) ⊕ real (s (l + 8)) ⊗ chip (from + (l + 8)) ⊕ real (s (l + 12)) ⊗ chip (from + (l + 12))

-- the four lanes of each sixteen chips, one after another
abbrev pub lanes_of : (ℕ → ℤ) → (ℕ → Complex) → ℕ → Complex
lanes_of s chip c = lane s chip (16 * (c / 4)) (c % 4)

-- the first n lanes stand in two buffers
pub record HasLanes (s : ℕ → ℤ) (chip : ℕ → Complex) (n : ℕ) (re im : List ℤ) : Type 0 where
  pub each : (c : ℕ) → c < n → value re im c ≡ lanes_of s chip c

-- reading m of its four lanes: those of the even places are multiplied by j
unfoldable pub from_lanes : (ℕ → Complex) → ℕ → Complex
from_lanes y m = y (4 * m + 1) ⊕ y (4 * m + 3) ⊕ j^ 1 ⊗ (y (4 * m) ⊕ y (4 * m + 2))

-- ---- Q 1
-- one component is 0, the other 1 or -1
pub data PowerOfJ (w : Complex) : Type 0 where
  imaginary : w.re ≡ pos 0 → is_sign w.im ≡ true → PowerOfJ w
  whole : w.im ≡ pos 0 → is_sign w.re ≡ true → PowerOfJ w

pub record PowersOfJ (re im : List ℤ) : Type 0 where
  pub each : (i : ℕ) → i < 16 → PowerOfJ (value re im i)
