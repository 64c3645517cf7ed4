-- The leader of candidates: the one with the largest score, and whether it has it alone. Nothing here is document 01's: the contracts of the public calls do not name it.
use Rattle.std.specs.Prelude.{◌≡◌, ◌≢◌, ℤ, pos, neg_ℤ, ◌+ℤ◌, ℕ, ◌+◌, ◌*◌, ◌/◌, ◌%◌, ◌<◌, true, false, ◌&&◌, cond, eqb}
use Rattle.std.specs.Int.Signed.{le_z, lt_z}
use Rattle.complex.specs.declared.Complex.{Complex}
use Rattle.complex.specs.Arithmetic.{◌⊗◌, conj}
use Rattle.complex.specs.Fits.{Within}
use Rattle.codes.specs.declared.burst.CodeSet.{CodeSet}
use Rattle.codes.specs.declared.burst.AllocationRow.{AllocationRow}
use Rattle.read_sync.specs.declared.sync_reading.Leader.{Leader}

-- the leader of x and -x, numbers 0 and 1
abbrev pub leader_of_signs : ℤ → Leader
leader_of_signs x = cond (lt_z x (pos 0)) (record { at = 1; score = neg_ℤ x; alone = true }) (record { at = 0; score = x; alone = lt_z (pos 0) x })

-- the leader of all sums of one of b's scores and one of c's two: sum 2m + n is of scores m and n
abbrev pub leader_with : Leader → Leader → Leader
leader_with b c = record { at = 2 * b.at + c.at; score = b.score +ℤ c.score; alone = b.alone && c.alone }

-- the leader once the candidates from n on are met too, c being the leader of those
abbrev pub leader_or_later : Leader → ℕ → Leader → Leader
leader_or_later b n c =
    cond (lt_z b.score c.score) (record { at = n + c.at; score = c.score; alone = c.alone })
    (record { at = b.at; score = b.score; alone = lt_z c.score b.score && b.alone })

-- which candidate of its row has the signs k: 4 where the first of the pair is negative, 2 the second, 1 the marker
unfoldable pub place_in_row : ℕ → ℕ → ℕ
place_in_row case k = cond (eqb case 1) k ((k / 4 + k / 2) % 2 * 4 + k / 4 * 2 + k % 2)

-- the leader of a row of the allocation table, from those of the signs of its pair and of its marker
abbrev pub leader_of_row : ℕ → Leader → Leader → Leader → Leader
leader_of_row case first second marker =
    let b = leader_with (leader_with first second) marker in
    record { at = place_in_row case b.at; score = b.score; alone = b.alone }

-- the same from the products d, for a row
abbrev pub leader_in_row : ℕ → (ℕ → Complex) → AllocationRow → Leader
leader_in_row case d w =
    let share : ℕ → ℤ = λ i. (d i ⊗ conj w.unit).re in
    leader_of_row case (leader_of_signs (share w.first)) (leader_of_signs (share w.second)) (leader_of_signs (d w.marker).re)

-- a code set's three numbers are below 16, so each has its product
pub record SmallSet (s : CodeSet) : Type 0 where
  pub a : s.a < 16
  pub b : s.b < 16
  pub d : s.d < 16

-- what a leader can be: one of n, its score at most k in size
pub record Led (k n : ℕ) (b : Leader) : Type 0 where
  pub below : b.at < n
  pub size : Within k b.score

-- of the scores s of n candidates, the leader has the largest, and is alone exactly where no other has it
pub record Leads (s : ℕ → ℤ) (n : ℕ) (b : Leader) : Type 0 where
  pub below : b.at < n
  pub own : b.score ≡ s b.at
  pub largest : (k : ℕ) → k < n → le_z (s k) (s b.at) ≡ true
  pub others : b.alone ≡ true → (k : ℕ) → k < n → k ≢ b.at → lt_z (s k) (s b.at) ≡ true
  pub tied : b.alone ≡ false → (k : ℕ) × (k < n) × (k ≢ b.at) × (s k ≡ s b.at)
