-- Which candidate leads, from the products by code numbers. Nothing here is document 01's: the contracts of the public calls do not name it.
use Rattle.std.specs.Prelude.{ℤ, ℕ, ◌+◌, List}
use Rattle.complex.specs.Buffers.{value}
use Rattle.read_sync.specs.SyncReading.{candidate, candidate_codes}
use Rattle.read_sync.specs.Shares.{shares_of}
use Rattle.read_sync.specs.Leaders.{Leads}
use Rattle.read_sync.specs.Cases.{case_number}
use Rattle.read_sync.specs.declared.case.Case.{Case}
use Rattle.read_sync.specs.declared.sync_reading.Leader.{Leader}

-- candidate n's score, from the products re + j im
abbrev pub score_by : Case → List ℤ → List ℤ → ℕ → ℤ
score_by case re im n = shares_of (value re im) (candidate_codes (case_number case) (candidate (case_number case) n))

-- b leads the `count` candidates from `first` on
abbrev pub LeadsFrom : Case → List ℤ → List ℤ → ℕ → ℕ → Leader → Type 0
LeadsFrom case re im first count b = Leads (λ k. score_by case re im (first + k)) count b
