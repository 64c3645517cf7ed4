-- Document 01, "The sync burst": the burst's chips and where it starts.
use Rattle.std.specs.Prelude.{pos, ℕ, ◌+◌, ◌*◌, cond, ltb}
use Rattle.complex.specs.declared.Complex.{Complex}
use Rattle.complex.specs.Arithmetic.{real, ◌⊕◌, ◌⊗◌}
use Rattle.codes.specs.declared.Allocated.{Allocated}
use Rattle.codes.specs.SyncCodes.{Cp, C}
use Rattle.codes.specs.Allocation.{allocation}

-- the sum of u × Ci over its three codes
unfoldable pub secondaries : Allocated → ℕ → Complex
secondaries s n =
    s.first.unit ⊗ C s.first.code n ⊕ s.second.unit ⊗ C s.second.code n ⊕ s.marker.unit ⊗ C s.marker.code n

-- The burst is gP × Cp + gS × (sum of u × Ci over its three codes), 256 chips.
unfoldable pub burst : ℕ → ℕ → ℕ → ℕ → ℕ → ℕ → ℕ → Complex
burst case g frame half g_p g_s n = real (pos g_p) ⊗ Cp n ⊕ real (pos g_s) ⊗ secondaries (allocation case g frame half) n

-- It starts at chip 48g for g below 16 and 720 + 48g from 16 on.
abbrev pub burst_start : ℕ → ℕ
burst_start g = cond (ltb g 16) (48 * g) (720 + 48 * g)
