-- Document 01, "Analyser calls": the correlations of read sync and find.
use Rattle.std.specs.Prelude.{ℕ}
use Rattle.complex.specs.declared.Complex.{Complex}
use Rattle.complex.specs.Arithmetic.{◌⊗◌, conj, Σ<}
use Rattle.codes.specs.SyncCodes.{Cp, C}

-- the sum over 256 chips of chip × conj(code)
unfoldable pub correlation : (ℕ → Complex) → (ℕ → Complex) → Complex
correlation chip code = Σ< 256 (λ n. chip n ⊗ conj (code n))

-- S(i) is the sum of chip × conj(Ci), P that with Cp.
abbrev pub S : (ℕ → Complex) → ℕ → Complex
S chip i = correlation chip (C i)

abbrev pub P : (ℕ → Complex) → Complex
P chip = correlation chip Cp
