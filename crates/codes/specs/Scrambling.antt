-- Document 01, "Codes and their tree" (TS 25.223, 6.3 and Annex A).
use Rattle.std.specs.Prelude.{ℤ, pos, ℕ, ◌/◌, List, ◌∷◌, get_or}
use Rattle.complex.specs.declared.Complex.{Complex}
use Rattle.complex.specs.Arithmetic.{real, ◌⊗◌, j^}
use Rattle.complex.specs.Buffers.{◌at◌}
use Rattle.codes.specs.Signs.{signs}
use Rattle.codes.specs.AnnexA.{annex_A}

-- Scrambling code p, for cell parameter p from 0 to 127, is row p of Annex A, v1 to v16; empty for any other p.
abbrev pub annex_row : ℕ → List ℤ
annex_row p = signs (get_or annex_A p "")

-- vi, i from 1; 0 for i 0
unfoldable pub v : ℕ → ℕ → ℤ
v p i = (pos 0 ∷ annex_row p) at i

-- Its complex element i is j^i times vi, i from 1.
unfoldable pub scrambling_element : ℕ → ℕ → Complex
scrambling_element p i = j^ i ⊗ real (v p i)

-- The code group of p is p div 4.
abbrev pub code_group : ℕ → ℕ
code_group p = p / 4
