-- Document 01, "The slot": symbols.
use Rattle.std.specs.Prelude.{pos, negsuc, ℕ, ◌+◌, ◌*◌, List, [], ◌∷◌, get_or}
use Rattle.complex.specs.declared.Complex.{Complex}
use Rattle.complex.specs.Arithmetic.{◌+j◌, 𝟎, 𝟏, 𝐣}

-- Bits go in pairs to symbols, first bit written first:
abbrev pub pair : List ℕ → ℕ → ℕ
pair bits n = 2 * get_or bits (2 * n) 0 + get_or bits (2 * n + 1) 0

-- 00 is +j, 01 is +1, 10 is -1, 11 is -j.
unfoldable pub symbol : ℕ → Complex
symbol n = get_or (𝐣 ∷ 𝟏 ∷ (negsuc 0 +j pos 0) ∷ (pos 0 +j negsuc 0) ∷ []) n 𝟎
