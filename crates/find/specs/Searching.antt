-- A search among the sizes of correlations, one for each start. Nothing here is document 01's: the contracts of the public calls do not name it.
use Rattle.std.specs.Prelude.{ℤ, ℕ, Bool, length}
use Rattle.std.specs.Int.Signed.{le_z}
use Rattle.analyser_parts.specs.declared.largest.Largest.{Largest}
use Rattle.find.specs.PeakSearch.{PeaksBelow, sizes}
use Rattle.find.specs.declared.finding.Correlations.{Correlations}

abbrev pub starts : Correlations → ℕ
starts x = length x.re.now

abbrev pub size_at : Correlations → ℕ → ℤ
size_at x = sizes x.re.now x.im.now

-- b is one of the starts, and of the first n, as far as c looks at them, the largest
abbrev pub Searched : Correlations → (ℕ → Bool) → ℕ → Largest → Type 0
Searched x c n b = PeaksBelow (size_at x) c (starts x) n b

-- the starts whose size is `floor` or more
abbrev pub at_least : Correlations → ℤ → ℕ → Bool
at_least x floor k = le_z floor (size_at x k)
