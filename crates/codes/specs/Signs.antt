-- Rows of signs: lists of 1 and -1.
use Rattle.std.specs.Prelude.{ℤ, pos, negsuc, List, [], ◌∷◌, Bool, cond, eqb}
use Prim.Native.Char.{Char, code}
use Prim.Native.String.{String, [] as ε, ◌∷◌ as ◌▸◌}

-- '+', whose code is 43, is 1; any other character is -1
abbrev pub sign : Char → ℤ
sign c = cond (eqb (code c) 43) (pos 1) (negsuc 0)

-- a row of signs, written as text
abbrev pub signs : String → List ℤ
signs ε = []
signs (c ▸ s) = sign c ∷ signs s

-- -1 where the test holds, else 1
abbrev pub minus_if : Bool → ℤ
minus_if t = cond t (negsuc 0) (pos 1)
