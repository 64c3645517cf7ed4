-- Numbers as a script writes them (docs/TDD.md, "Scripts"), one byte a character.
use Rattle.std.specs.Prelude.{ℕ, ◌+◌, ◌-◌, ◌*◌, Bool, true, false, cond, ◌&&◌, List, [], ◌∷◌, ℤ, pos, neg_ℤ, ◌==◌, nat_le, Option, Some, None}

-- a decimal digit: the bytes 48 to 57 stand for 0 to 9
abbrev pub is_digit : ℕ → Bool
is_digit b = nat_le 48 b && nat_le b 57

unfoldable pub are_digits : List ℕ → Bool
are_digits [] = true
are_digits (b ∷ w) = is_digit b && are_digits w

-- "A number is a row of decimal digits": at least one
abbrev pub is_number : List ℕ → Bool
is_number [] = false
is_number (b ∷ w) = are_digits (b ∷ w)

-- the value of the digits w written after those of v
unfoldable pub decimal_after : ℕ → List ℕ → ℕ
decimal_after v [] = v
decimal_after v (b ∷ w) = decimal_after (v * 10 + (b - 48)) w

abbrev pub decimal_value : List ℕ → ℕ
decimal_value w = decimal_after 0 w

-- a row of digits with a value of at most m
abbrev pub at_most : ℕ → List ℕ → Bool
at_most m w = is_number w && nat_le (decimal_value w) m

-- "with value from 0 to 4,294,967,295"
abbrev pub natural_in : List ℕ → Option ℕ
natural_in w = cond (at_most 4294967295 w) (Some (decimal_value w)) None

-- "a component may have `-` before it, with value from -2,147,483,648 to 2,147,483,647": 45 is the byte of `-`
abbrev pub component_in : List ℕ → Option ℤ
component_in [] = None
component_in (b ∷ w) =
    cond (b == 45) (cond (at_most 2147483648 w) (Some (neg_ℤ (pos (decimal_value w)))) None) (cond (at_most 2147483647 (b ∷ w)) (Some (pos (decimal_value (b ∷ w)))) None)
