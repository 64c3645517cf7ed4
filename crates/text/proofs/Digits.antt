-- Decimal digits read one by one, in order. Assumes nothing.
use Rattle.std.proofs.Common.{◌∙◌, add-one, drop-cons, ◌≡◌, ℕ, ◌+◌, ◌-◌, ◌*◌, ◌<◌, ◌≤◌, Bool, true, false, cond, ◌&&◌, leb, List, [], ◌∷◌, length, get_or, drop, refl, not-suc-le-zero, arith, le-leb}
use Rattle.std.specs.Prelude.{Option, Some, None}
use borrow.Author.Tests.{lt-leb}
use Rattle.text.specs.Decimal.{are_digits, is_digit, natural_in, decimal_after}

-- the number that the digits w write after those of v
unfoldable pub read_after : ℕ → List ℕ → Option ℕ
read_after v w = cond (are_digits w && leb (decimal_after v w) 4294967295) (Some (decimal_after v w)) None

pub natural_read : (w : List ℕ) → 0 < length w → natural_in w ≡ read_after 0 w
unfolding read_after
natural_read [] h = absurd (not-suc-le-zero h)
natural_read (b ∷ w) h = refl

-- the value only grows
grows : (v : ℕ) (w : List ℕ) → v ≤ decimal_after v w
unfolding decimal_after
grows v [] = omega arith
grows v (b ∷ w) = let h = grows (v * 10 + (b - 48)) w in omega arith

no_and : (t : Bool) → (t && false) ≡ false
no_and true = refl
no_and false = refl

pub read_past : (v : ℕ) (w : List ℕ) → 4294967295 < v → read_after v w ≡ None
unfolding read_after
read_past v w h =
    let g = grows v w in
    rw (lt-leb (decimal_after v w) 4294967295 (omega arith), no_and (are_digits w))

pub read_all : (v : ℕ) → v ≤ 4294967295 → read_after v [] ≡ Some v
unfolding read_after decimal_after are_digits
read_all v h = rw (le-leb v 4294967295 h)

-- the next byte b
module _ (v b : ℕ) (w : List ℕ) where
  pub read_other : None ≡ cond (is_digit b) (Some (b - 48)) None → read_after v (b ∷ w) ≡ None
  unfolding read_after are_digits
  read_other = go (is_digit b) refl
    where
      go : (t : Bool) → is_digit b ≡ t → None ≡ cond t (Some (b - 48)) None → read_after v (b ∷ w) ≡ None
      go true q e = cc
      go false q e = rw q

  pub read_digit : (d : ℕ) → Some d ≡ cond (is_digit b) (Some (b - 48)) None → read_after v (b ∷ w) ≡ read_after (v * 10 + d) w
  unfolding read_after are_digits decimal_after
  read_digit d = go (is_digit b) refl
    where
      go : (t : Bool) → is_digit b ≡ t → Some d ≡ cond t (Some (b - 48)) None → read_after v (b ∷ w) ≡ read_after (v * 10 + d) w
      go true q e = let g : d ≡ b - 48 = cc in rw (q, g)
      go false q e = cc

  -- whatever follows
  pub read_past_ten : 4294967295 < v * 10 → read_after v (b ∷ w) ≡ None
  unfolding read_after decimal_after
  read_past_ten h =
      let g = grows (v * 10 + (b - 48)) w in
      rw (lt-leb (decimal_after (v * 10 + (b - 48)) w) 4294967295 (omega arith), no_and (are_digits (b ∷ w)))

-- the number of w from the byte at i on
pub read_next : (w : List ℕ) (v i : ℕ) → i < length w → natural_in w ≡ read_after v (drop i w) → natural_in w ≡ read_after v (get_or w i 0 ∷ drop (i + 1) w)
read_next w v i h e = e ∙ rw (add-one i, drop-cons w i 0 h)
