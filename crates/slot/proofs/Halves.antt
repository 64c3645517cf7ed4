-- A slot is twice a field and a part of 0 after it, the midamble or the guard: the n chips from chip `from` on. Assumes nothing.
use mathlib.Core.Path.{◌≡◌, sym, ◌∙◌}
use mathlib.Core.Bool.{cond}
use Prim.Native.Nat.{ℕ, ◌+◌, ◌-◌, ◌<◌, ◌≤◌, min}
use native.Mathlib.Nat.{lt_of_not-le}
use native.Mathlib.Decide.{dec_le}
use native.Mathlib.Omega.{arith}
use borrow.Author.Tests.{lt-ltb, le-ltb}
use lib.Dec.{ltb}
use Rattle.complex.specs.Arithmetic.{𝟎}
use Rattle.slot.specs.declared.parts.Parts.{Parts}
use Rattle.slot.specs.Setup.{Setup}
use Rattle.slot.specs.Slot.{slot_parts, field_chip, slot_chip}

-- two tests that hold of the same cases
same_test : (a b c d : ℕ) → (a < b → c < d) → (b ≤ a → d ≤ c) → ltb a b ≡ ltb c d
same_test a b c d f g = go (dec_le b a)
  where
    go : Dec (b ≤ a) → ltb a b ≡ ltb c d
    go (yes h) = le-ltb a b h ∙ sym (le-ltb c d (g h))
    go (no h) = lt-ltb a b (lt_of_not-le h) ∙ sym (lt-ltb c d (f (lt_of_not-le h)))

-- Where the parts of a slot end among its n chips from chip `from` on: field 1 at entry a, the midamble at b, field 2 at c.
pub record Cuts (t : Parts) (from n a b c : ℕ) : Type 0 where
  pub field1 : a ≡ min (t.field1 - from) n
  pub midamble : b ≡ min (t.field1 + t.midamble - from) n
  pub field2 : c ≡ min (t.field1 + t.midamble + t.field2 - from) n

-- ---- what omega shows of one cut or of two: with all three in reach there are too many cases
later : (from n x y a b : ℕ) → a ≡ min (x - from) n → b ≡ min (y - from) n → x ≤ y → a ≤ b
later from n x y a b p q h = omega arith

cut_inside : (from x d a b : ℕ) → a ≡ x - from → b ≤ x + d - from → 0 < b - a → from - x + (b - a) ≤ d
cut_inside from x d a b p q h = omega arith

cut_test : (from n m b c i : ℕ) → c ≡ min (m - from) n → b + i < n → ltb i (c - b) ≡ ltb (from + (b + i)) m
cut_test from n m b c i q l = same_test i (c - b) (from + (b + i)) m (λ h. omega arith) (λ h. omega arith)

module _ {t : Parts} {from n a b c : ℕ} (h : Cuts t from n a b c) where
  pub ordered : (a ≤ b) × (b ≤ c) × (c ≤ n)
  ordered =
      let l : c ≤ n = omega (arith, h.field2) in
      (later from n _ _ a b h.field1 h.midamble (omega arith), later from n _ _ b c h.midamble h.field2 (omega arith), l)

  -- the entries of each half's field lie in the field
  pub first_inside : 0 < a → from + a ≤ t.field1
  first_inside l = omega (arith, h.field1)

  pub second_inside : 0 < c - b → from - (t.field1 + t.midamble) + (c - b) ≤ t.field2
  second_inside l = cut_inside from (t.field1 + t.midamble) t.field2 b c (omega (arith, h.midamble, h.field2)) (omega (arith, h.field2)) l

  module _ (s : Setup) (e : t ≡ slot_parts s.type) (i : ℕ) where
    -- a chip by the part that it falls in
    by_parts : (x : ℕ) → slot_chip s x ≡ cond (ltb x t.field1) (field_chip s 0 0 x)
        (cond (ltb x (t.field1 + t.midamble)) 𝟎
        (cond (ltb x (t.field1 + t.midamble + t.field2)) (field_chip s t.field1 (t.field1 + t.midamble) (x - (t.field1 + t.midamble))) 𝟎))
    unfolding slot_chip
    by_parts x = rw e

    -- entry i of the first half, and of the second, whose first is chip q of field 2
    pub first_half : i < b → cond (ltb i a) (field_chip s 0 0 (from + i)) 𝟎 ≡ slot_chip s (from + i)
    first_half l =
        rw (
          by_parts (from + i),
          same_test i a (from + i) t.field1 (λ k. omega (arith, h.field1, h.midamble)) (λ k. omega (arith, h.field1, h.midamble)),
          lt-ltb (from + i) (t.field1 + t.midamble) (omega (arith, h.midamble)),
        )

    pub second_half : (q : ℕ) → q ≡ from - (t.field1 + t.midamble) → b + i < n
        → cond (ltb i (c - b)) (field_chip s t.field1 (t.field1 + t.midamble) (q + i)) 𝟎 ≡ slot_chip s (from + (b + i))
    second_half q g l =
        let x = from + (b + i) in
        let k : q + i ≡ x - (t.field1 + t.midamble) = omega (arith, h.midamble) in
        rw (
          by_parts x,
          le-ltb x t.field1 (omega (arith, h.midamble)),
          le-ltb x (t.field1 + t.midamble) (omega (arith, h.midamble)),
          cut_test from n (t.field1 + t.midamble + t.field2) b c i h.field2 l,
          k,
        )
