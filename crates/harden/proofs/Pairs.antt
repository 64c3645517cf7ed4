-- Hardening: two comparisons give the bits of the pair with the largest score, the earliest on a tie. Assumes nothing.
use mathlib.Core.Path.{◌≡◌, refl, ap, ◌∙◌}
use mathlib.Core.Bool.{Bool, true, false, not, cond}
use Prim.Native.Nat.{ℕ, zero, suc, ◌+◌, ◌*◌, ◌/◌, ◌%◌, ◌<◌, ◌≤◌}
use native.Mathlib.Omega.{arith}
use lib.IntN.{ℤ, pos, negsuc, neg_ℤ, ◌-ℤ◌}
use lib.Signed.{mag, le_z, lt_z}
use mir.Syntax.{Width}
use mir.Val.{SFits, bool_byte}
use Rattle.complex.specs.declared.Complex.{Complex}
use Rattle.complex.specs.Arithmetic.{◌+j◌}
use Rattle.complex.proofs.Integers.{pos_part, neg_part, negℤ_pos_part, negℤ_neg_part, +ℤ_parts, by_parts}
use Rattle.complex.proofs.Order.{lt_z_true, lt_z_false, le_le_z, lt_lt_z, lt_le_z}
use Rattle.analyser_parts.proofs.Choosing.{peaks_is}
use Rattle.harden.specs.Hardening.{pair_score, hard_pair, hard_bit}

-- ---- -1 - y is a number of the width of y
same_mag : (y : ℤ) → mag (negsuc 0 -ℤ y) ≡ mag y
same_mag (pos zero) = refl
same_mag (pos (suc n)) = omega arith
same_mag (negsuc n) = ap mag (by_parts (negsuc 0 -ℤ negsuc n) (pos n) (omega (arith, +ℤ_parts (negsuc 0) (pos (suc n)))))

pub complement_fits : {w : Width} {y : ℤ} → SFits w y → SFits w (negsuc 0 -ℤ y)
complement_fits {w} {y} f = record { sfits = rw (same_mag y) f.sfits }

-- ---- a test as a byte
byte : (t : Bool) → bool_byte t ≡ cond t 1 0
byte true = refl
byte false = refl

not_byte : (t : Bool) → bool_byte (not t) ≡ cond t 0 1
not_byte true = refl
not_byte false = refl

le_not : (x y : ℤ) → le_z x y ≡ not (lt_z y x)
le_not x y = by (lt_z y x) refl
  where
    by : (t : Bool) → lt_z y x ≡ t → le_z x y ≡ not t
    by true e = lt_le_z x y (lt_z_true y x e)
    by false e = le_le_z x y (lt_z_false y x e)

-- ---- the pair
below_4 : (P : ℕ → Type 0) → P 0 → P 1 → P 2 → P 3 → (k : ℕ) → k < 4 → P k
below_4 P a b c d zero l = a
below_4 P a b c d (suc zero) l = b
below_4 P a b c d (suc (suc zero)) l = c
below_4 P a b c d (suc (suc (suc zero))) l = d
below_4 P a b c d (suc (suc (suc (suc k)))) l = absurd (omega arith)

module _ (x y : ℤ) where
  score : ℕ → ℤ
  score = pair_score (x +j y)

  -- pair m wins over pair k
  abbrev Wins : ℕ → ℕ → Type 0
  Wins m k = (le_z (score k) (score m) ≡ true) × (k < m → lt_z (score k) (score m) ≡ true)

  earlier : (m k : ℕ) → pos_part (score k) + neg_part (score m) < pos_part (score m) + neg_part (score k) → Wins m k
  earlier m k h = (le_le_z (score k) (score m) (omega arith), λ l. lt_lt_z (score k) (score m) h)

  later : (m k : ℕ) → m ≤ k → pos_part (score k) + neg_part (score m) ≤ pos_part (score m) + neg_part (score k) → Wins m k
  later m k g h = (le_le_z (score k) (score m) h, λ l. absurd (omega arith))

  wins : (m : ℕ) → m < 4 → Wins m 0 → Wins m 1 → Wins m 2 → Wins m 3 → hard_pair (x +j y) ≡ m
  unfolding hard_pair score
  wins m h a b c d =
      let all = below_4 (Wins m) a b c d in
      peaks_is score 4 (record { at = m; value = score m })
      (record { below = h; own = refl; largest = λ k l. (all k l).0; earliest = λ k l. let g : k < 4 = omega arith in (all k g).1 l })

  -- the parts of the numbers that are compared
  abbrev Parts : Type 0
  Parts =
      (pos_part (neg_ℤ x) ≡ neg_part x) × (neg_part (neg_ℤ x) ≡ pos_part x) × (pos_part (neg_ℤ y) ≡ neg_part y) × (neg_part (neg_ℤ y) ≡ pos_part y)
      × (pos_part (negsuc 0 -ℤ y) + (1 + pos_part y) ≡ neg_part y + neg_part (negsuc 0 -ℤ y))

  parts : Parts
  parts = (
    negℤ_pos_part x,
    negℤ_neg_part x,
    negℤ_pos_part y,
    negℤ_neg_part y,
    omega (arith, +ℤ_parts (negsuc 0) (neg_ℤ y), negℤ_pos_part y, negℤ_neg_part y),
  )

  -- by whether x + y is at least 0, and whether x is above y
  pair_is : (s t : Bool) → lt_z (negsuc 0 -ℤ y) x ≡ s → lt_z y x ≡ t → hard_pair (x +j y) ≡ 2 * cond s 0 1 + cond t 1 0
  unfolding score pair_score
  pair_is true true e f =
      let h = lt_z_true (negsuc 0 -ℤ y) x e in
      let g = lt_z_true y x f in
      wins 1 (omega arith) (earlier 1 0 (omega (arith, parts))) (later 1 1 (omega arith) (omega arith)) (later 1 2 (omega arith) (omega (arith, parts))) (later 1 3 (omega arith) (omega (arith, parts)))
  pair_is true false e f =
      let h = lt_z_true (negsuc 0 -ℤ y) x e in
      let g = lt_z_false y x f in
      wins 0 (omega arith) (later 0 0 (omega arith) (omega arith)) (later 0 1 (omega arith) (omega (arith, parts))) (later 0 2 (omega arith) (omega (arith, parts))) (later 0 3 (omega arith) (omega (arith, parts)))
  pair_is false true e f =
      let h = lt_z_false (negsuc 0 -ℤ y) x e in
      let g = lt_z_true y x f in
      wins 3 (omega arith) (earlier 3 0 (omega (arith, parts))) (earlier 3 1 (omega (arith, parts))) (earlier 3 2 (omega (arith, parts))) (later 3 3 (omega arith) (omega arith))
  pair_is false false e f =
      let h = lt_z_false (negsuc 0 -ℤ y) x e in
      let g = lt_z_false y x f in
      wins 2 (omega arith) (earlier 2 0 (omega (arith, parts))) (earlier 2 1 (omega (arith, parts))) (later 2 2 (omega arith) (omega arith)) (later 2 3 (omega arith) (omega (arith, parts)))

  at_most_1 : (t : Bool) → cond t 1 0 ≤ 1
  at_most_1 true = omega arith
  at_most_1 false = omega arith

  pub first_is : (s : Bool) → lt_z (negsuc 0 -ℤ y) x ≡ s → cond s 0 1 ≡ hard_pair (x +j y) / 2
  first_is s e = omega (arith, pair_is s (lt_z y x) e refl, at_most_1 (lt_z y x))

  pub second_is : (t : Bool) → lt_z y x ≡ t → cond t 1 0 ≡ hard_pair (x +j y) % 2
  second_is t e = omega (arith, pair_is (lt_z (negsuc 0 -ℤ y) x) t refl e, at_most_1 t)

  -- the same of the bytes that the code makes of its comparisons
  pub first_byte : bool_byte (le_z x (negsuc 0 -ℤ y)) ≡ hard_pair (x +j y) / 2
  first_byte = let s = lt_z (negsuc 0 -ℤ y) x in ap bool_byte (le_not x (negsuc 0 -ℤ y)) ∙ not_byte s ∙ first_is s refl

  pub second_byte : bool_byte (lt_z y x) ≡ hard_pair (x +j y) % 2
  second_byte = let t = lt_z y x in byte t ∙ second_is t refl

-- the two bits of reading n
module _ (y : ℕ → Complex) (n : ℕ) where
  pub first_bit : hard_pair (y n) / 2 ≡ hard_bit y (2 * n)
  unfolding hard_bit
  first_bit =
      let e : 2 * n % 2 ≡ 0 = omega arith in
      let d : 2 * n / 2 ≡ n = omega arith in
      rw (e, d)

  pub second_bit : hard_pair (y n) % 2 ≡ hard_bit y (2 * n + 1)
  unfolding hard_bit
  second_bit =
      let e : (2 * n + 1) % 2 ≡ 1 = omega arith in
      let d : (2 * n + 1) / 2 ≡ n = omega arith in
      rw (e, d)
