-- Unrelated codes share out the sixteen leaves of the tree, so there are at most sixteen of them. Assumes nothing.
use mathlib.Core.Path.{◌≡◌, sym, ap, ◌∙◌}
use mathlib.Core.Bool.{true, false, true≢false, ◌&&◌}
use mathlib.Core.Logic.{◌≢◌}
use Prim.Native.Nat.{ℕ, ◌+◌, ◌*◌, ◌/◌, ◌^◌, ◌<◌, ◌≤◌}
use native.Mathlib.Decide.{ℕ_discrete}
use native.Mathlib.Omega.{arith}
use borrow.Author.Tests.{lt-ltb}
use mir.Facts.{and_yes}
use lib.Dec.{T, lit<}
use Rattle.codes.specs.Range.{each}
use Rattle.codes.specs.Tree.{is_spreading_factor, is_code, related, at_or_above, level, width, overlap}
use Rattle.codes.proofs.Tests.{each_at, T_true}
use Rattle.codes.proofs.Factors.{of_factors}
use Rattle.codes.proofs.Leaves.{leaves_within, related_overlap}
use Rattle.orthogonality.specs.Gains.{Σℕ<}
use Rattle.orthogonality.proofs.Codes.{code_parts, factor_at, own_level}
use Rattle.orthogonality.proofs.Counting.{by_columns, pigeonhole}

-- ---- codes one after another
some_width : (Q : ℕ) → is_spreading_factor Q ≡ true → 0 < width Q
some_width = of_factors (λ Q. 0 < width Q) (lit< tt) (lit< tt) (lit< tt) (lit< tt) (lit< tt)

-- codes with the same first leaf are related
same_leaf : (Q k Q' k' : ℕ) → is_code Q k ≡ true → is_code Q' k' ≡ true → k * width Q ≡ k' * width Q' → related Q k Q' k' ≡ true
unfolding overlap
same_leaf Q k Q' k' c c' e =
    let p = code_parts Q k c in
    let p' = code_parts Q' k' c' in
    let w = some_width Q p.0 in
    let w' = some_width Q' p'.0 in
    related_overlap Q k Q' k' p.1 p'.1
    ∙ rw (lt-ltb (k * width Q) (k' * width Q' + width Q') (omega arith), lt-ltb (k' * width Q') (k * width Q + width Q) (omega arith))

-- n codes, each unrelated to those before it: their first leaves differ
module _ (n : ℕ) (Q k : ℕ → ℕ) (c : (i : ℕ) → i < n → is_code (Q i) (k i) ≡ true)
    (u : (i j : ℕ) → i < j → j < n → related (Q i) (k i) (Q j) (k j) ≡ false) where
  leaf : ℕ → ℕ
  leaf i = k i * width (Q i)

  leaf_below : (i : ℕ) → i < n → leaf i < 16
  unfolding leaf
  leaf_below i l =
      let p = code_parts (Q i) (k i) (c i l) in
      omega (arith, leaves_within (Q i) (k i) p.1, some_width (Q i) p.0)

  apart : (i j : ℕ) → i < j → j < n → leaf i ≢ leaf j
  unfolding leaf
  apart i j l h e = true≢false (sym (same_leaf (Q i) (k i) (Q j) (k j) (c i (omega arith)) (c j h) e) ∙ u i j l h)

  pub sixteen_codes : n ≤ 16
  sixteen_codes = pigeonhole n 16 leaf leaf_below apart

-- ---- a number at each code, 0 at all but unrelated ones
-- their sum over all codes, level by level
abbrev pub codes_sum : (ℕ → ℕ → ℕ) → ℕ
codes_sum f = Σℕ< 5 (λ l. Σℕ< (2 ^ l) (f (2 ^ l)))

-- the index of the code of level l above leaf x
above : ℕ → ℕ → ℕ
above l x = x / (16 / 2 ^ l)

above_test : T (each 5 (λ l. each 5 (λ m. each 16 (λ x. is_code (2 ^ l) (above l x) && related (2 ^ l) (above l x) (2 ^ m) (above m x)))))
unfolding each above related at_or_above
above_test = tt

module _ (l m x : ℕ) (h : l < 5) (h' : m < 5) (g : x < 16) where
  above_both : T (is_code (2 ^ l) (above l x)) × T (related (2 ^ l) (above l x) (2 ^ m) (above m x))
  above_both =
      and_yes (is_code (2 ^ l) (above l x)) (related (2 ^ l) (above l x) (2 ^ m) (above m x))
      (each_at 16 (λ x. is_code (2 ^ l) (above l x) && related (2 ^ l) (above l x) (2 ^ m) (above m x))
      (each_at 5 _ (each_at 5 _ above_test l h) m h') x g)

-- each code of factor Q lies above a leaf
level_le : (Q : ℕ) → is_spreading_factor Q ≡ true → (f : ℕ → ℕ) → Σℕ< Q f ≤ Σℕ< 16 (λ x. f (x / (16 / Q)))
unfolding Σℕ<
level_le =
    of_factors (λ Q. (f : ℕ → ℕ) → Σℕ< Q f ≤ Σℕ< 16 (λ x. f (x / (16 / Q))))
    (λ f. omega arith) (λ f. omega arith) (λ f. omega arith) (λ f. omega arith) (λ f. omega arith)

module _ (f : ℕ → ℕ → ℕ) (b : ℕ) (most : (Q k : ℕ) → is_code Q k ≡ true → f Q k ≤ b)
    (alone : (Q k Q' k' : ℕ) → is_code Q k ≡ true → is_code Q' k' ≡ true → f Q k ≢ 0 → f Q' k' ≢ 0 → related Q k Q' k' ≡ true → Q ≡ Q') where
  -- at each leaf, only one of the codes above it can have a number
  pub sixteen_times : codes_sum f ≤ 16 * b
  unfolding above
  sixteen_times =
      by_columns 5 16 b (λ l x. f (2 ^ l) (above l x)) (λ l. Σℕ< (2 ^ l) (f (2 ^ l)))
      (λ l h. level_le (2 ^ l) (factor_at l h) (f (2 ^ l)))
      (λ l x h g. most (2 ^ l) (above l x) (code l x h g))
      (λ l m x h h' g d o. other l m x h h' g d o (ℕ_discrete (f (2 ^ m) (above m x)) 0))
    where
      code : (l x : ℕ) → l < 5 → x < 16 → is_code (2 ^ l) (above l x) ≡ true
      code l x h g = T_true _ (above_both l l x h h g).0

      other : (l m x : ℕ) → l < 5 → m < 5 → x < 16 → l ≢ m → f (2 ^ l) (above l x) ≢ 0 → Dec (f (2 ^ m) (above m x) ≡ 0) → f (2 ^ m) (above m x) ≡ 0
      other l m x h h' g d o (yes e) = e
      other l m x h h' g d o (no o') =
          let r = T_true _ (above_both l m x h h' g).1 in
          let e : 2 ^ l ≡ 2 ^ m = alone (2 ^ l) (above l x) (2 ^ m) (above m x) (code l x h g) (code m x h' g) o o' r in
          absurd (d (sym (own_level l h) ∙ ap level e ∙ own_level m h'))
