-- The table of pairs as `set_bits` writes it, entry by entry. Assumes nothing.
use mathlib.Core.Path.{◌≡◌, refl, sym, ap, ◌∙◌}
use mathlib.Core.Bool.{◌&&◌, cond}
use mathlib.Core.List.{List}
use Prim.Native.Nat.{ℕ, ◌+◌, ◌*◌, ◌-◌, ◌/◌, ◌%◌, ◌<◌, ◌≤◌}
use native.Mathlib.Decide.{ℕ_discrete, dec_lt}
use native.Mathlib.Nat.{div-lt_iff_lt-mul, le-div_iff_mul-le}
use native.Mathlib.Omega.{arith}
use borrow.Author.Tests.{eq-eqb, ne_eqb, le-leb, lt-leb, le-ltb, lt-ltb}
use lib.Arith.{digits_div, digits_mod}
use lib.Dec.{eqb, leb, ltb}
use lib.ListN.{length, get_or, set}
use lib.Seq.{ext_get_or, get_or-set_same, get_or-set_other}
use Rattle.complex.specs.Buffers.{listed}
use Rattle.complex.proofs.Lists.{length_listed, listed_at}
use Rattle.tables.specs.PairChanges.{with_part}

-- entry i of the new pairs is r i of the old entry
pub record Became (r : ℕ → ℕ → ℕ) (old new : List ℕ) : Type 0 where
  pub at : (i : ℕ) → i < 2208 → get_or new i 0 ≡ r i (get_or old i 0)

-- a list is known by its length and its entries
pub all_entries : {r : ℕ → ℕ → ℕ} {old new : List ℕ} → length new ≡ 2208 → Became r old new → new ≡ listed 2208 (λ i. r i (get_or old i 0))
all_entries {r} {old} {new} e b =
    ext_get_or 0 new _ (e ∙ sym (length_listed _ 2208))
    (λ i l. let m : i < 2208 = omega arith in b.at i m ∙ sym (listed_at (λ i. r i (get_or old i 0)) 0 2208 i m))

-- ---- a pass from the first entry on: the entries before n became g of the old ones
module _ (g : ℕ → ℕ → ℕ) where
  unfoldable pub passed : ℕ → ℕ → ℕ → ℕ
  passed n i x = cond (ltb i n) (g i x) x

  pub none_passed : (old : List ℕ) → Became (passed 0) old old
  unfolding passed
  none_passed old = record { at = λ i l. rw (le-ltb i 0 (omega arith)) }

  pub one_more_passed : (n : ℕ) {old new : List ℕ} {x : ℕ} → n < 2208 → length new ≡ 2208 → x ≡ g n (get_or new n 0) → Became (passed n) old new
      → Became (passed (n + 1)) old (set new n x)
  unfolding passed
  one_more_passed n {old} {new} {x} l len e b = record { at = λ i m. go i m (ℕ_discrete i n) (dec_lt i n) }
    where
      go : (i : ℕ) → i < 2208 → Dec (i ≡ n) → Dec (i < n) → get_or (set new n x) i 0 ≡ passed (n + 1) i (get_or old i 0)
      go i m (yes p) _ = rw (p, get_or-set_same new n x 0 (rw len l), e, b.at n l, le-ltb n n (omega arith), lt-ltb n (n + 1) (omega arith))
      go i m (no p) (yes h) = get_or-set_other new n i x 0 p ∙ b.at i m ∙ rw (lt-ltb i n h, lt-ltb i (n + 1) (omega arith))
      go i m (no p) (no h) = get_or-set_other new n i x 0 p ∙ b.at i m ∙ rw (le-ltb i n (omega arith), le-ltb i (n + 1) (omega arith))

  pub all_passed : {old new : List ℕ} → Became (passed 2208) old new → Became g old new
  unfolding passed
  all_passed b = record { at = λ i l. b.at i l ∙ rw (lt-ltb i 2208 l) }

-- ---- a part: the w entries from `at` on become f 0, f 1, ..
module _ (at : ℕ) (f : ℕ → ℕ) where
  unfoldable pub part : ℕ → ℕ → ℕ → ℕ
  part w i x = cond (leb at i && ltb i (at + w)) (f (i - at)) x

  module _ (w i x : ℕ) where
    before_part : i < at → part w i x ≡ x
    unfolding part
    before_part l = rw (lt-leb at i l)

    in_part : at ≤ i → i < at + w → part w i x ≡ f (i - at)
    unfolding part
    in_part l m = rw (le-leb at i l, lt-ltb i (at + w) m)

    past_part : at + w ≤ i → part w i x ≡ x
    unfolding part
    past_part l = rw (le-leb at i (omega arith), le-ltb i (at + w) l)

  pub no_part : (old : List ℕ) → Became (part 0) old old
  no_part old = record { at = λ i _. go i (get_or old i 0) (dec_lt i at) }
    where
      go : (i x : ℕ) → Dec (i < at) → x ≡ part 0 i x
      go i x (yes l) = sym (before_part 0 i x l)
      go i x (no l) = sym (past_part 0 i x (omega arith))

  pub one_more_in_part : (w : ℕ) {old new : List ℕ} → at + w < length new → Became (part w) old new → Became (part (w + 1)) old (set new (at + w) (f w))
  unfolding part
  one_more_in_part w {old} {new} l b = record { at = λ i m. go i (get_or old i 0) (b.at i m) (ℕ_discrete i (at + w)) (dec_lt i (at + w)) }
    where
      go : (i x : ℕ) → get_or new i 0 ≡ part w i x → Dec (i ≡ at + w) → Dec (i < at + w) → get_or (set new (at + w) (f w)) i 0 ≡ part (w + 1) i x
      go i x h (yes e) _ =
          let n : w ≡ i - at = omega arith in
          ap (λ (j : ℕ). get_or (set new (at + w) (f w)) j 0) e ∙ get_or-set_same new (at + w) (f w) 0 l ∙ ap f n
          ∙ sym (in_part (w + 1) i x (omega arith) (omega arith))
      go i x h (no e) (yes m) = get_or-set_other new (at + w) i (f w) 0 e ∙ h ∙ rw (lt-ltb i (at + w) m, lt-ltb i (at + (w + 1)) (omega arith))
      go i x h (no e) (no m) = get_or-set_other new (at + w) i (f w) 0 e ∙ h ∙ past_part w i x (omega arith) ∙ sym (past_part (w + 1) i x (omega arith))

-- ---- block by block of sixteen entries: w of each, from entry k w on, become f 0, f 1, .. on through the blocks
module _ (w k : ℕ) (f : ℕ → ℕ) where
  -- an entry, in every block
  abbrev own : ℕ → ℕ → ℕ
  own i x = cond (eqb (i % 16 / w) k) (f (i / 16 * w + i % 16 % w)) x

  -- an entry, in the first m blocks
  unfoldable pub blocks : ℕ → ℕ → ℕ → ℕ
  blocks m = passed own (16 * m)

  pub no_block : (old : List ℕ) → Became (blocks 0) old old
  unfolding blocks
  no_block = none_passed own

  -- block m has one part
  module _ (m : ℕ) where
    abbrev start : ℕ
    start = 16 * m + k * w

    abbrev next : ℕ → ℕ
    next j = f (m * w + j)

    module _ (some : 0 < w) (i x : ℕ) where
      in_block : 16 * m ≤ i → i < 16 * m + 16 → part start next w i x ≡ own i x
      in_block l h = go (dec_lt i start) (dec_lt i (start + w))
        where
          go : Dec (i < start) → Dec (i < start + w) → part start next w i x ≡ own i x
          go (yes a) b =
              let d : i % 16 / w < k = (div-lt_iff_lt-mul some).1 (omega arith) in
              rw (ne_eqb (i % 16 / w) k (λ e. omega arith)) (before_part start next w i x a)
          go (no a) (yes b) =
              let j = i - start in
              let e : i % 16 ≡ k * w + j = omega arith in
              let n : i / 16 ≡ m = omega arith in
              in_part start next w i x (omega arith) b
              ∙ sym (rw (e, n, digits_div k {m = w} {r = j} (omega arith), digits_mod k {m = w} {r = j} (omega arith), eq-eqb k k refl))
          go (no a) (no b) =
              let d : k + 1 ≤ i % 16 / w = (le-div_iff_mul-le some).1 (omega arith) in
              rw (ne_eqb (i % 16 / w) k (λ e. omega arith)) (past_part start next w i x (omega arith))

      one_more : k * w + w ≤ 16 → part start next w i (blocks m i x) ≡ blocks (m + 1) i x
      unfolding blocks passed
      one_more fits = go (dec_lt i (16 * m)) (dec_lt i (16 * (m + 1)))
        where
          go : Dec (i < 16 * m) → Dec (i < 16 * (m + 1)) → part start next w i (blocks m i x) ≡ blocks (m + 1) i x
          go (yes a) b = rw (lt-ltb i (16 * m) a, lt-ltb i (16 * (m + 1)) (omega arith)) (before_part start next w i _ (omega arith))
          go (no a) (yes b) = rw (le-ltb i (16 * m) (omega arith), lt-ltb i (16 * (m + 1)) b) (in_block (omega arith) (omega arith))
          go (no a) (no b) = rw (le-ltb i (16 * m) (omega arith), le-ltb i (16 * (m + 1)) (omega arith)) (past_part start next w i x (omega arith))

    pub one_more_block : {old new : List ℕ} → 0 < w → k * w + w ≤ 16 → Became (blocks m) old new
        → let new' = with_part new (16 * m + k * w) w (λ j. f (m * w + j)) in (length new' ≡ 2208) × Became (blocks (m + 1)) old new'
    unfolding with_part part
    one_more_block {old} some fits b = (
      length_listed _ 2208,
      record { at = λ i l. listed_at _ 0 2208 i l ∙ ap (part start next w i) (b.at i l) ∙ one_more some i (get_or old i 0) fits },
    )

  pub all_blocks : {old new : List ℕ} → Became (blocks 138) old new → Became own old new
  unfolding blocks
  all_blocks = all_passed own
