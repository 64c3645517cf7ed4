-- The tree seen from its leaves: how code (16, k 16/Q) begins is code (Q, k), and two codes are related exactly when their
-- intervals of leaves overlap. Each is a test over all 31 codes. Assumes nothing.
use mathlib.Core.Path.{◌≡◌, refl, sym, ap, ◌∙◌, subst}
use mathlib.Core.Logic.{◌≢◌}
use mathlib.Core.Bool.{Bool, true, false, ◌&&◌, ◌||◌, cond, and-false}
use Prim.Native.Nat.{ℕ, suc, ◌+◌, ◌*◌, ◌/◌, ◌%◌, ◌<◌, ◌≤◌}
use native.Mathlib.Nat.{div-add-mod', lt_of_not-le, mul-le-mul_left}
use native.Mathlib.Decide.{dec_le}
use native.Mathlib.Omega.{arith}
use borrow.Author.Tests.{le-ltb, lt-ltb}
use lib.Dec.{T, eqb, eqb→eq, leb, leb→le, lit≤, ltb, ltb→lt}
use lib.IntN.{pos, nat_abs}
use lib.ListN.{get_or, length, get_or-eq_default}
use Rattle.complex.specs.Fits.{Within}
use Rattle.complex.specs.Buffers.{◌at◌}
use Rattle.codes.specs.PackedSigns.{packed, sign_bit, leaf_rows}
use Rattle.codes.specs.Tree.{spreading_factors, is_spreading_factor, is_code, code, element, at_or_above, related, width, overlap}
use Rattle.codes.specs.Range.{each}
use Rattle.codes.proofs.Tests.{agree, agree→eq, each_at, same, same→eq, T_true, among_below, all_below}
use Rattle.codes.proofs.Rows.{leaf_read_back}

-- ---- a test of every code
unfoldable pub each_code : (ℕ → ℕ → Bool) → Bool
each_code f = each 17 (λ Q. cond (is_spreading_factor Q) (each Q (f Q)) true)

factor_below : (Q : ℕ) → T (is_spreading_factor Q) → Q < 17
unfolding all_below
factor_below Q t = among_below 17 Q spreading_factors tt t

pub at_code : (f : ℕ → ℕ → Bool) → T (each_code f) → (Q k : ℕ) → T (is_spreading_factor Q) → k < Q → T (f Q k)
unfolding each_code
at_code f t Q k q h =
    each_at Q (f Q)
    (subst (λ b. T (cond b (each Q (f Q)) true)) (T_true (is_spreading_factor Q) q)
    (each_at 17 (λ Q. cond (is_spreading_factor Q) (each Q (f Q)) true) t Q (factor_below Q q))) k h

-- ---- no such code
pub not_below : (Q k : ℕ) → Q ≤ k → is_code Q k ≡ false
not_below Q k h = rw (le-ltb k Q h) (and-false (is_spreading_factor Q))

pub not_factor : (Q k : ℕ) → is_spreading_factor Q ≡ false → is_code Q k ≡ false
not_factor Q k e = rw e

pub no_code : (Q k n : ℕ) → is_code Q k ≡ false → element Q k n ≡ pos 0
unfolding element ◌at◌
no_code Q k n e = rw e

lengths : ℕ → ℕ → Bool
lengths Q k = leb (length (code Q k)) Q

lengths_test : T (each_code lengths)
unfolding each_code lengths each
lengths_test = tt

within : (Q k n : ℕ) → Q ≤ n → T (is_spreading_factor Q) → k < Q → element Q k n ≡ pos 0
unfolding element ◌at◌ lengths
within Q k n h t l =
    let g : length (code Q k) ≤ Q = leb→le (length (code Q k)) Q (at_code lengths lengths_test Q k t l) in
    get_or-eq_default (code Q k) (pos 0) {n = n} (omega (arith, g))

-- a code has no element past Q
pub past_code : (Q k n : ℕ) → Q ≤ n → element Q k n ≡ pos 0
past_code Q k n h = go (is_spreading_factor Q) refl (dec_le Q k)
  where
    go : (b : Bool) → is_spreading_factor Q ≡ b → Dec (Q ≤ k) → element Q k n ≡ pos 0
    go false e d = no_code Q k n (not_factor Q k e)
    go true e (yes l) = no_code Q k n (not_below Q k l)
    go true e (no l) = within Q k n h (subst T (sym e) tt) (lt_of_not-le l)

pub no_code_element : (Q k n : ℕ) → Q ≤ k → element Q k n ≡ pos 0
no_code_element Q k n h = no_code Q k n (not_below Q k h)

-- an element's size
sizes : ℕ → ℕ → Bool
sizes Q k = each Q (λ n. leb (nat_abs (element Q k n)) 1)

sizes_test : T (each_code sizes)
unfolding each_code sizes each element ◌at◌
sizes_test = tt

pub element_within : (Q k n : ℕ) → Within 1 (element Q k n)
unfolding sizes
element_within Q k n = go (is_spreading_factor Q) refl (dec_le Q k) (dec_le Q n)
  where
    no_element : element Q k n ≡ pos 0 → Within 1 (element Q k n)
    no_element e = subst (Within 1) (sym e) (record { size = lit≤ tt })

    some_element : T (is_spreading_factor Q) → k < Q → n < Q → Within 1 (element Q k n)
    some_element t l m =
        record { size = leb→le (nat_abs (element Q k n)) 1 (each_at Q (λ n. leb (nat_abs (element Q k n)) 1) (at_code sizes sizes_test Q k t l) n m) }

    go : (b : Bool) → is_spreading_factor Q ≡ b → Dec (Q ≤ k) → Dec (Q ≤ n) → Within 1 (element Q k n)
    go false e d d' = no_element (no_code Q k n (not_factor Q k e))
    go true e (yes l) d' = no_element (no_code Q k n (not_below Q k l))
    go true e (no l) (yes m) = no_element (past_code Q k n m)
    go true e (no l) (no m) = some_element (subst T (sym e) tt) (lt_of_not-le l) (lt_of_not-le m)

-- Q is no factor exactly where the width is 0
widths_test : T (each 17 (λ Q. cond (is_spreading_factor Q) (ltb 0 (width Q)) true))
unfolding each
widths_test = tt

pub no_width : (Q : ℕ) → width Q ≡ 0 → is_spreading_factor Q ≡ false
no_width Q e = go (is_spreading_factor Q) refl
  where
    go : (b : Bool) → is_spreading_factor Q ≡ b → is_spreading_factor Q ≡ false
    go false f = f
    go true f =
        let t : T (is_spreading_factor Q) = subst T (sym f) tt in
        let h : 0 < width Q = ltb→lt 0 (width Q) (subst (λ b. T (cond b (ltb 0 (width Q)) true)) f (each_at 17 (λ Q. cond (is_spreading_factor Q) (ltb 0 (width Q)) true) widths_test Q (factor_below Q t))) in
        absurd (omega (arith, e, h))

pub some_width : (Q : ℕ) → (width Q ≡ 0 → ⊥) → is_spreading_factor Q ≡ true
some_width Q d = go (is_spreading_factor Q) refl
  where
    go : (b : Bool) → is_spreading_factor Q ≡ b → is_spreading_factor Q ≡ true
    go true f = f
    go false f = absurd (d (rw f))

pub no_factor_element : (Q k n : ℕ) → width Q ≡ 0 → element Q k n ≡ pos 0
no_factor_element Q k n e = no_code Q k n (not_factor Q k (no_width Q e))

-- ---- the leaves below a code
module _ (Q k : ℕ) (h : k < Q) where
  pub leaves_within : k * width Q + width Q ≤ 16
  leaves_within = go (is_spreading_factor Q)
    where
      e : 16 / Q * Q + 16 % Q ≡ 16
      e = div-add-mod' 16 Q

      m : 16 / Q * suc k ≤ 16 / Q * Q
      m = mul-le-mul_left (16 / Q) h

      go : (b : Bool) → k * cond b (16 / Q) 0 + cond b (16 / Q) 0 ≤ 16
      go true = omega (arith, e, m)
      go false = omega arith

begins : ℕ → ℕ → Bool
begins Q k = each Q (λ n. same (code 16 (k * width Q) at n) (element Q k n))

begins_test : T (each_code begins)
unfolding each_code begins each same element ◌at◌
begins_test = tt

pub begins_with : (Q k n : ℕ) → T (is_spreading_factor Q) → k < Q → n < Q → code 16 (k * width Q) at n ≡ element Q k n
unfolding begins
begins_with Q k n q h l =
    same→eq _ _ (each_at Q (λ n. same (code 16 (k * width Q) at n) (element Q k n)) (at_code begins begins_test Q k q h) n l)

rows_test : T (each 16 (λ x. eqb (get_or leaf_rows x 0) (packed (code 16 x))))
unfolding each
rows_test = tt

-- the code's row of a leaf, read back
pub leaf_row : (x : ℕ) → x < 16 → (n : ℕ) → sign_bit (get_or leaf_rows x 0) n ≡ code 16 x at n
leaf_row x h n =
    ap (λ (r : ℕ). sign_bit r n) (eqb→eq _ _ (each_at 16 (λ x. eqb (get_or leaf_rows x 0) (packed (code 16 x))) rows_test x h))
    ∙ leaf_read_back x h n

-- an element, read from the row of the first leaf below its code
pub element_row : (Q k n : ℕ) → width Q ≢ 0 → k < Q → n < Q → element Q k n ≡ sign_bit (get_or leaf_rows (k * width Q) 0) n
element_row Q k n d h l =
    let b : k * width Q + width Q ≤ 16 = leaves_within Q k h in
    sym (leaf_row (k * width Q) (omega (arith, b, d)) n ∙ begins_with Q k n (subst T (sym (some_width Q d)) tt) h l)

-- for `code_sign`
pub ruleset elements = (no_factor_element, no_code_element, past_code, element_row)

-- ---- related codes
pub overlap_if : (Q k Q' k' : ℕ) → k * width Q < k' * width Q' + width Q' → overlap Q k Q' k' ≡ ltb (k' * width Q') (k * width Q + width Q)
unfolding overlap
overlap_if Q k Q' k' h = rw (lt-ltb _ _ h)

pub no_first : (Q k Q' k' : ℕ) → Q ≤ k → related Q k Q' k' ≡ false
unfolding related
no_first Q k Q' k' h = rw (not_below Q k h)

pub no_second : (Q k Q' k' : ℕ) → Q' ≤ k' → related Q k Q' k' ≡ false
unfolding related
no_second Q k Q' k' h = rw (not_below Q' k' h, and-false (is_code Q k))

overlaps : ℕ → ℕ → Bool
overlaps Q k = each_code (λ Q' k'. agree (related Q k Q' k') (overlap Q k Q' k'))

overlaps_test : T (each_code overlaps)
unfolding each_code overlaps each agree related at_or_above overlap
overlaps_test = tt

among_codes : (Q k Q' k' : ℕ) → T (is_spreading_factor Q) → k < Q → T (is_spreading_factor Q') → k' < Q' → related Q k Q' k' ≡ overlap Q k Q' k'
unfolding overlaps
among_codes Q k Q' k' q h q' h' =
    agree→eq _ _ (at_code (λ Q' k'. agree (related Q k Q' k') (overlap Q k Q' k')) (at_code overlaps overlaps_test Q k q h) Q' k' q' h')

neither_first : (Q k Q' k' : ℕ) → is_spreading_factor Q ≡ false → related Q k Q' k' ≡ overlap Q k Q' k'
unfolding related overlap
neither_first Q k Q' k' e = rw e (sym (ap (λ t. ltb (k * 0) (k' * width Q' + width Q') && t) (le-ltb (k' * width Q') (k * 0 + 0) (omega arith)) ∙ and-false (ltb (k * 0) (k' * width Q' + width Q'))))

neither_second : (Q k Q' k' : ℕ) → is_spreading_factor Q' ≡ false → related Q k Q' k' ≡ overlap Q k Q' k'
unfolding related overlap
neither_second Q k Q' k' e = rw (e, le-ltb (k * width Q) (k' * 0 + 0) (omega arith)) (ap (λ t. t && (at_or_above Q k Q' k' || at_or_above Q' k' Q k)) (and-false (is_code Q k)))

-- two codes are related exactly when their intervals overlap; where Q or Q' is no spreading factor there is no code and no interval
pub related_overlap : (Q k Q' k' : ℕ) → k < Q → k' < Q' → related Q k Q' k' ≡ overlap Q k Q' k'
related_overlap Q k Q' k' h h' = go (is_spreading_factor Q) refl (is_spreading_factor Q') refl
  where
    go : (b : Bool) → is_spreading_factor Q ≡ b → (b' : Bool) → is_spreading_factor Q' ≡ b' → related Q k Q' k' ≡ overlap Q k Q' k'
    go false e b' e' = neither_first Q k Q' k' e
    go true e false e' = neither_second Q k Q' k' e'
    go true e true e' = among_codes Q k Q' k' (subst T (sym e) tt) h (subst T (sym e') tt) h'

-- for `is_related`
pub ruleset relations = (no_first, no_second, related_overlap, overlap_if)
