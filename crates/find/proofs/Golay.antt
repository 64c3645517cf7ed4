-- The primary code is a Golay sequence: four steps of sums and differences make the correlation with it. The steps are the code itself: which terms
-- they add and which they take away are the signs of `a` and `a_signs`, and the laws here hold them to the rows of `codes`. Assumes nothing.
use mathlib.Core.Path.{◌≡◌, sym, ap, ◌∙◌, subst}
use mathlib.Core.List.{List}
use Prim.Native.Nat.{ℕ, ◌+◌, ◌*◌, ◌-◌, ◌<◌, ◌≤◌}
use native.Mathlib.Nat.{add-zero}
use native.Mathlib.Omega.{arith}
use lib.IntN.{ℤ, pos, negsuc, ◌+ℤ◌, ◌-ℤ◌, ◌*ℤ◌}
use lib.ListN.{get_or, length, take, drop}
use mir.Syntax.{w32}
use mir.Val.{SFits, to_z, of_z}
use mir.Facts.{to_z-of_z}
use lib.Seq.{get_or-append-add, get_or-drop, get_or-take}
use Rattle.complex.specs.Arithmetic.{Σℤ<, squared_size}
use Rattle.complex.specs.Buffers.{listed, value, written, ◌at◌}
use Rattle.complex.specs.Fits.{Within, Bound}
use Rattle.complex.proofs.Bounds.{bound_listed}
use Rattle.complex.proofs.Integers.{ring, negsuc_zero_*ℤ}
use Rattle.complex.proofs.Lists.{length_listed, listed_at, listed_cong, take_written}
use Rattle.complex.proofs.Sizes.{fits_within, within_add, within_sub}
use Rattle.complex.proofs.Sums.{Σℤ_cong}
use Rattle.codes.specs.PackedSigns.{packed, sign_bit}
use Rattle.codes.specs.SyncCodes.{a, a_signs}
use Rattle.analyser_parts.specs.PartSums.{primary_sum, signed_sum}
use Rattle.analyser_parts.proofs.Correlations.{primary_from}
use Rattle.analyser_parts.proofs.Products.{held}
use Rattle.find.specs.Finding.{size_from}
use Rattle.find.specs.PeakSearch.{four_of, size_of}

-- what a local holds that was read from a list
pub read_is : {z : ℤ} → Within 6400000 z → to_z w32 (of_z w32 z) ≡ z
read_is h = to_z-of_z {w = w32} (fits_within h tt)

pub read_within : {z : ℤ} → Within 6400000 z → Within 6400000 (to_z w32 (of_z w32 z))
read_within h = held (read_is h) h

-- ---- a step's sum of four, as the locals hold it: it fits, and which it is
abbrev local : ℤ → ℤ
local z = to_z w32 (of_z w32 z)

pub record Step (p q r s : ℤ) : Type 0 where
  pub sum : SFits w32 (local p +ℤ local q)
  pub difference : SFits w32 (local r -ℤ local s)
  pub whole : SFits w32 (local (local p +ℤ local q) +ℤ local (local r -ℤ local s))
  pub value : local (local (local p +ℤ local q) +ℤ local (local r -ℤ local s)) ≡ p +ℤ q +ℤ (r -ℤ s)

pub step : {p q r s : ℤ} → Within 6400000 p → Within 6400000 q → Within 6400000 r → Within 6400000 s → Step p q r s
step {p} {q} {r} {s} h g k l =
    let sum : SFits w32 (local p +ℤ local q) = rw (read_is h, read_is g) (fits_within (within_add h g) tt) in
    let difference : SFits w32 (local r -ℤ local s) = rw (read_is k, read_is l) (fits_within (within_sub k l) tt) in
    let sum_is : local (local p +ℤ local q) ≡ p +ℤ q = to_z-of_z sum ∙ (λ i. read_is h i +ℤ read_is g i) in
    let difference_is : local (local r -ℤ local s) ≡ r -ℤ s = to_z-of_z difference ∙ (λ i. read_is k i -ℤ read_is l i) in
    let whole : SFits w32 (local (local p +ℤ local q) +ℤ local (local r -ℤ local s)) = rw (sum_is, difference_is) (fits_within (within_add (within_add h g) (within_sub k l)) tt) in
    record { sum = sum; difference = difference; whole = whole; value = to_z-of_z whole ∙ (λ i. sum_is i +ℤ difference_is i) }

-- an entry past those written
past_written : (f : ℕ → ℤ) (d : List ℤ) (n k : ℕ) → n ≤ k → (written (listed n f) d) at k ≡ d at k
unfolding ◌at◌
past_written f d n k h =
    let e : length (listed n f) + (k - n) ≡ k = omega (arith, length_listed f n) in
    ap (◌at◌ (written (listed n f) d)) (sym e)
    ∙ get_or-append-add (listed n f) (drop (length (listed n f)) d) (k - n) (pos 0)
    ∙ get_or-drop (length (listed n f)) d (k - n) (pos 0)
    ∙ ap (◌at◌ d) e

pub kept : {y : List ℤ} (f : ℕ → ℤ) (d : List ℤ) (n : ℕ) → y ≡ written (listed n f) d → (k : ℕ) → n ≤ k → y at k ≡ d at k
kept f d n e k h = ap (λ (l : List ℤ). l at k) e ∙ past_written f d n k h

pub taken_within : (k n : ℕ) (d : List ℤ) → Bound k (take n d) → (i : ℕ) → i < n → Within k (d at i)
unfolding ◌at◌
taken_within k n d h i l = subst (Within k) (get_or-take n d i (pos 0) l) (h.at i)

-- ---- sums of four
pub four_within : {k : ℕ} {x : ℕ → ℤ} → ((i : ℕ) → Within k (x i)) → (a b c p : ℕ) → Within (k + k + (k + k)) (four_of x a b c p)
four_within h a b c p = within_add (within_add (h p) (h (p + a))) (within_sub (h (p + b)) (h (p + c)))

four_cong : {x y : ℕ → ℤ} (m : ℕ) → ((k : ℕ) → k < m → x k ≡ y k) → (a b c p : ℕ) → p + a < m → p + b < m → p + c < m → four_of x a b c p ≡ four_of y a b c p
four_cong m e a b c p f g h = let z : p < m = omega arith in λ i. e p z i +ℤ e (p + a) f i +ℤ (e (p + b) g i -ℤ e (p + c) h i)

-- the same from p on
shifted : (x : ℕ → ℤ) (a b c p j : ℕ) → four_of x a b c (p + j) ≡ four_of (λ i. x (p + i)) a b c j
shifted x a b c p j =
    let f : p + j + a ≡ p + (j + a) = omega arith in
    let g : p + j + b ≡ p + (j + b) = omega arith in
    let h : p + j + c ≡ p + (j + c) = omega arith in
    λ t. x (p + j) +ℤ x (f t) +ℤ (x (g t) -ℤ x (h t))

-- ---- the sequence a, and the signs with which the primary code repeats it
a_by_fours : (x : ℕ → ℤ) → four_of x 1 8 9 0 +ℤ four_of x 1 8 9 2 +ℤ (four_of x 1 8 9 4 -ℤ four_of x 1 8 9 6) ≡ Σℤ< 16 (λ i. sign_bit (packed a) i *ℤ x i)
unfolding Σℤ< sign_bit
a_by_fours x = by (x 0) (x 1) (x 2) (x 3) (x 4) (x 5) (x 6) (x 7) (x 8) (x 9) (x 10) (x 11) (x 12) (x 13) (x 14) (x 15)
  where
    by : (x0 x1 x2 x3 x4 x5 x6 x7 x8 x9 xa xb xc xd xe xf : ℤ)
        → (x0 +ℤ x1 +ℤ (x8 -ℤ x9)) +ℤ (x2 +ℤ x3 +ℤ (xa -ℤ xb)) +ℤ ((x4 +ℤ x5 +ℤ (xc -ℤ xd)) -ℤ (x6 +ℤ x7 +ℤ (xe -ℤ xf)))
        ≡ pos 0 +ℤ pos 1 *ℤ x0 +ℤ pos 1 *ℤ x1 +ℤ pos 1 *ℤ x2 +ℤ pos 1 *ℤ x3 +ℤ pos 1 *ℤ x4 +ℤ pos 1 *ℤ x5 +ℤ negsuc 0 *ℤ x6 +ℤ negsuc 0 *ℤ x7
        +ℤ pos 1 *ℤ x8 +ℤ negsuc 0 *ℤ x9 +ℤ pos 1 *ℤ xa +ℤ negsuc 0 *ℤ xb +ℤ pos 1 *ℤ xc +ℤ negsuc 0 *ℤ xd +ℤ negsuc 0 *ℤ xe +ℤ pos 1 *ℤ xf
    by x0 x1 x2 x3 x4 x5 x6 x7 x8 x9 xa xb xc xd xe xf = simp negsuc_zero_*ℤ (simp ring)

abbrev pub whole_of : (ℕ → ℤ) → (ℕ → ℤ) → ℕ → ℤ
whole_of u v p = u p +ℤ u (p + 128) +ℤ (v (p + 192) -ℤ v (p + 64))

signs_by_fours : (x : ℕ → ℤ) → (x 0 +ℤ x 2 +ℤ (x 1 -ℤ x 3)) +ℤ (x 8 +ℤ x 10 +ℤ (x 9 -ℤ x 11)) +ℤ ((x 12 +ℤ x 14 +ℤ (x 15 -ℤ x 13)) -ℤ (x 4 +ℤ x 6 +ℤ (x 7 -ℤ x 5))) ≡ Σℤ< 16 (λ m. sign_bit (packed a_signs) m *ℤ x m)
unfolding Σℤ< sign_bit
signs_by_fours x = by (x 0) (x 1) (x 2) (x 3) (x 4) (x 5) (x 6) (x 7) (x 8) (x 9) (x 10) (x 11) (x 12) (x 13) (x 14) (x 15)
  where
    by : (x0 x1 x2 x3 x4 x5 x6 x7 x8 x9 xa xb xc xd xe xf : ℤ)
        → (x0 +ℤ x2 +ℤ (x1 -ℤ x3)) +ℤ (x8 +ℤ xa +ℤ (x9 -ℤ xb)) +ℤ ((xc +ℤ xe +ℤ (xf -ℤ xd)) -ℤ (x4 +ℤ x6 +ℤ (x7 -ℤ x5)))
        ≡ pos 0 +ℤ pos 1 *ℤ x0 +ℤ pos 1 *ℤ x1 +ℤ pos 1 *ℤ x2 +ℤ negsuc 0 *ℤ x3 +ℤ negsuc 0 *ℤ x4 +ℤ pos 1 *ℤ x5 +ℤ negsuc 0 *ℤ x6 +ℤ negsuc 0 *ℤ x7
        +ℤ pos 1 *ℤ x8 +ℤ pos 1 *ℤ x9 +ℤ pos 1 *ℤ xa +ℤ negsuc 0 *ℤ xb +ℤ pos 1 *ℤ xc +ℤ negsuc 0 *ℤ xd +ℤ pos 1 *ℤ xe +ℤ pos 1 *ℤ xf
    by x0 x1 x2 x3 x4 x5 x6 x7 x8 x9 xa xb xc xd xe xf = simp negsuc_zero_*ℤ (simp ring)

-- ---- the steps
module _ (x : List ℤ) where
  abbrev pub step_1 : ℕ → ℤ
  step_1 = four_of (◌at◌ x) 1 8 9

  abbrev pub step_2 : ℕ → ℤ
  step_2 = four_of step_1 2 4 6

  abbrev pub plus_pairs : ℕ → ℤ
  plus_pairs = four_of step_2 32 16 48

  abbrev pub minus_pairs : ℕ → ℤ
  minus_pairs = four_of step_2 32 48 16

  sum_is : (p : ℕ) → step_2 p ≡ signed_sum x p (packed a)
  unfolding signed_sum ◌at◌
  sum_is p =
      let f = shifted (◌at◌ x) 1 8 9 p in
      (λ t. (ap step_1 (sym (add-zero p)) ∙ f 0) t +ℤ f 2 t +ℤ (f 4 t -ℤ f 6 t))
      ∙ a_by_fours (λ i. x at (p + i))

  correlation_is : (p : ℕ) → whole_of plus_pairs minus_pairs p ≡ primary_sum x p
  unfolding primary_sum
  correlation_is p =
      let u = shifted step_2 32 16 48 p in
      let v = shifted step_2 32 48 16 p in
      (λ t. (ap plus_pairs (sym (add-zero p)) ∙ u 0) t +ℤ u 128 t +ℤ (v 192 t -ℤ v 64 t))
      ∙ signs_by_fours (λ m. step_2 (p + m * 16))
      ∙ Σℤ_cong 16 (λ m. sign_bit (packed a_signs) m *ℤ step_2 (p + m * 16)) (λ m. sign_bit (packed a_signs) m *ℤ signed_sum x (p + m * 16) (packed a)) (λ m l. ap (λ (s : ℤ). sign_bit (packed a_signs) m *ℤ s) (sum_is (p + m * 16)))

-- ---- lists whose first m entries are those of f
pub entry_held : (l : List ℤ) (m : ℕ) (f : ℕ → ℤ) → take m l ≡ listed m f → (k : ℕ) → k < m → l at k ≡ f k
unfolding ◌at◌
entry_held l m f e k h = sym (get_or-take m l k (pos 0) h) ∙ ap (λ (z : List ℤ). get_or z k (pos 0)) e ∙ listed_at f (pos 0) m k h

pub bound_held : (l : List ℤ) (k m : ℕ) (f : ℕ → ℤ) → take m l ≡ listed m f → ((i : ℕ) → Within k (f i)) → Bound k (take m l)
bound_held l k m f e h = subst (Bound k) (sym e) (bound_listed k m f h)

written_held : {l : List ℤ} (m : ℕ) (f g : ℕ → ℤ) (d : List ℤ) → l ≡ written (listed m f) d → ((k : ℕ) → k < m → f k ≡ g k) → take m l ≡ listed m g
written_held m f g d e h = ap (take m) e ∙ take_written f d m ∙ listed_cong m f g h

-- a step from a list that holds x to one that holds its sums of four
pub four_held : {l : List ℤ} (m n : ℕ) (x y : ℕ → ℤ) (a b c : ℕ) (d : List ℤ) → a ≤ 48 → b ≤ 48 → c ≤ 48 → ((k : ℕ) → k < n → x k ≡ y k)
    → m + a ≤ n → m + b ≤ n → m + c ≤ n → l ≡ written (listed m (four_of x a b c)) d → take m l ≡ listed m (four_of y a b c)
four_held m n x y a b c d ha hb hc e f g h w = written_held m (four_of x a b c) (four_of y a b c) d w (λ k l. four_cong n e a b c k (omega arith) (omega arith) (omega arith))

pub whole_held : {l : List ℤ} (x : List ℤ) (m : ℕ) (u v : ℕ → ℤ) (d : List ℤ) → ((k : ℕ) → k < m + 192 → u k ≡ plus_pairs x k) → ((k : ℕ) → k < m + 192 → v k ≡ minus_pairs x k)
    → l ≡ written (listed m (whole_of u v)) d → take m l ≡ listed m (primary_sum x)
whole_held x m u v d f g w =
    written_held m (whole_of u v) (primary_sum x) d w
    (λ k l.
    let a : k < m + 192 = omega arith in
    let b : k + 128 < m + 192 = omega arith in
    let p : k + 192 < m + 192 = omega arith in
    let q : k + 64 < m + 192 = omega arith in
    (λ t. f k a t +ℤ f (k + 128) b t +ℤ (g (k + 192) p t -ℤ g (k + 64) q t)) ∙ correlation_is x k)

-- ---- sizes
pub primary_within : {x : List ℤ} → Bound 100000 x → (p : ℕ) → Within 25600000 (primary_sum x p)
unfolding ◌at◌
primary_within {x} h p =
    let one = four_within (λ i. h.at i) 1 8 9 in
    let two = four_within one 2 4 6 in
    let u = four_within two 32 16 48 in
    let v = four_within two 32 48 16 in
    subst (Within 25600000) (correlation_is x p) (within_add (within_add (u p) (u (p + 128))) (within_sub (v (p + 192)) (v (p + 64))))

-- the squared size of what the steps make from a start on is that of P
pub size_is : (re im : List ℤ) (start : ℕ) → size_of (primary_sum re start) (primary_sum im start) ≡ size_from (value re im) start
unfolding size_of size_from
size_is re im start = ap squared_size (primary_from re im start)
