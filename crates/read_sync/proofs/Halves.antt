-- The sums of each 16 chips with the signs of a and b, from two sums of eight. The difference is b's last eight signs, which the code has in this form
-- alone: `negated_test` holds it to the rows of `codes`. Assumes nothing.
use mathlib.Core.Path.{◌≡◌, refl, sym, ap, ap₂, ◌∙◌}
use mathlib.Core.Bool.{Bool, ◌&&◌}
use mathlib.Core.List.{List}
use Prim.Native.Nat.{ℕ, zero, suc, ◌+◌, ◌*◌, ◌<◌}
use native.Mathlib.Nat.{zero-add}
use native.Mathlib.Omega.{arith}
use mir.Facts.{and_yes}
use lib.Dec.{T}
use lib.IntN.{ℤ, pos, neg_ℤ, ◌+ℤ◌, ◌-ℤ◌, ◌*ℤ◌, +ℤ_assoc, +ℤ_idr}
use lib.ListN.{get_or}
use Rattle.complex.specs.Arithmetic.{Σℤ<}
use Rattle.complex.specs.Fits.{Within, Bound}
use Rattle.complex.proofs.Components.{within_Σℤ}
use Rattle.complex.proofs.Integers.{ring, negℤ_*ℤ}
use Rattle.complex.proofs.Sizes.{within_more, within_mul}
use Rattle.complex.proofs.Sums.{Σℤ_cong}
use Rattle.codes.specs.PackedSigns.{packed, sign_bit}
use Rattle.codes.specs.Range.{each}
use Rattle.codes.specs.SyncCodes.{a, b}
use Rattle.codes.proofs.Rows.{sign_within}
use Rattle.codes.proofs.Tests.{each_at, same, same→eq}
use mir.Syntax.{w32}
use mir.Val.{SFits, to_z, of_z}
use mir.Facts.{to_z-of_z}
use Rattle.complex.specs.Fits.{Within}
use Rattle.complex.proofs.Sizes.{fits_within}
use Rattle.analyser_parts.specs.PartSums.{signed_sum}
use Rattle.read_sync.specs.Shares.{half_sum, sum_with_signs}

-- a sum of m terms and of those after them
Σℤ_after : (m n : ℕ) (f : ℕ → ℤ) → Σℤ< (m + n) f ≡ Σℤ< m f +ℤ Σℤ< n (λ i. f (m + i))
unfolding Σℤ<
Σℤ_after m zero f = let e : m + 0 ≡ m = omega arith in rw e (sym (+ℤ_idr (Σℤ< m f)))
Σℤ_after m (suc n) f = let e : m + suc n ≡ suc (m + n) = omega arith in rw (e, Σℤ_after m n f, +ℤ_assoc)

Σℤ_negℤ : (n : ℕ) (f : ℕ → ℤ) → Σℤ< n (λ i. neg_ℤ (f i)) ≡ neg_ℤ (Σℤ< n f)
unfolding Σℤ<
Σℤ_negℤ zero f = refl
Σℤ_negℤ (suc n) f = rw (Σℤ_negℤ n f) (simp ring)

-- sixteen terms from the first entry on
pub whole_sum : (x : List ℤ) (row : ℕ) → sum_with_signs 16 x 0 row 0 ≡ signed_sum x 0 row
unfolding signed_sum
whole_sum x row =
    Σℤ_cong 16 (λ i. sign_bit row (0 + i) *ℤ get_or x (0 + i) (pos 0)) (λ i. sign_bit row i *ℤ get_or x (0 + i) (pos 0))
    (λ i l. ap (λ (k : ℕ). sign_bit row k *ℤ get_or x (0 + i) (pos 0)) (zero-add i))

-- a term, as the locals hold its factors: it fits, and which it is
pub term_held : {s t x : ℤ} → SFits w32 s → s ≡ t → Within 1 t → Within 1600000 x
    → SFits w32 (to_z w32 (of_z w32 s) *ℤ to_z w32 (of_z w32 x)) × (to_z w32 (of_z w32 (to_z w32 (of_z w32 s) *ℤ to_z w32 (of_z w32 x))) ≡ t *ℤ x)
term_held f e h k =
    let sign_is = to_z-of_z f ∙ e in
    let entry_is = to_z-of_z {w = w32} (fits_within k tt) in
    (rw (sign_is, entry_is) (fits_within (within_mul h k) tt), rw (sign_is, entry_is) (to_z-of_z {w = w32} (fits_within (within_mul h k) tt)))

-- the last eight signs of b are those of a, negated
negated : ℕ → Bool
negated i = same (sign_bit (packed b) i) (sign_bit (packed a) i) && same (sign_bit (packed b) (8 + i)) (neg_ℤ (sign_bit (packed a) (8 + i)))

negated_test : T (each 8 negated)
unfolding each negated same sign_bit
negated_test = tt

module _ (x : List ℤ) (from : ℕ) where
  term : ℕ → ℕ → ℤ
  term row i = sign_bit row i *ℤ get_or x (from + i) (pos 0)

  halves : (row : ℕ) → signed_sum x from row ≡ half_sum x from row 0 +ℤ half_sum x (from + 8) row 8
  unfolding signed_sum half_sum term
  halves row =
      Σℤ_after 8 8 (term row)
      ∙ ap₂ (λ (s t : ℤ). s +ℤ t)
      (Σℤ_cong 8 (term row) (λ i. sign_bit row (0 + i) *ℤ get_or x (from + i) (pos 0)) (λ i l. ap (λ (k : ℕ). sign_bit row k *ℤ get_or x (from + i) (pos 0)) (sym (zero-add i))))
      (Σℤ_cong 8 (λ i. term row (8 + i)) (λ i. sign_bit row (8 + i) *ℤ get_or x (from + 8 + i) (pos 0)) (λ i l. last i))
    where
      last : (i : ℕ) → term row (8 + i) ≡ sign_bit row (8 + i) *ℤ get_or x (from + 8 + i) (pos 0)
      last i = let d : from + (8 + i) ≡ from + 8 + i = omega arith in λ t. sign_bit row (8 + i) *ℤ get_or x (d t) (pos 0)

  pub by_a : signed_sum x from (packed a) ≡ half_sum x from (packed a) 0 +ℤ half_sum x (from + 8) (packed a) 8
  by_a = halves (packed a)

  pub by_b : signed_sum x from (packed b) ≡ half_sum x from (packed a) 0 -ℤ half_sum x (from + 8) (packed a) 8
  unfolding half_sum negated
  by_b =
      halves (packed b)
      ∙ ap₂ (λ (s t : ℤ). s +ℤ t)
      (Σℤ_cong 8 (λ i. sign_bit (packed b) (0 + i) *ℤ get_or x (from + i) (pos 0)) (λ i. sign_bit (packed a) (0 + i) *ℤ get_or x (from + i) (pos 0)) (λ i l. first i l))
      (Σℤ_cong 8 (λ i. sign_bit (packed b) (8 + i) *ℤ get_or x (from + 8 + i) (pos 0)) (λ i. neg_ℤ (sign_bit (packed a) (8 + i) *ℤ get_or x (from + 8 + i) (pos 0))) (λ i l. last i l)
      ∙ Σℤ_negℤ 8 (λ i. sign_bit (packed a) (8 + i) *ℤ get_or x (from + 8 + i) (pos 0)))
    where
      tests : (i : ℕ) → i < 8 → T (same (sign_bit (packed b) i) (sign_bit (packed a) i)) × T (same (sign_bit (packed b) (8 + i)) (neg_ℤ (sign_bit (packed a) (8 + i))))
      tests i l = let y = and_yes (same (sign_bit (packed b) i) (sign_bit (packed a) i)) _ (each_at 8 negated negated_test i l) in (y.0, y.1)

      first : (i : ℕ) → i < 8 → sign_bit (packed b) (0 + i) *ℤ get_or x (from + i) (pos 0) ≡ sign_bit (packed a) (0 + i) *ℤ get_or x (from + i) (pos 0)
      first i l =
          rw (zero-add i) (ap (λ (s : ℤ). s *ℤ get_or x (from + i) (pos 0)) (same→eq _ _ (tests i l).0))

      last : (i : ℕ) → i < 8 → sign_bit (packed b) (8 + i) *ℤ get_or x (from + 8 + i) (pos 0) ≡ neg_ℤ (sign_bit (packed a) (8 + i) *ℤ get_or x (from + 8 + i) (pos 0))
      last i l =
          ap (λ (s : ℤ). s *ℤ get_or x (from + 8 + i) (pos 0)) (same→eq _ _ (tests i l).1) ∙ negℤ_*ℤ (sign_bit (packed a) (8 + i)) (get_or x (from + 8 + i) (pos 0))

pub half_sum_within : {k : ℕ} {x : List ℤ} → Bound k x → (from row at : ℕ) → Within (8 * k) (half_sum x from row at)
unfolding half_sum
half_sum_within {k} h from row at = within_Σℤ k 8 _ (λ i l. within_more (within_mul (sign_within _ _) (h.at _)) k (omega arith))
