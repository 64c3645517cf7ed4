-- What a sync burst correlates to with each sync code, and so its score: a number above 0 times how far the sent codes and units
-- agree with the candidate's. Assumes nothing.
use mathlib.Core.Path.{◌≡◌, refl, sym, ap, ap₂, ◌∙◌}
use mathlib.Core.Bool.{Bool, true, false, cond}
use Prim.Native.Nat.compare
use Prim.Native.Nat.{ℕ, suc, ◌*◌, ◌<◌}
use lib.Dec.{T, eqb}
use lib.IntN.{ℤ, pos, ◌+ℤ◌, ◌*ℤ◌, zero-*ℤ, neg_ℤ-neg_ℤ}
use Rattle.complex.specs.declared.Complex.{Complex}
use Rattle.complex.specs.Arithmetic.{real, ◌⊕◌, ◌⊗◌, conj}
use Rattle.complex.proofs.Integers.{ring, *ℤ_negℤ, *ℤ_+ℤ}
use Rattle.complex.proofs.Ring.{real_zero, products, ⊗-assoc, ⊕-⊗, ⊗-⊕, ⊗-𝟎, ⊕-𝟎, 𝟎-⊕, conj-⊗, conj_real, real_*ℤ, real-⊗}
use Rattle.complex.proofs.Sums.{Σ_cong, Σ-⊕, ⊗-Σ}
use Rattle.codes.specs.declared.ModulatedCode.{ModulatedCode}
use Rattle.codes.specs.declared.Allocated.{Allocated}
use Rattle.codes.specs.SyncCodes.{Cp}
use Rattle.codes.specs.Burst.{secondaries}
use Rattle.codes.proofs.Allocations.{Known, AllKnown}
use Rattle.analyser_parts.specs.Correlation.{correlation, S, P}
use Rattle.read_sync.specs.SyncReading.{share, total_share}
use Rattle.demands.proofs.SyncOrthogonality.{sync_code, has_code, equal_512, orthogonal}

-- ---- a correlation is linear in the chips
module _ (code : ℕ → Complex) where
  pub correlation_cong : (x y : ℕ → Complex) → ((n : ℕ) → n < 256 → x n ≡ y n) → correlation x code ≡ correlation y code
  unfolding correlation
  correlation_cong x y h = Σ_cong 256 _ (λ n. y n ⊗ conj (code n)) (λ n l. rw (h n l))

  correlation-⊕ : (x y : ℕ → Complex) → correlation (λ n. x n ⊕ y n) code ≡ correlation x code ⊕ correlation y code
  unfolding correlation
  correlation-⊕ x y =
      Σ_cong 256 _ (λ n. x n ⊗ conj (code n) ⊕ y n ⊗ conj (code n)) (λ n l. ⊕-⊗ (x n) (y n) (conj (code n)))
      ∙ Σ-⊕ 256 (λ n. x n ⊗ conj (code n)) (λ n. y n ⊗ conj (code n))

  correlation-⊗ : (k : Complex) (x : ℕ → Complex) → correlation (λ n. k ⊗ x n) code ≡ k ⊗ correlation x code
  unfolding correlation
  correlation-⊗ k x =
      Σ_cong 256 _ (λ n. k ⊗ (x n ⊗ conj (code n))) (λ n l. ⊗-assoc k (x n) (conj (code n)))
      ∙ sym (⊗-Σ 256 (λ n. x n ⊗ conj (code n)) k)

-- ---- how far sent codes and units agree: 1 for each code that both have with one unit
unfoldable pub along : Complex → Complex → ℤ
along u v = u.re *ℤ v.re +ℤ u.im *ℤ v.im

unfoldable pub match : ModulatedCode → ModulatedCode → ℤ
match m n = cond (eqb m.code n.code) (along m.unit n.unit) (pos 0)

unfoldable pub heard : Allocated → ModulatedCode → ℤ
heard s n = match s.first n +ℤ match s.second n +ℤ match s.marker n

unfoldable pub agreement : Allocated → Allocated → ℤ
agreement s t = heard s t.first +ℤ heard s t.second +ℤ heard s t.marker

-- ---- a product and its real part
arrange : (x y z u p q g : Complex) → ((g ⊗ (x ⊕ y ⊕ z)) ⊗ u) ⊗ (p ⊗ q) ≡ (g ⊗ (p ⊗ q)) ⊗ (x ⊗ u ⊕ y ⊗ u ⊕ z ⊗ u)
arrange x y z u p q g = simp (⊗-⊕, ⊕-⊗, products)

middle_first : (u w v : Complex) → (u ⊗ w) ⊗ v ≡ w ⊗ (u ⊗ v)
middle_first u w v = simp products

re_of : (u v : Complex) → (u ⊗ conj v).re ≡ along u v
unfolding ◌⊗◌ conj along
re_of u v = simp (*ℤ_negℤ, neg_ℤ-neg_ℤ)

equal_512_times : (c : Bool) (x : ℤ) → cond c (pos 512) (pos 0) *ℤ x ≡ pos 512 *ℤ cond c x (pos 0)
equal_512_times true x = refl
equal_512_times false x = zero-*ℤ x

gather : (k w x y z : ℤ) → k *ℤ (w *ℤ x +ℤ w *ℤ y +ℤ w *ℤ z) ≡ (k *ℤ w) *ℤ (x +ℤ y +ℤ z)
gather k w x y z = simp ring

-- the chips of a burst with these codes
unfoldable pub chips : ℕ → ℕ → Allocated → ℕ → Complex
chips g_p g_s s n = real (pos g_p) ⊗ Cp n ⊕ real (pos g_s) ⊗ secondaries s n

-- the number that every score of the burst is a multiple of
abbrev pub scale : ℕ → ℕ → ℕ
scale g_p g_s = g_s * (g_p * 512) * 512

module _ (g_p g_s : ℕ) (s : Allocated) (c : AllKnown s) where
  by_codes : (y : ℕ) → T (has_code y) → correlation (chips g_p g_s s) (sync_code y)
      ≡ real (pos g_p) ⊗ real (equal_512 0 y)
      ⊕ real (pos g_s) ⊗ (s.first.unit ⊗ real (equal_512 (suc s.first.code) y) ⊕ s.second.unit ⊗ real (equal_512 (suc s.second.code) y) ⊕ s.marker.unit ⊗ real (equal_512 (suc s.marker.code) y))
  unfolding chips secondaries
  by_codes y t =
      simp (correlation-⊕, correlation-⊗)
      (rw (
        orthogonal 0 y tt t,
        orthogonal (suc s.first.code) y c.first.listed t,
        orthogonal (suc s.second.code) y c.second.listed t,
        orthogonal (suc s.marker.code) y c.marker.listed t,
      ))

  primary : P (chips g_p g_s s) ≡ real (pos g_p) ⊗ real (pos 512)
  primary = by_codes 0 tt ∙ simp (compare.suc-zero, real_zero, ⊗-𝟎, ⊕-𝟎)

  module _ (m : ModulatedCode) (t : Known m) where
    -- what the code is heard with
    part : ModulatedCode → Complex
    part n = n.unit ⊗ real (equal_512 n.code m.code)

    secondary : S (chips g_p g_s s) m.code ≡ real (pos g_s) ⊗ (part s.first ⊕ part s.second ⊕ part s.marker)
    unfolding part
    secondary = by_codes (suc m.code) t.listed ∙ simp (compare.zero-suc, compare.suc-suc, real_zero, ⊗-𝟎, 𝟎-⊕)

    by_match : (n : ModulatedCode) → (part n ⊗ conj m.unit).re ≡ pos 512 *ℤ match n m
    unfolding part match
    by_match n =
        ap (λ (x : Complex). x.re) (middle_first n.unit (real (equal_512 n.code m.code)) (conj m.unit) ∙ real-⊗ (equal_512 n.code m.code) (n.unit ⊗ conj m.unit))
        ∙ ap (λ (x : ℤ). equal_512 n.code m.code *ℤ x) (re_of n.unit m.unit)
        ∙ equal_512_times (eqb n.code m.code) (along n.unit m.unit)

    whole : S (chips g_p g_s s) m.code ⊗ conj m.unit ⊗ conj (P (chips g_p g_s s))
        ≡ real (pos (g_s * (g_p * 512))) ⊗ (part s.first ⊗ conj m.unit ⊕ part s.second ⊗ conj m.unit ⊕ part s.marker ⊗ conj m.unit)
    whole =
        rw (secondary, primary, conj-⊗, conj_real (pos g_p), conj_real (pos 512), arrange)
        (rw (← (real_*ℤ (pos g_p) (pos 512)), ← (real_*ℤ (pos g_s) (pos (g_p * 512)))))

    share_heard : share (chips g_p g_s s) m ≡ pos (scale g_p g_s) *ℤ heard s m
    unfolding share ◌⊕◌ heard
    share_heard =
        ap (λ (x : Complex). x.re) (whole ∙ real-⊗ (pos (g_s * (g_p * 512))) _)
        ∙ ap (λ (x : ℤ). pos (g_s * (g_p * 512)) *ℤ x) (ap₂ ◌+ℤ◌ (ap₂ ◌+ℤ◌ (by_match s.first) (by_match s.second)) (by_match s.marker))
        ∙ gather (pos (g_s * (g_p * 512))) (pos 512) (match s.first m) (match s.second m) (match s.marker m)

  pub score_of : (t : Allocated) → AllKnown t → total_share (chips g_p g_s s) t ≡ pos (scale g_p g_s) *ℤ agreement s t
  unfolding agreement
  score_of t d = rw (share_heard t.first d.first, share_heard t.second d.second, share_heard t.marker d.marker) (simp (*ℤ_+ℤ))
