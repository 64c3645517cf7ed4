-- The power of each sixteen data chips is sixteen times the sum of the squared gains. Assumes nothing.
use mathlib.Core.Path.{◌≡◌, refl, sym, ap, ◌∙◌}
use mathlib.Core.Bool.{true}
use mathlib.Core.Option.{Option, none, some}
use Prim.Native.Nat.{ℕ, zero, suc, ◌+◌, ◌*◌, ◌/◌, ◌%◌, ◌<◌}
use native.Mathlib.Numerals.{add-one}
use native.Mathlib.Omega.{arith}
use lib.IntN.{ℤ, pos, neg_ℤ, ◌+ℤ◌, ◌*ℤ◌, neg_ℤ-neg_ℤ, *ℤ_comm, +ℤ_invl}
use Rattle.complex.specs.declared.Complex.{Complex}
use Rattle.complex.specs.Arithmetic.{real, 𝟏, ◌⊕◌, ◌⊗◌, conj, Σ<, Σℤ<, squared_size}
use Rattle.complex.proofs.Integers.{*ℤ_negℤ}
use Rattle.complex.proofs.Ring.{real_zero, by_components, products, ⊗-assoc, 𝟎-⊗, ⊗-𝟎, 𝟏-⊗, ⊕-⊗, conj-⊗, conj_real, real_+ℤ, real_*ℤ}
use Rattle.complex.proofs.Sums.{Σ_cong, Σ_blocks, ⊗-Σ, real_Σ}
use Rattle.codes.specs.Scrambling.{scrambling_element}
use Rattle.codes.specs.Tree.{is_code, element}
use Rattle.modulation.specs.Symbols.{pair, symbol}
use Rattle.slot.specs.Setup.{ChannelSetup, Setup, is_some}
use Rattle.slot.specs.Slot.{over_codes, data_chip}
use Rattle.read.specs.Reading.{reading}
use Rattle.orthogonality.specs.Gains.{Σℕ<, squared_gain, squared_gains}
use Rattle.orthogonality.proofs.Blocks.{Blocks, blocks}
use Rattle.orthogonality.proofs.Codes.{code_parts, over_cong, ⊗-over, conj_over, Σ_over}
use Rattle.orthogonality.proofs.DataReadings.{gained, sent_symbol, data_spread, own_sent_symbol}
use Rattle.orthogonality.proofs.Spreading.{spread}
use Rattle.orthogonality.proofs.Units.{conj_zero, symbol_unit}
use Rattle.orthogonality.proofs.Unrelated.{Unrelated, EachOpen, Bits}

-- ---- numbers
real_power : (x : Complex) → real (squared_size x) ≡ x ⊗ conj x
unfolding real squared_size ◌⊗◌ conj
real_power x =
    by_components (simp (*ℤ_negℤ, neg_ℤ-neg_ℤ))
    (simp *ℤ_negℤ (sym (ap (λ (z : ℤ). neg_ℤ (x.re *ℤ x.im) +ℤ z) (*ℤ_comm x.im x.re) ∙ +ℤ_invl (x.re *ℤ x.im))))

real-+ : (m n : ℕ) → real (pos (m + n)) ≡ real (pos m) ⊕ real (pos n)
real-+ m n = real_+ℤ (pos m) (pos n)

real_Σℕ : (n : ℕ) (f : ℕ → ℕ) → real (pos (Σℕ< n f)) ≡ Σ< n (λ i. real (pos (f i)))
unfolding Σℕ< Σ<
real_Σℕ zero f = real_zero
real_Σℕ (suc n) f = rw (real-+, real_Σℕ n f)

real_one : real (pos 1) ≡ 𝟏
unfolding real 𝟏
real_one = refl

-- n times x
Σ_same : (n : ℕ) (x : Complex) → Σ< n (λ i. x) ≡ real (pos n) ⊗ x
unfolding Σ<
Σ_same zero x = sym (rw (real_zero, 𝟎-⊗))
Σ_same (suc n) x = rw (Σ_same n x, ← add-one, real-+, ⊕-⊗, real_one, 𝟏-⊗)

real_squares : (s : Setup) → real (pos (squared_gains s)) ≡ over_codes (λ Q k. real (pos (squared_gain (s.channel Q k))))
unfolding squared_gains
real_squares s = simp (real-+, real_zero, real_Σℕ)

-- ---- the power of one code's symbols
gained_power : (o : Option ChannelSetup) → ((c : ChannelSetup) → o ≡ some c → Bits c) → (n : ℕ) → gained o n ⊗ conj (gained o n) ≡ real (pos (squared_gain o))
unfolding gained
gained_power none b n = rw (𝟎-⊗, real_zero)
gained_power (some c) b n =
    arrange (real (pos c.gain)) (symbol (pair c.bits n))
    ∙ rw (symbol_unit (pair c.bits n) (omega (arith, b c refl (2 * n), b c refl (2 * n + 1))), 𝟏-⊗, conj_real)
    (sym (real_*ℤ (pos c.gain) (pos c.gain)))
  where
    arrange : (g x : Complex) → (g ⊗ x) ⊗ conj (g ⊗ x) ≡ (x ⊗ conj x) ⊗ (g ⊗ conj g)
    arrange g x = simp (conj-⊗, products)

-- ---- a code's part in the power
-- A chip's power is the sum over all codes of the chip times the conjugate of what the code adds to it. Over one symbol of a code that is
-- the code's own reading times the conjugate of what it sends, so the law of own readings is all that the power rests on.
regrouped : (x f e w : Complex) → x ⊗ conj (f ⊗ e ⊗ w) ≡ conj f ⊗ (x ⊗ conj w ⊗ conj e)
regrouped x f e w = simp (conj-⊗, products)

module _ (s : Setup) (h : s.cell < 128) (u : Unrelated s) (d : EachOpen s Bits) (before : ℕ) where
  module _ (Q k : ℕ) (c : is_code Q k ≡ true) where
    b : Blocks Q
    b = blocks Q (code_parts Q k c).0

    -- a chip of the field, times the conjugate of what the code adds to it
    product : ℕ → Complex
    product q = data_chip s before q ⊗ conj (spread s.cell Q k (sent_symbol s before Q k) q)

    -- over symbol n
    over_symbol : (n : ℕ) → Σ< Q (λ i. product (n * Q + i)) ≡ conj (sent_symbol s before Q k n) ⊗ reading s.cell Q k (data_chip s before) n
    unfolding product reading spread
    over_symbol n =
        Σ_cong Q _ (λ i. conj (sent_symbol s before Q k n) ⊗ heard i) (λ i l. rw (b.own_symbol n i l, b.own_element n i l, regrouped, conj_real))
        ∙ sym (⊗-Σ Q heard (conj (sent_symbol s before Q k n)))
      where
        heard : ℕ → Complex
        heard i = data_chip s before (n * Q + i) ⊗ conj (scrambling_element s.cell (1 + (n * Q + i) % 16)) ⊗ real (element Q k i)

    -- a code that is not open sends 0; one that is open reads its own symbol
    own_power : (n : ℕ)
        → conj (sent_symbol s before Q k n) ⊗ reading s.cell Q k (data_chip s before) n ≡ real (pos Q) ⊗ real (pos (squared_gain (s.channel Q k)))
    unfolding gained
    own_power n =
        go (s.channel Q k) refl
        ∙ ap (λ (x : Complex). real (pos Q) ⊗ x) (gained_power (s.channel Q k) (λ x e. d Q k x c e) (before / Q + n))
      where
        arrange : (x y : Complex) → conj x ⊗ (y ⊗ x) ≡ y ⊗ (x ⊗ conj x)
        arrange x y = simp products

        go : (o : Option ChannelSetup) → s.channel Q k ≡ o
            → conj (sent_symbol s before Q k n) ⊗ reading s.cell Q k (data_chip s before) n
            ≡ real (pos Q) ⊗ (sent_symbol s before Q k n ⊗ conj (sent_symbol s before Q k n))
        go none e = rw (e, conj_zero) (simp (𝟎-⊗, ⊗-𝟎))
        go (some x) e = rw (own_sent_symbol s before Q k c n h (u Q k c (ap is_some e))) (arrange (sent_symbol s before Q k n) (real (pos Q)))

    -- over block m
    part : (m : ℕ) → Σ< 16 (λ i. product (m * 16 + i)) ≡ real (pos 16) ⊗ real (pos (squared_gain (s.channel Q k)))
    part m =
        ap (λ (n : ℕ). Σ< n (λ i. product (m * 16 + i))) (sym b.whole)
        ∙ Σ_blocks R Q (λ i. product (m * 16 + i))
        ∙ Σ_cong R _ (λ r. real (pos Q) ⊗ x) (λ r l. symbol_in m r ∙ over_symbol (m * R + r) ∙ own_power (m * R + r))
        ∙ Σ_same R (real (pos Q) ⊗ x)
        ∙ rw (← ⊗-assoc, ← (real_*ℤ (pos R) (pos Q)), b.whole)
      where
        R : ℕ
        R = 16 / Q

        x : Complex
        x = real (pos (squared_gain (s.channel Q k)))

        symbol_in : (m r : ℕ) → Σ< Q (λ i. product (m * 16 + (r * Q + i))) ≡ Σ< Q (λ i. product ((m * R + r) * Q + i))
        symbol_in m r = Σ_cong Q _ _ (λ i l. ap product (sym (b.place m r i)))

  pub data_power : (m : ℕ) → Σℤ< 16 (λ i. squared_size (data_chip s before (m * 16 + i))) ≡ pos (16 * squared_gains s)
  unfolding real product
  data_power m = ap (λ (x : Complex). x.re) gathered
    where
      x : ℕ → Complex
      x i = data_chip s before (m * 16 + i)

      y : ℕ → ℕ → ℕ → Complex
      y i Q k = spread s.cell Q k (sent_symbol s before Q k) (m * 16 + i)

      apiece : (i : ℕ) → real (squared_size (x i)) ≡ over_codes (λ Q k. x i ⊗ conj (y i Q k))
      apiece i =
          real_power (x i)
          ∙ ap (λ (z : Complex). x i ⊗ conj z) (data_spread s before (m * 16 + i))
          ∙ ap (λ (z : Complex). x i ⊗ z) (conj_over (y i))
          ∙ ⊗-over (λ Q k. conj (y i Q k)) (x i)

      gathered : real (Σℤ< 16 (λ i. squared_size (x i))) ≡ real (pos (16 * squared_gains s))
      gathered =
          real_Σ 16 (λ i. squared_size (x i))
          ∙ Σ_cong 16 _ (λ i. over_codes (λ Q k. x i ⊗ conj (y i Q k))) (λ i l. apiece i)
          ∙ Σ_over 16 (λ i Q k. x i ⊗ conj (y i Q k))
          ∙ over_cong _ (λ Q k. real (pos 16) ⊗ real (pos (squared_gain (s.channel Q k)))) (λ Q k c. part Q k c m)
          ∙ sym (⊗-over (λ Q k. real (pos (squared_gain (s.channel Q k)))) (real (pos 16)))
          ∙ ap (λ (z : Complex). real (pos 16) ⊗ z) (sym (real_squares s))
          ∙ sym (real_*ℤ (pos 16) (pos (squared_gains s)))
