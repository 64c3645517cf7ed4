-- What a code reads of a field's data chips. Assumes nothing.
use mathlib.Core.Path.{◌≡◌, refl, sym, ap, ◌∙◌}
use mathlib.Core.Bool.{Bool, true, false, true≢false}
use mathlib.Core.Option.{Option, none, some}
use Prim.Native.Nat.{ℕ, ◌+◌, ◌*◌, ◌/◌, ◌%◌, ◌<◌, ◌≤◌}
use native.Mathlib.Decide.{dec_le}
use native.Mathlib.Nat.{lt_of_not-le}
use lib.Dec.{T}
use lib.IntN.{pos}
use Rattle.complex.specs.declared.Complex.{Complex}
use Rattle.complex.specs.Arithmetic.{real, 𝟎, ◌⊗◌, conj}
use Rattle.complex.proofs.Ring.{products, ⊗-assoc, 𝟎-⊗, ⊗-𝟎}
use Rattle.complex.proofs.Sums.{Σ_𝟎, Σ_cong}
use Rattle.codes.specs.Range.{each}
use Rattle.codes.specs.Scrambling.{scrambling_element}
use Rattle.codes.specs.Tree.{is_code, element, related, at_or_above}
use Rattle.codes.proofs.Leaves.{each_code}
use Rattle.codes.proofs.Tests.{T_true}
use Rattle.modulation.specs.Symbols.{pair, symbol}
use Rattle.slot.specs.Setup.{ChannelSetup, Setup, is_some}
use Rattle.slot.specs.Slot.{over_codes, channel_chip, data_chip}
use Rattle.read.specs.Reading.{reading}
use Rattle.orthogonality.proofs.Codes.{at_every_code, over_cong, over_one, ⊗-over, Σ_over}
use Rattle.orthogonality.proofs.Spreading.{spread, own_spread, other_spread}
use Rattle.orthogonality.proofs.Units.{conj_zero, no_scrambling}
use Rattle.orthogonality.proofs.Unrelated.{Alone, Free}

-- ---- a field's data chips are what all codes spread
-- gain × symbol n
unfoldable pub gained : Option ChannelSetup → ℕ → Complex
gained none n = 𝟎
gained (some c) n = real (pos c.gain) ⊗ symbol (pair c.bits n)

-- what code (Q, k) sends as symbol n of the field
abbrev pub sent_symbol : Setup → ℕ → ℕ → ℕ → ℕ → Complex
sent_symbol s before Q k n = gained (s.channel Q k) (before / Q + n)

channel_spread : (p before q Q k : ℕ) (o : Option ChannelSetup) → channel_chip p before q Q k o ≡ spread p Q k (λ n. gained o (before / Q + n)) q
unfolding channel_chip spread gained
channel_spread p before q Q k none = sym (simp 𝟎-⊗)
channel_spread p before q Q k (some c) = refl

pub data_spread : (s : Setup) (before q : ℕ) → data_chip s before q ≡ over_codes (λ Q k. spread s.cell Q k (sent_symbol s before Q k) q)
unfolding data_chip
data_spread s before q = over_cong _ _ (λ Q k e. channel_spread s.cell before q Q k (s.channel Q k))

-- ---- and a reading is a sum over them
reading_over : (p Q k : ℕ) (x : ℕ → ℕ → ℕ → Complex) (n : ℕ)
    → reading p Q k (λ q. over_codes (λ Q' k'. x Q' k' q)) n ≡ over_codes (λ Q' k'. reading p Q k (x Q' k') n)
unfolding reading
reading_over p Q k x n =
    Σ_cong Q _ (λ i. over_codes (λ Q' k'. y i Q' k' ⊗ s i ⊗ e i))
    (λ i l. first (over_codes (y i)) (s i) (e i) ∙ ⊗-over (y i) (s i ⊗ e i) ∙ over_cong _ _ (λ Q' k' c. sym (first (y i Q' k') (s i) (e i))))
    ∙ Σ_over Q (λ i Q' k'. y i Q' k' ⊗ s i ⊗ e i)
  where
    y : ℕ → ℕ → ℕ → Complex
    y i Q' k' = x Q' k' (n * Q + i)

    s : ℕ → Complex
    s i = conj (scrambling_element p (1 + (n * Q + i) % 16))

    e : ℕ → Complex
    e i = real (element Q k i)

    first : (y s e : Complex) → y ⊗ s ⊗ e ≡ s ⊗ e ⊗ y
    first y s e = simp products

-- a code that is not open sends nothing
silent : (p Q k Q' k' : ℕ) (f : ℕ → Complex) → ((m : ℕ) → f m ≡ 𝟎) → (n : ℕ) → reading p Q k (spread p Q' k' f) n ≡ 𝟎
unfolding reading spread
silent p Q k Q' k' f z n = Σ_cong Q _ (λ i. 𝟎) (λ i l. rw (z ((n * Q + i) / Q')) (simp 𝟎-⊗)) ∙ Σ_𝟎 Q

module _ (s : Setup) (before Q k : ℕ) (c : is_code Q k ≡ true) (n : ℕ) where
  -- it is the sum of what it hears of each code
  heard : reading s.cell Q k (data_chip s before) n ≡ over_codes (λ Q' k'. reading s.cell Q k (spread s.cell Q' k' (sent_symbol s before Q' k')) n)
  heard =
      ap (λ (x : ℕ → Complex). reading s.cell Q k x n) (λ i q. data_spread s before q i)
      ∙ reading_over s.cell Q k (λ Q' k'. spread s.cell Q' k' (sent_symbol s before Q' k')) n

  -- and that is its own part alone: every other code is closed or unrelated
  pub own_sent_symbol : s.cell < 128 → Alone s Q k → reading s.cell Q k (data_chip s before) n ≡ real (pos Q) ⊗ sent_symbol s before Q k n
  unfolding gained
  own_sent_symbol h a =
      heard
      ∙ over_one _ Q k c (λ Q' k' c' d. other Q' k' c' d (s.channel Q' k') refl (related Q' k' Q k) refl)
      ∙ own_spread s.cell h Q k c (sent_symbol s before Q k) n
    where
      other : (Q' k' : ℕ) → is_code Q' k' ≡ true → ((Q' ≡ Q) × (k' ≡ k) → ⊥)
          → (o : Option ChannelSetup) → s.channel Q' k' ≡ o → (b : Bool) → related Q' k' Q k ≡ b
          → reading s.cell Q k (spread s.cell Q' k' (sent_symbol s before Q' k')) n ≡ 𝟎
      other Q' k' c' d none e b r = silent s.cell Q k Q' k' (sent_symbol s before Q' k') (λ m. rw e) n
      other Q' k' c' d (some x) e true r = absurd (d (a Q' k' c' (ap is_some e) r))
      other Q' k' c' d (some x) e false r = other_spread s.cell h Q' k' c' (sent_symbol s before Q' k') Q k c r n

-- ---- the laws
-- A reading of a code is a sum in which each symbol that any code sends has a weight, made of the signs of the two codes alone.
-- A symbol of an unrelated code has weight 0, and of the code's own symbols only the n-th has a weight in reading n: Q.
pub own_data : (s : Setup) → s.cell < 128 → (before Q k : ℕ) → is_code Q k ≡ true → (c : ChannelSetup) → s.channel Q k ≡ some c → Alone s Q k
    → (n : ℕ) → reading s.cell Q k (data_chip s before) n ≡ real (pos Q) ⊗ real (pos c.gain) ⊗ symbol (pair c.bits (before / Q + n))
unfolding gained
own_data s h before Q k e c o a n =
    own_sent_symbol s before Q k e n h a
    ∙ rw o (sym (⊗-assoc (real (pos Q)) (real (pos c.gain)) (symbol (pair c.bits (before / Q + n)))))

-- a code is related to itself: where no open code is related to it, it is not open
itself_test : T (each_code (λ Q k. related Q k Q k))
unfolding each_code each related at_or_above
itself_test = tt

-- above 127 there is no scrambling code, and all is 0
unscrambled : (p Q k : ℕ) (x : ℕ → Complex) (n : ℕ) → 128 ≤ p → reading p Q k x n ≡ 𝟎
unfolding reading
unscrambled p Q k x n h = Σ_cong Q _ (λ i. 𝟎) (λ i l. rw (no_scrambling p ((n * Q + i) % 16) h, conj_zero, ⊗-𝟎, 𝟎-⊗)) ∙ Σ_𝟎 Q

pub unrelated_data : (s : Setup) (before Q k : ℕ) → is_code Q k ≡ true → Free s Q k → (n : ℕ) → reading s.cell Q k (data_chip s before) n ≡ 𝟎
unfolding gained
unrelated_data s before Q k c f n = go (dec_le 128 s.cell) (s.channel Q k) refl
  where
    go : Dec (128 ≤ s.cell) → (o : Option ChannelSetup) → s.channel Q k ≡ o → reading s.cell Q k (data_chip s before) n ≡ 𝟎
    go (yes h) o e = unscrambled s.cell Q k (data_chip s before) n h
    go (no h) none e = own_sent_symbol s before Q k c n (lt_of_not-le h) (λ Q' k' c' o r. absurd (true≢false (sym r ∙ f Q' k' c' o))) ∙ rw (e, ⊗-𝟎)
    go (no h) (some x) e = absurd (true≢false (sym (T_true _ (at_every_code _ itself_test Q k c)) ∙ f Q k c (ap is_some e)))
