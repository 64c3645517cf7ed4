-- The components of a field's data chips are at most 65520 in size: sixteen full gains. Assumes nothing.
use mathlib.Core.Path.{◌≡◌, refl, sym, subst}
use mathlib.Core.Bool.{true}
use mathlib.Core.Logic.{◌≢◌}
use mathlib.Core.Option.{Option, none, some}
use Prim.Native.Nat.{ℕ, zero, suc, ◌+◌, ◌/◌, ◌%◌, ◌^◌, ◌<◌, ◌≤◌}
use native.Mathlib.Nat.{add_comm}
use native.Mathlib.Omega.{arith}
use lib.Dec.{lit≤}
use lib.IntN.{pos}
use Rattle.complex.specs.declared.Complex.{Complex}
use Rattle.complex.specs.Arithmetic.{real, 𝟎, ◌⊗◌, j^, Σ<}
use Rattle.complex.specs.Fits.{Within, Both}
use Rattle.complex.proofs.Components.{gained_within, both_more, both-⊕, both_j^, both_sign}
use Rattle.complex.proofs.Ring.{products}
use Rattle.codes.specs.Scrambling.{v, scrambling_element}
use Rattle.codes.specs.Tree.{is_code, element}
use Rattle.codes.proofs.Leaves.{element_within}
use Rattle.codes.proofs.Rows.{v_within}
use Rattle.modulation.specs.Symbols.{pair, symbol}
use Rattle.modulation.proofs.Blocks.{symbol_both}
use Rattle.slot.specs.Setup.{ChannelSetup, Setup, is_open}
use Rattle.slot.specs.Slot.{over_codes, channel_chip, data_chip}
use Rattle.orthogonality.specs.Gains.{Σℕ<}
use Rattle.orthogonality.proofs.Codes.{by_level}
use Rattle.orthogonality.proofs.SixteenCodes.{codes_sum, sixteen_times}
use Rattle.orthogonality.proofs.Unrelated.{Unrelated, EachOpen, Gain}

nothing : Both 0 𝟎
unfolding 𝟎
nothing = record { re = record { size = lit≤ tt }; im = record { size = lit≤ tt } }

-- sizes add up
sum_within : (n : ℕ) (f : ℕ → Complex) (k : ℕ → ℕ) → ((i : ℕ) → i < n → Both (k i) (f i)) → Both (Σℕ< n k) (Σ< n f)
unfolding Σ< Σℕ<
sum_within zero f k h = nothing
sum_within (suc n) f k h = both-⊕ (sum_within n f k (λ i l. h i (omega arith))) (h n (omega arith))

over_within : (f : ℕ → ℕ → Complex) (k : ℕ → ℕ → ℕ) → ((Q i : ℕ) → Both (k Q i) (f Q i)) → Both (codes_sum k) (over_codes f)
over_within f k h =
    subst (Both (codes_sum k)) (sym (by_level f))
    (sum_within 5 (λ l. Σ< (2 ^ l) (f (2 ^ l))) (λ l. Σℕ< (2 ^ l) (k (2 ^ l)))
    (λ l m. sum_within (2 ^ l) (f (2 ^ l)) (k (2 ^ l)) (λ i g. h (2 ^ l) i)))

-- the gain of a code, 0 where it is not open
abbrev pub gain_of : Option ChannelSetup → ℕ
gain_of none = 0
gain_of (some c) = c.gain

-- one channel's chip: all but the gain is of size 1
channel_within : (p before q Q k : ℕ) (o : Option ChannelSetup) → Both (gain_of o) (channel_chip p before q Q k o)
unfolding channel_chip scrambling_element
channel_within p before q Q k none = nothing
channel_within p before q Q k (some c) =
    subst (Both c.gain) (arrange (real (pos c.gain)) (symbol n) (real (element Q k (q % Q))) (j^ (1 + q % 16)) (real (v p (1 + q % 16))))
    (both_j^ (both_sign (both_sign gained (element_within Q k (q % Q))) sign) (1 + q % 16))
  where
    n : ℕ
    n = pair c.bits (before / Q + q / Q)

    gained : Both c.gain (real (pos c.gain) ⊗ symbol n)
    gained = both_more (gained_within (symbol_both n) c.gain) c.gain (omega arith)

    sign : Within 1 (v p (1 + q % 16))
    sign = subst (λ (m : ℕ). Within 1 (v p m)) (add_comm (q % 16) 1) (v_within p (q % 16))

    arrange : (g x e u w : Complex) → u ⊗ (w ⊗ (e ⊗ (g ⊗ x))) ≡ g ⊗ x ⊗ e ⊗ (u ⊗ w)
    arrange g x e u w = simp products

module _ (s : Setup) (u : Unrelated s) (d : EachOpen s Gain) where
  gain : ℕ → ℕ → ℕ
  gain Q k = gain_of (s.channel Q k)

  gains_within : codes_sum gain ≤ 65520
  unfolding gain
  gains_within =
      sixteen_times gain 4095 (λ Q k c. small Q k c (s.channel Q k) refl)
      (λ Q k Q' k' c c' o o' r. (u Q' k' c' (opened Q' k' (s.channel Q' k') refl o') Q k c (opened Q k (s.channel Q k) refl o) r).0)
    where
      small : (Q k : ℕ) → is_code Q k ≡ true → (o : Option ChannelSetup) → s.channel Q k ≡ o → gain_of o ≤ 4095
      small Q k c none e = omega arith
      small Q k c (some x) e = d Q k x c e

      opened : (Q k : ℕ) (o : Option ChannelSetup) → s.channel Q k ≡ o → gain_of o ≢ 0 → is_open s Q k ≡ true
      opened Q k none e h = absurd (h refl)
      opened Q k (some x) e h = rw e

  pub data_within : (before q : ℕ) → Both 65520 (data_chip s before q)
  unfolding data_chip gain
  data_within before q = both_more (over_within _ gain (λ Q k. channel_within s.cell before q Q k (s.channel Q k))) 65520 gains_within
