-- Hardening a channel's own readings gives its bits. Assumes nothing.
use mathlib.Core.Path.{◌≡◌, refl, sym, ap, ◌∙◌}
use mathlib.Core.Bool.{true, cond}
use mathlib.Core.List.{List, [], ◌∷◌, ◌++◌}
use mathlib.Core.Option.{none, some}
use Prim.Native.Nat.{ℕ, ◌+◌, ◌*◌, ◌/◌, ◌%◌, ◌≤◌, ◌<◌}
use native.Mathlib.Nat.{zero-div}
use native.Mathlib.Decide.{ℕ_discrete}
use native.Mathlib.Omega.{arith}
use borrow.Author.Tests.{eq-eqb, ne_eqb, le-ltb}
use lib.Dec.{eqb}
use lib.IntN.{pos}
use lib.ListN.{length, get_or, drop, length-drop, take-append-drop}
use lib.Seq.{ext_get_or, get_or-drop, get_or-take, length-take-le, take_all}
use Rattle.complex.specs.declared.Complex.{Complex}
use Rattle.complex.specs.Arithmetic.{real, ◌⊗◌}
use Rattle.complex.specs.Buffers.{value, listed, in_buffers}
use Rattle.complex.proofs.Lists.{length_listed, listed_at, value_in_buffers}
use Rattle.codes.specs.Refusals.{gives}
use Rattle.codes.specs.Tree.{among, is_spreading_factor}
use Rattle.codes.proofs.Factors.{of_all, of_factors, factor_range}
use Rattle.codes.proofs.Tests.{each_all}
use Rattle.modulation.specs.Symbols.{pair, symbol}
use Rattle.slot.specs.Setup.{ChannelSetup, Setup, is_some}
use Rattle.slot.specs.Slot.{slot_parts, bit_count}
use Rattle.tables.proofs.Blocks.{IsCode}
use Rattle.harden.specs.Hardening.{hard_pair, hard_bit, harden_call}
use Rattle.orthogonality.proofs.Hardened.{hardened}
use Rattle.demands.specs.Fields.{Field, field_1, field_2, field_length, chips_before, entries_from, reading_count, own_symbol, symbol_readings, no_burst, field_bits}
use Rattle.demands.specs.Valid.{ValidChannel, Valid}
use Rattle.demands.proofs.Entries.{code_of}

-- ---- the bits of the two fields are those of the channel
-- a channel's bits are two for each reading of both fields
Split : ℕ → ℕ → Type 0
Split t Q = 2 * ((slot_parts t).field1 / Q) + 2 * ((slot_parts t).field2 / Q) ≡ bit_count t Q

split : (t Q : ℕ) → among t (1 ∷ 2 ∷ 3 ∷ []) ≡ true → is_spreading_factor Q ≡ true → Split t Q
unfolding Split slot_parts
split t Q e f = of_all (λ t. (Q : ℕ) → is_spreading_factor Q ≡ true → Split t Q) (1 ∷ 2 ∷ 3 ∷ [])
    (of_factors (Split 1) refl refl refl refl refl, (of_factors (Split 2) refl refl refl refl refl, (of_factors (Split 3) refl refl refl refl refl, tt))) t e Q f

module _ (s : Setup) (Q : ℕ) (c : ChannelSetup) (t : among s.type (1 ∷ 2 ∷ 3 ∷ []) ≡ true) (q : is_spreading_factor Q ≡ true) (count : length c.bits ≡ bit_count s.type Q) where
  enough : (f : Field) → 2 * (chips_before s f / Q) + 2 * reading_count s f Q ≤ length c.bits
  unfolding Split
  enough field_1 = omega (arith, split s.type Q t q, count, zero-div Q)
  enough field_2 = omega (arith, split s.type Q t q, count)

  both_fields : field_bits s field_1 Q c ++ field_bits s field_2 Q c ≡ c.bits
  unfolding Split
  both_fields =
      let n = 2 * (field_length s field_1 / Q) in
      let e : 2 * (0 / Q) ≡ 0 = omega (arith, zero-div Q) in
      (λ i. entries_from (e i) n c.bits ++ take_all (2 * (field_length s field_2 / Q)) (drop n c.bits) (omega (arith, length-drop n c.bits, split s.type Q t q, count)) i)
      ∙ take-append-drop n c.bits

-- ---- a reading's two bits
module _ (Q g : ℕ) (some-Q : 0 < Q) (some-g : 0 < g) (bits : List ℕ) (h : (i : ℕ) → get_or bits i 0 ≤ 1) where
  own_bit : (first b : ℕ) → hard_bit (λ n. real (pos Q) ⊗ real (pos g) ⊗ symbol (pair bits (first + n))) b ≡ get_or bits (2 * first + b) 0
  unfolding hard_bit
  own_bit first b = rw (hardened Q g (pair bits (first + b / 2)) some-Q some-g (omega (arith, h (2 * (first + b / 2)), h (2 * (first + b / 2) + 1)))) (go (ℕ_discrete (b % 2) 0))
    where
      go : Dec (b % 2 ≡ 0) → (let p = pair bits (first + b / 2) in cond (eqb (b % 2) 0) (p / 2) (p % 2) ≡ get_or bits (2 * first + b) 0)
      go (yes e) =
          let i : 2 * (first + b / 2) ≡ 2 * first + b = omega arith in
          let v : pair bits (first + b / 2) / 2 ≡ get_or bits (2 * (first + b / 2)) 0 = omega (arith, h (2 * (first + b / 2) + 1)) in
          rw (eq-eqb (b % 2) 0 e) (v ∙ ap (λ (n : ℕ). get_or bits n 0) i)
      go (no e) =
          let i : 2 * (first + b / 2) + 1 ≡ 2 * first + b = omega arith in
          let v : pair bits (first + b / 2) % 2 ≡ get_or bits (2 * (first + b / 2) + 1) 0 = omega (arith, h (2 * (first + b / 2) + 1)) in
          rw (ne_eqb (b % 2) 0 e) (v ∙ ap (λ (n : ℕ). get_or bits n 0) i)

-- ---- hardening a channel's own readings gives the bits that the field sends
module _ (s : Setup) (v : Valid s) (Q k : ℕ) (c : ChannelSetup) (e : s.channel Q k ≡ some c) where
  code : IsCode Q k
  code = code_of Q k (v.code Q k (ap is_some e))

  h : ValidChannel s.type Q c
  h = v.channel Q k c e

  pub all_bits : field_bits s field_1 Q c ++ field_bits s field_2 Q c ≡ c.bits
  all_bits = both_fields s Q c v.type code.factor h.count

  pub own_bits : (f : Field) (n : ℕ) → 2 * reading_count s f Q ≤ n
      → (let o = symbol_readings s f Q c in harden_call o.re o.im n ≡ gives (field_bits s f Q c))
  unfolding hard_bit
  own_bits f n enough-bytes =
      rw (length_listed _ N, length_listed _ N, eq-eqb N N refl, le-ltb n (2 * N) enough-bytes)
      (ap gives all)
    where
      N : ℕ
      N = reading_count s f Q

      own : ℕ → Complex
      own j = real (pos Q) ⊗ real (pos c.gain) ⊗ own_symbol s f Q c j

      size : length (field_bits s f Q c) ≡ 2 * N
      size =
          length-take-le (2 * N) (drop (2 * (chips_before s f / Q)) c.bits)
          (omega (arith, length-drop (2 * (chips_before s f / Q)) c.bits, enough s Q c v.type code.factor h.count f))

      all : listed (2 * N) (hard_bit (value (in_buffers N own).re (in_buffers N own).im)) ≡ field_bits s f Q c
      all =
          ext_get_or 0 _ _ (length_listed _ (2 * N) ∙ sym size)
          (λ b l.
          let g : b < 2 * N = omega (arith, l, length_listed (hard_bit (value (in_buffers N own).re (in_buffers N own).im)) (2 * N)) in
          listed_at (hard_bit (value (in_buffers N own).re (in_buffers N own).im)) 0 (2 * N) b g
          ∙ ap (λ (y : Complex). cond (eqb (b % 2) 0) (hard_pair y / 2) (hard_pair y % 2)) (value_in_buffers N own (b / 2) (omega arith))
          ∙ own_bit Q c.gain (factor_range Q code.factor).0 h.above_0 c.bits h.bit (chips_before s f / Q) b
          ∙ sym (get_or-take (2 * N) (drop (2 * (chips_before s f / Q)) c.bits) b 0 g ∙ get_or-drop (2 * (chips_before s f / Q)) c.bits b 0))

-- a slot without sync has no burst chip anywhere
pub no_burst_anywhere : (s : Setup) → s.sync ≡ none → (x n : ℕ) → no_burst s x n ≡ true
no_burst_anywhere s e x n = each_all n _ (λ i l. rw e)
