-- What the tables say of a chip is document 01's sum over open channels. Assumes nothing.
use mathlib.Core.Path.{◌≡◌, refl, sym, ap, ◌∙◌}
use mathlib.Core.List.{List}
use mathlib.Core.Bool.{true, cond}
use Prim.Native.Nat.{ℕ, zero, suc, ◌+◌, ◌*◌, ◌/◌, ◌%◌, ◌<◌}
use native.Mathlib.Omega.{arith}
use borrow.Author.Tests.{lt-ltb, eq-eqb, ne_eqb}
use lib.Dec.{eqb}
use lib.IntN.{ℤ, pos, ◌*ℤ◌, *ℤ_comm}
use lib.ListN.{get_or}
use Rattle.complex.specs.declared.Complex.{Complex}
use Rattle.complex.specs.Arithmetic.{◌+j◌, real, 𝟎, ◌⊕◌, ◌⊗◌, Σ<}
use Rattle.complex.specs.Buffers.{listed}
use Rattle.complex.proofs.Lists.{listed_at}
use Rattle.complex.proofs.Ring.{by_components, ⊗-comm, ⊗-⊕, ⊗-𝟎, 𝟎-⊗, real-⊗}
use Rattle.complex.proofs.Sums.{Σ_cong, ⊗-Σ, Σ_components}
use Rattle.codes.specs.Scrambling.{scrambling_element}
use Rattle.codes.specs.Tree.{is_spreading_factor, element, width}
use Rattle.codes.proofs.Leaves.{leaves_within}
use Rattle.slot.specs.declared.Settings.{Settings}
use Rattle.modulation.specs.Symbols.{pair, symbol}
use Rattle.slot.specs.Slot.{data_chip_count, bit_count, channel_chip, data_chip}
use Rattle.modulation.specs.Nodes.{node}
use Rattle.slot.specs.View.{entry_of_pair, held_bit, held_channel, view_channel, view}
use Rattle.modulation.specs.SixteenChips.{level_sum, summed}
use Rattle.slot.proofs.Lengths.{lengths_of}
use Rattle.slot.proofs.Places.{code_place, pair_below, pair_place, pair_inside}

-- the symbols of the pairs from `from` on
abbrev pub symbols_from : Settings → ℕ → ℕ → Complex
symbols_from s from i = symbol (get_or s.pairs (from + i) 0)

-- chip c of sixteen before scrambling, from sixteen symbols
abbrev pub summed_chip : List ℕ → (ℕ → Complex) → ℕ → Complex
summed_chip gains y c = summed gains (listed 16 (λ i. (y i).re)) c +j summed gains (listed 16 (λ i. (y i).im)) c

-- the two bits of an entry are its pair
pair_held : (pairs : List ℕ) (Q k m n : ℕ) → 2 * n + 1 < m → pair (listed m (held_bit pairs Q k)) n ≡ get_or pairs (entry_of_pair Q k n) 0
pair_held pairs Q k m n l =
    let v = get_or pairs (entry_of_pair Q k n) 0 in
    let first : get_or (listed m (held_bit pairs Q k)) (2 * n) 0 ≡ v / 2 =
    listed_at (held_bit pairs Q k) 0 m (2 * n) (omega arith) ∙ bit (2 * n) (omega arith) ∙ rw (eq-eqb (2 * n % 2) 0 (omega arith)) in
    let second : get_or (listed m (held_bit pairs Q k)) (2 * n + 1) 0 ≡ v % 2 =
    listed_at (held_bit pairs Q k) 0 m (2 * n + 1) l ∙ bit (2 * n + 1) (omega arith) ∙ rw (ne_eqb ((2 * n + 1) % 2) 0 (omega arith)) in
    omega (arith, first, second)
  where
    bit : (i : ℕ) → i / 2 ≡ n → held_bit pairs Q k i ≡ (let v = get_or pairs (entry_of_pair Q k n) 0 in cond (eqb (i % 2) 0) (v / 2) (v % 2))
    bit i e = ap (λ (j : ℕ). let v = get_or pairs (entry_of_pair Q k j) 0 in cond (eqb (i % 2) 0) (v / 2) (v % 2)) e

-- a gain of 0 is a channel that is not open
channel_held : (p before q Q k g : ℕ) (bits : List ℕ) → channel_chip p before q Q k (held_channel g bits)
    ≡ real (pos g) ⊗ symbol (pair bits (before / Q + q / Q)) ⊗ real (element Q k (q % Q)) ⊗ scrambling_element p (1 + q % 16)
unfolding channel_chip real 𝟎
channel_held p before q Q k zero bits = sym (simp 𝟎-⊗)
channel_held p before q Q k (suc g) bits = refl

-- a chip of one code, component by component
by_component : (g e : ℤ) (x y : Complex) → real g ⊗ x ⊗ real e ⊗ y ≡ y ⊗ (g *ℤ x.re *ℤ e +j g *ℤ x.im *ℤ e)
by_component g e x y =
    ⊗-comm (real g ⊗ x ⊗ real e) y
    ∙ ap (λ (z : Complex). y ⊗ z)
    (⊗-comm (real g ⊗ x) (real e)
    ∙ ap (λ (z : Complex). real e ⊗ z) (real-⊗ g x)
    ∙ real-⊗ e (g *ℤ x.re +j g *ℤ x.im)
    ∙ by_components (*ℤ_comm e (g *ℤ x.re)) (*ℤ_comm e (g *ℤ x.im)))

-- the factor of five terms
common : (x a b c d e : Complex) → 𝟎 ⊕ x ⊗ a ⊕ x ⊗ b ⊕ x ⊗ c ⊕ x ⊗ d ⊕ x ⊗ e ≡ x ⊗ (𝟎 ⊕ a ⊕ b ⊕ c ⊕ d ⊕ e)
common x a b c d e = sym (simp (⊗-⊕, ⊗-𝟎))

module _ (s : Settings) (before first c : ℕ) (b : before % 16 ≡ 0) (f : first % 16 ≡ 0) (l : c < 16) (d : before + first + c < data_chip_count s.kind) where
  abbrev y : ℕ → Complex
  y = symbols_from s (before + first)

  abbrev w : Complex
  w = scrambling_element s.cell.0 (c + 1)

  abbrev gain_of : ℕ → ℕ → ℤ
  gain_of Q k = pos (get_or s.gains (node Q k) 0)

  -- one code
  code_chip : (Q k : ℕ) → is_spreading_factor Q ≡ true → Q * width Q ≡ 16 → k < Q
      → channel_chip s.cell.0 before (first + c) Q k (view_channel s Q k)
      ≡ w ⊗ (gain_of Q k *ℤ get_or (listed 16 (λ i. (y i).re)) (k * width Q + c / Q) (pos 0) *ℤ element Q k (c % Q)
      +j gain_of Q k *ℤ get_or (listed 16 (λ i. (y i).im)) (k * width Q + c / Q) (pos 0) *ℤ element Q k (c % Q))
  unfolding view_channel
  code_chip Q k t e h =
      let q : 0 < Q = omega arith in
      let p = s.cell.0 in
      let g = get_or s.gains (node Q k) 0 in
      let j = k * width Q + c / Q in
      let bits = listed (bit_count s.kind Q) (held_bit s.pairs Q k) in
      let held : view_channel s Q k ≡ held_channel g bits = rw (t, lt-ltb k Q h) in
      let inside : 2 * (before / Q + (first + c) / Q) + 1 < bit_count s.kind Q =
      pair_inside Q (width Q) before first c q e b f l (data_chip_count s.kind) (lengths_of s.kind).chips d in
      let symbol_is : pair bits (before / Q + (first + c) / Q) ≡ get_or s.pairs (before + first + j) 0 =
      pair_held s.pairs Q k _ _ inside ∙ ap (λ (m : ℕ). get_or s.pairs m 0) (pair_place Q (width Q) before first c q e b f l k) in
      let m : j < 16 = omega (arith, pair_below Q (width Q) before first c q e b f l, leaves_within Q k h) in
      let u : 1 + (first + c) % 16 ≡ c + 1 = omega arith in
      ap (channel_chip p before (first + c) Q k) held
      ∙ channel_held p before (first + c) Q k g bits
      ∙ (λ i. real (pos g) ⊗ symbol (symbol_is i) ⊗ real (element Q k (code_place Q (width Q) before first c q e b f l i)) ⊗ scrambling_element p (u i))
      ∙ by_component (pos g) (element Q k (c % Q)) (y j) w
      ∙ sym (λ i. w ⊗ (pos g *ℤ listed_at (λ i. (y i).re) (pos 0) 16 j m i *ℤ element Q k (c % Q)
      +j pos g *ℤ listed_at (λ i. (y i).im) (pos 0) 16 j m i *ℤ element Q k (c % Q)))

  -- all codes of a factor
  level_chip : (Q : ℕ) → is_spreading_factor Q ≡ true → Q * width Q ≡ 16
      → Σ< Q (λ k. channel_chip s.cell.0 before (first + c) Q k (view_channel s Q k))
      ≡ w ⊗ (level_sum s.gains (listed 16 (λ i. (y i).re)) Q c +j level_sum s.gains (listed 16 (λ i. (y i).im)) Q c)
  unfolding level_sum
  level_chip Q t e = Σ_cong Q _ _ (λ k h. code_chip Q k t e h) ∙ sym (⊗-Σ Q _ w) ∙ ap (λ (x : Complex). w ⊗ x) (Σ_components Q _ _)

  pub data_is : data_chip (view s) before (first + c) ≡ summed_chip s.gains (symbols_from s (before + first)) c ⊗ scrambling_element s.cell.0 (c + 1)
  unfolding data_chip view summed 𝟎 ◌⊕◌
  data_is =
      (λ i. 𝟎 ⊕ level_chip 1 refl refl i ⊕ level_chip 2 refl refl i ⊕ level_chip 4 refl refl i ⊕ level_chip 8 refl refl i ⊕ level_chip 16 refl refl i)
      ∙ common w _ _ _ _ _
      ∙ ⊗-comm w _
