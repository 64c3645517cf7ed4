-- The sync codes are made of parts of 16 chips: within a part of a code only the sequence a or b changes. Assumes nothing.
use mathlib.Core.Path.{◌≡◌, refl, sym, ap, ap₂, ◌∙◌, subst}
use mathlib.Core.Bool.{Bool, true, false}
use mathlib.Core.List.{List}
use Prim.Native.Nat.{ℕ, ◌+◌, ◌*◌, ◌/◌, ◌%◌, ◌<◌, ◌≤◌}
use native.Mathlib.Nat.{add-zero, lt_of_not-le, div-add-mod'}
use native.Mathlib.Decide.{dec_le}
use native.Mathlib.Omega.{arith}
use borrow.Author.Tests.{lt-ltb}
use lib.Bits.{bit_and, and_block}
use lib.Count.{ones, ones_in, ones_cat}
use lib.Dec.{T, lit<}
use lib.IntN.{ℤ, pos, ◌*ℤ◌, zero-*ℤ}
use lib.ListN.{get_or-eq_default}
use Rattle.complex.specs.Arithmetic.{◌+j◌, real, ◌⊗◌, 𝟎}
use Rattle.complex.proofs.Integers.{*ℤ_swap}
use Rattle.complex.specs.Buffers.{◌at◌}
use Rattle.codes.specs.PackedSigns.{sign_bit, secondary_row}
use Rattle.codes.specs.Range.{each}
use Rattle.codes.specs.SyncCodes.{a, a_signs, b, b_signs, repeated, Cp, z, hadamard, hadamard_part, is_sync_code, sync_codes, C}
use Rattle.codes.proofs.Tests.{each_at, same, same→eq, T_true, all_below, among_below}
use Rattle.codes.proofs.Rows.{minus_if_within, sign_products}

-- ---- the Hadamard matrix: n, below 16, changes no bit that it shares with a row 16i
no_ones : ones 0 ≡ 0
unfolding ones
no_ones = refl

shared : (i m n : ℕ) → n < 16 → ones (bit_and (16 * i) (m * 16 + n)) ≡ ones (bit_and i m)
shared i m n h =
    ap (λ (r : ℕ). ones (bit_and r (m * 16 + n))) e ∙ ap ones (and_block 4 i m 0 n (lit< tt) h)
    ∙ ones_cat 4 (bit_and i m) 0 (lit< tt) ∙ rw (no_ones, add-zero)
  where
    e : 16 * i ≡ i * 16 + 0
    e = omega arith

hadamard_shared : (i m n : ℕ) → n < 16 → hadamard (16 * i) (m * 16 + n) ≡ hadamard i m
unfolding hadamard
hadamard_shared i m n h = rw (shared i m n h)

pub hadamard_part_is : (i m : ℕ) → i < 16 → m < 16 → hadamard_part i m ≡ hadamard i m
unfolding hadamard_part
hadamard_part_is i m h g = simp (lt-ltb i 16 h, lt-ltb m 16 g) (ap (hadamard (16 * i)) e ∙ hadamard_shared i m 0 (lit< tt))
  where
    e : 16 * m ≡ m * 16 + 0
    e = omega arith

-- ---- the codes
pub sync_code_below : (i : ℕ) → T (is_sync_code i) → i < 16
unfolding all_below is_sync_code
sync_code_below i t = among_below 16 i sync_codes tt t

past_signs : {m : ℕ} → 16 ≤ m → b_signs at m ≡ pos 0
unfolding ◌at◌
past_signs {m} l = get_or-eq_default b_signs (pos 0) {n = m} l

module _ (m n : ℕ) (h : n < 16) where
  at_part : (x s : List ℤ) → repeated x s (m * 16 + n) ≡ s at m *ℤ x at n
  unfolding repeated
  at_part x s = ap₂ (λ (d r : ℕ). s at d *ℤ x at r) quotient remainder
    where
      quotient : (m * 16 + n) / 16 ≡ m
      quotient = omega arith

      remainder : (m * 16 + n) % 16 ≡ n
      remainder = omega arith

  pub Cp_parts : Cp (m * 16 + n) ≡ real (a_signs at m *ℤ a at n) ⊗ (pos 1 +j pos 1)
  unfolding Cp
  Cp_parts = rw (at_part a a_signs)

  -- past the last part both are 0
  hadamard_parts : (i : ℕ) → i < 16 → (b_signs at m *ℤ b at n) *ℤ hadamard (16 * i) (m * 16 + n) ≡ (b_signs at m *ℤ b at n) *ℤ hadamard_part i m
  hadamard_parts i g = go (dec_le 16 m)
    where
      go : Dec (16 ≤ m) → (b_signs at m *ℤ b at n) *ℤ hadamard (16 * i) (m * 16 + n) ≡ (b_signs at m *ℤ b at n) *ℤ hadamard_part i m
      go (yes l) = rw (past_signs l) (simp zero-*ℤ)
      go (no l) = ap (λ (t : ℤ). (b_signs at m *ℤ b at n) *ℤ t) (hadamard_shared i m n h ∙ sym (hadamard_part_is i m g (lt_of_not-le l)))

  pub C_parts : (i : ℕ) → T (is_sync_code i) → C i (m * 16 + n) ≡ real ((b_signs at m *ℤ b at n) *ℤ hadamard_part i m) ⊗ (pos 1 +j pos 1)
  unfolding C z
  C_parts i t = rw (T_true (is_sync_code i) t, at_part b b_signs, hadamard_parts i (sync_code_below i t))

-- ---- the signs of the parts, as the code holds them
kept : ℕ → ℕ → Bool
kept i m = same (sign_bit (secondary_row i) m) (b_signs at m *ℤ hadamard i m)

kept_test : T (each 16 (λ i. each 16 (kept i)))
unfolding each kept same sign_bit secondary_row ones ones_in ◌at◌ hadamard
kept_test = tt

pub secondary_signs : (i m : ℕ) → i < 16 → m < 16 → sign_bit (secondary_row i) m ≡ b_signs at m *ℤ hadamard_part i m
unfolding kept
secondary_signs i m h g =
    same→eq _ _ (each_at 16 (kept i) (each_at 16 (λ i. each 16 (kept i)) kept_test i h) m g)
    ∙ ap (λ (s : ℤ). b_signs at m *ℤ s) (sym (hadamard_part_is i m h g))

past_row : (r i : ℕ) → 16 ≤ i → sign_bit r i ≡ pos 0
unfolding sign_bit
past_row r i h = rw (lt-ltb 15 i h)

pub no_C : (i n : ℕ) → is_sync_code i ≡ false → C i n ≡ pos 0 +j pos 0
unfolding C 𝟎
no_C i n e = rw e

-- chip n of secondary code i, by the sign of its part
pub C_signs : (i n : ℕ) → is_sync_code i ≡ true → C i n ≡ real (sign_bit (secondary_row i) (n / 16) *ℤ b at (n % 16)) ⊗ (pos 1 +j pos 1)
C_signs i n e =
    let t : T (is_sync_code i) = subst T (sym e) tt in
    ap (C i) (sym (div-add-mod' n 16)) ∙ C_parts (n / 16) (n % 16) (omega arith) i t
    ∙ ap (λ (x : ℤ). real x ⊗ (pos 1 +j pos 1)) (regroup (sync_code_below i t) (n / 16) (b at (n % 16)))
  where
    regroup : i < 16 → (m : ℕ) (x : ℤ) → (b_signs at m *ℤ x) *ℤ hadamard_part i m ≡ sign_bit (secondary_row i) m *ℤ x
    regroup h m x = go (dec_le 16 m)
      where
        go : Dec (16 ≤ m) → (b_signs at m *ℤ x) *ℤ hadamard_part i m ≡ sign_bit (secondary_row i) m *ℤ x
        go (yes l) = rw (past_signs l, past_row (secondary_row i) m l) (simp zero-*ℤ)
        go (no l) = rw (secondary_signs i m h (lt_of_not-le l)) (*ℤ_swap (b_signs at m) x (hadamard_part i m))

-- for `secondary`
pub ruleset secondaries = (sign_products, C_signs, no_C)
