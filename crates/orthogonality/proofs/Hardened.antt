-- A code's own reading hardens to the pair that was sent. Assumes nothing.
use mathlib.Core.Path.{◌≡◌, refl, sym, ap, ◌∙◌}
use mathlib.Core.Bool.{Bool, true, ◌||◌}
use mathlib.Core.Logic.{◌≢◌}
use Prim.Native.Nat.{ℕ, zero, suc, ◌*◌, ◌<◌, ◌≤◌}
use native.Mathlib.Decide.{ℕ_discrete}
use native.Mathlib.Nat.{mul-pos}
use native.Mathlib.Omega.{arith}
use borrow.Author.Tests.{ne_eqb}
use lib.Dec.{T, eqb}
use lib.IntN.{ℤ, pos, ◌*ℤ◌}
use lib.Signed.{le_z, lt_z}
use Rattle.complex.specs.declared.Complex.{Complex}
use Rattle.complex.specs.Arithmetic.{real, 𝟎, 𝟏, 𝐣, ◌⊗◌}
use Rattle.complex.proofs.Integers.{*ℤ_negℤ}
use Rattle.complex.proofs.Order.{lt_z_true, le_le_z, times_lt_z}
use Rattle.complex.proofs.Ring.{real_*ℤ, real-⊗}
use Rattle.codes.specs.Range.{each}
use Rattle.codes.proofs.Tests.{each_at, T_true}
use Rattle.modulation.specs.Symbols.{symbol}
use Rattle.analyser_parts.proofs.Choosing.{peaks_is}
use Rattle.harden.specs.Hardening.{pair_score, hard_pair}

-- a symbol's own pair scores more than any other
wins : ℕ → ℕ → Bool
wins n m = eqb m n || lt_z (pair_score (symbol n) m) (pair_score (symbol n) n)

wins_test : T (each 4 (λ n. each 4 (wins n)))
unfolding each wins pair_score symbol 𝟎 𝟏 𝐣
wins_test = tt

-- and so it does where the scores are g times as large
score_times : (g : ℤ) (x : Complex) (m : ℕ) → m < 4 → pair_score (real g ⊗ x) m ≡ g *ℤ pair_score x m
unfolding pair_score
score_times g x m h = ap (λ (y : Complex). pair_score y m) (real-⊗ g x) ∙ by m h
  where
    by : (m : ℕ) → m < 4 → pair_score (record { re = g *ℤ x.re; im = g *ℤ x.im }) m ≡ g *ℤ pair_score x m
    by zero h = refl
    by (suc zero) h = refl
    by (suc (suc zero)) h = sym (*ℤ_negℤ g x.re)
    by (suc (suc (suc zero))) h = sym (*ℤ_negℤ g x.im)
    by (suc (suc (suc (suc m)))) h = absurd (omega arith)

module _ (g n : ℕ) (l : 1 ≤ g) (h : n < 4) where
  score : ℕ → ℤ
  score = pair_score (real (pos g) ⊗ symbol n)

  beats : (m : ℕ) → m < 4 → m ≢ n → lt_z (score m) (score n) ≡ true
  unfolding wins score
  beats m k d =
      (λ i. lt_z (score_times (pos g) (symbol n) m k i) (score_times (pos g) (symbol n) n h i))
      ∙ times_lt_z g l (pair_score (symbol n) m) (pair_score (symbol n) n)
      (T_true _ (rw (ne_eqb m n d) at (each_at 4 (wins n) (each_at 4 (λ n. each 4 (wins n)) wins_test n h) m k)))

  at_most : (m : ℕ) → m < 4 → Dec (m ≡ n) → le_z (score m) (score n) ≡ true
  at_most m k (yes e) = rw e (le_le_z (score n) (score n) (omega arith))
  at_most m k (no d) = le_le_z (score m) (score n) (omega (arith, lt_z_true (score m) (score n) (beats m k d)))

  hardens : hard_pair (real (pos g) ⊗ symbol n) ≡ n
  unfolding hard_pair score
  hardens =
      peaks_is score 4 (record { at = n; value = score n })
      (record { below = h; own = refl; largest = λ m k. at_most m k (ℕ_discrete m n); earliest = λ m k. beats m (omega arith) (omega arith) })

pub hardened : (Q g n : ℕ) → 0 < Q → 0 < g → n < 4 → hard_pair (real (pos Q) ⊗ real (pos g) ⊗ symbol n) ≡ n
hardened Q g n l m h =
    ap (λ (x : Complex). hard_pair (x ⊗ symbol n)) (sym (real_*ℤ (pos Q) (pos g))) ∙ hardens (Q * g) n (mul-pos l m) h
