-- The entries of a level of the tree: how large they are, and what a level with no open code adds. Assumes nothing.
use mathlib.Core.Path.{◌≡◌, refl, sym, ap, ◌∙◌}
use mathlib.Core.Bool.{Bool, true, false, cond, not, false≢true}
use mathlib.Core.List.{List}
use Prim.Native.Nat.{ℕ, ◌+◌, ◌/◌, ◌%◌, ◌≤◌, ◌<◌}
use native.Mathlib.Decide.{ℕ_discrete}
use native.Mathlib.Omega.{arith}
use borrow.Author.Tests.{ne_eqb}
use lib.Dec.{eqb}
use lib.IntN.{ℤ, pos, ◌+ℤ◌, ◌-ℤ◌, +ℤ_idr, zero-*ℤ}
use lib.ListN.{get_or}
use Rattle.complex.specs.Buffers.{listed}
use Rattle.complex.specs.Fits.{Within, Bound}
use Rattle.complex.proofs.Bounds.{bound_listed}
use Rattle.complex.proofs.Lists.{listed_at, listed_cong}
use Rattle.complex.proofs.Sizes.{within_add, within_sub, within_mul}
use Rattle.codes.specs.Tree.{is_spreading_factor, width}
use Rattle.codes.proofs.Factors.{of_factors}
use Rattle.codes.proofs.Tests.{none_at}
use Rattle.modulation.specs.SixteenChips.{raised, own, climbed, with_own, has_open}
use Rattle.modulation.specs.declared.data.Level.{Level}
use Rattle.modulation.specs.declared.data.Level.TheVariants.{Q1, Q2, Q4, Q8, Q16}
use Rattle.modulation.specs.Levels.{factor}
use Rattle.modulation.specs.Nodes.{node}

-- a level's factor is one
pub a_factor : (l : Level) → is_spreading_factor (factor l) ≡ true
a_factor Q1 = refl
a_factor Q2 = refl
a_factor Q4 = refl
a_factor Q8 = refl
a_factor Q16 = refl

-- the entries of level Q, from those of the level below
abbrev pub level_entries : List ℕ → List ℤ → ℕ → List ℤ → List ℤ
level_entries gains s Q x = listed 16 (climbed gains s x Q)

-- ---- sizes
module _ {k : ℕ} {x : List ℤ} (h : Bound k x) where
  raised_within : (Q i : ℕ) → Within (k + k) (raised x Q i)
  unfolding raised
  raised_within Q i = go (eqb Q 16) (eqb (i % 2) 0) (h.at _) (h.at _)
    where
      go : (b c : Bool) {u v : ℤ} → Within k u → Within k v → Within (k + k) (cond b (pos 0) (cond c (u +ℤ v) (u -ℤ v)))
      go true c f g = record { size = omega arith }
      go false true f g = within_add f g
      go false false f g = within_sub f g

  pub with_own_within : (gains : List ℕ) (s : List ℤ) (Q i : ℕ) → get_or gains (node Q (i / width Q)) 0 ≤ 65535 → Within 1 (get_or s i (pos 0))
      → Within (k + 65535) (with_own gains s x Q i)
  unfolding own
  with_own_within gains s Q i g w = let f : Within 65535 (pos (get_or gains (node Q (i / width Q)) 0)) = record { size = g } in within_add (h.at i) (within_mul f w)

  -- a round doubles
  pub raised_bound : (Q : ℕ) {y : List ℤ} → y ≡ listed 16 (raised x Q) → Bound (k + k) y
  raised_bound Q e = rw e (bound_listed (k + k) 16 _ (raised_within Q))

-- ---- a level with no open code
gain_zero : (g : ℕ) → not (eqb g 0) ≡ false → g ≡ 0
gain_zero g e = go (ℕ_discrete g 0)
  where
    go : Dec (g ≡ 0) → g ≡ 0
    go (yes z) = z
    go (no n) = absurd (false≢true (sym (rw (ne_eqb g 0 n) at e)))

nothing_own : (gains : List ℕ) (s : List ℤ) (Q : ℕ) → is_spreading_factor Q ≡ true → has_open gains Q ≡ false → (i : ℕ) → i < 16 → own gains s Q i ≡ pos 0
unfolding own
nothing_own gains s Q q e i l =
    let k : i / width Q < Q = of_factors (λ Q. i / width Q < Q) (omega arith) (omega arith) (omega arith) (omega arith) (omega arith) Q q in
    let g : get_or gains (node Q (i / width Q)) 0 ≡ 0 = gain_zero _ (none_at Q _ e (i / width Q) k) in
    rw (g, zero-*ℤ)

-- so its entries are those that the round made
pub nothing_added : (gains : List ℕ) (s x : List ℤ) (Q : ℕ) → is_spreading_factor Q ≡ true → has_open gains Q ≡ false → listed 16 (raised x Q) ≡ level_entries gains s Q x
nothing_added gains s x Q q e = listed_cong 16 _ _ (λ i l. sym (rw (nothing_own gains s Q q e i l) (+ℤ_idr (raised x Q i))))

-- and with open codes their own part comes on top
pub round_with_own : (gains : List ℕ) (s x y : List ℤ) (Q : ℕ) → y ≡ listed 16 (raised x Q) → listed 16 (with_own gains s y Q) ≡ level_entries gains s Q x
round_with_own gains s x y Q e = listed_cong 16 _ _ (λ i l. ap (λ (t : ℤ). t +ℤ own gains s Q i) (ap (λ (y : List ℤ). get_or y i (pos 0)) e ∙ listed_at (raised x Q) (pos 0) 16 i l))
