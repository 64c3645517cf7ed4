-- What the burst adds to sixteen chips of the slot from a multiple of 16 on: nothing, or one of its parts. Assumes nothing.
use mathlib.Core.Path.{◌≡◌, refl, sym, subst, ap, ◌∙◌}
use mathlib.Core.Bool.{Bool, true, false, cond, ◌&&◌, ◌||◌, or-true, false≢true}
use mathlib.Core.Logic.{◌⊎◌, inl, inr}
use mathlib.Core.Option.{Option, none, some}
use Prim.Native.Nat.{ℕ, ◌+◌, ◌*◌, ◌-◌, ◌/◌, ◌%◌, ◌≤◌, ◌<◌}
use native.Mathlib.Decide.{dec_le}
use native.Mathlib.Nat.{lt_of_not-le}
use native.Mathlib.Omega.{arith}
use borrow.Author.Tests.{eq-eqb, ne_eqb, le-leb, lt-leb, lt-ltb, leb-false}
use mir.Facts.{and_yes}
use lib.Dec.{T, eqb, leb, leb→le, ltb, ltb→lt, lit≤}
use Rattle.complex.specs.Buffers.{block_of}
use Rattle.complex.specs.Arithmetic.{𝟎}
use Rattle.complex.specs.Fits.{Both}
use Rattle.complex.proofs.Components.{both_more}
use Rattle.codes.specs.Scrambling.{code_group}
use Rattle.codes.specs.Burst.{burst, burst_start}
use Rattle.codes.proofs.Tests.{neither}
use Rattle.complex.proofs.Blocks.{block_cong}
use Rattle.modulation.proofs.BurstParts.{burst_both}
use Rattle.slot.specs.declared.Sync.{Sync}
use Rattle.slot.specs.Setup.{SyncSetup}
use Rattle.slot.specs.Slot.{burst_falls_on, sync_chip}
use Rattle.slot.specs.View.{view_sync}
use Rattle.slot.proofs.BurstPlace.{cell_start, sync_inside, sync_outside}

-- ---- the settings as the struct holds them
abbrev pub viewed : Sync → SyncSetup
viewed y = record { case = y.case; frame = y.frame; half = y.half; g_p = y.gp; g_s = y.gs }

pub view_off : (p : ℕ) (y : Sync) → (y.on ≡ 0) ⊎ (128 ≤ p) → view_sync p y ≡ none
unfolding view_sync
view_off p y (inl h) = rw (eq-eqb y.on 0 h)
view_off p y (inr h) = rw (le-leb 128 p h, or-true)

pub view_on : (p : ℕ) (y : Sync) → (y.on ≡ 0 → ⊥) → p < 128 → view_sync p y ≡ some (viewed y)
unfolding view_sync
view_on p y h g = rw (ne_eqb y.on 0 h, lt-leb 128 p g)

-- ---- block by block
-- a burst starts at a multiple of 16
start_multiple : (g : ℕ) → burst_start g % 16 ≡ 0
start_multiple g = go (ltb g 16)
  where
    go : (t : Bool) → cond t (48 * g) (720 + 48 * g) % 16 ≡ 0
    go true = omega arith
    go false = omega arith

-- so sixteen chips from a multiple of 16 on are in it as the first of them is
module _ (p : ℕ) (y : SyncSetup) (x : ℕ) (m : x % 16 ≡ 0) where
  abbrev start : ℕ
  start = cell_start p

  outside : (x < start) ⊎ (start + 256 ≤ x) → (i : ℕ) → i < 16 → sync_chip p (some y) (x + i) ≡ 𝟎
  outside h i l = sync_outside p y (x + i) (shifted h)
    where
      shifted : (x < start) ⊎ (start + 256 ≤ x) → (x + i < start) ⊎ (start + 256 ≤ x + i)
      shifted (inl h) = inl (omega (arith, start_multiple (code_group p)))
      shifted (inr h) = inr (omega arith)

  pub block_inside : start ≤ x → x < start + 256
      → block_of (λ i. burst y.case (code_group p) y.frame y.half y.g_p y.g_s ((x - start) / 16 * 16 + i)) ≡ block_of (λ i. sync_chip p (some y) (x + i))
  block_inside h g = block_cong _ _ (λ i l. sym (ap (sync_chip p (some y)) (place i) ∙ sync_inside p y ((x - start) / 16 * 16 + i) (below i l)))
    where
      place : (i : ℕ) → x + i ≡ start + ((x - start) / 16 * 16 + i)
      place i = omega (arith, start_multiple (code_group p))

      below : (i : ℕ) → i < 16 → (x - start) / 16 * 16 + i < 256
      below i l = omega arith

-- ---- where it falls, by the test
-- nowhere on the sixteen chips
pub falls_nowhere : (p : ℕ) (o : Option SyncSetup) (x : ℕ) → x % 16 ≡ 0 → burst_falls_on p o x ≡ false → (i : ℕ) → i < 16 → sync_chip p o (x + i) ≡ 𝟎
unfolding sync_chip
falls_nowhere p none x m e i l = refl
falls_nowhere p (some y) x m e i l = outside p y x m (either (dec_le (cell_start p) x) (dec_le (cell_start p + 256) x)) i l
  where
    either : Dec (cell_start p ≤ x) → Dec (cell_start p + 256 ≤ x) → (x < cell_start p) ⊎ (cell_start p + 256 ≤ x)
    either (no h) d = inl (lt_of_not-le h)
    either (yes h) (yes g) = inr g
    either (yes h) (no g) = absurd (false≢true (sym (rw (le-leb _ _ h, lt-ltb _ _ (lt_of_not-le g)) at e)))

-- on them
pub falls_there : (p : ℕ) (y : Sync) (x : ℕ) → burst_falls_on p (view_sync p y) x ≡ true
    → (view_sync p y ≡ some (viewed y)) × (p < 128) × (cell_start p ≤ x) × (x < cell_start p + 256)
unfolding view_sync
falls_there p y x e = go (eqb y.on 0 || leb 128 p) refl e
  where
    go : (b : Bool) → (eqb y.on 0 || leb 128 p) ≡ b → burst_falls_on p (cond b none (some (viewed y))) x ≡ true
        → (cond b none (some (viewed y)) ≡ some (viewed y)) × (p < 128) × (cell_start p ≤ x) × (x < cell_start p + 256)
    go true h e = absurd (false≢true e)
    go false h e =
        let t = and_yes (leb (cell_start p) x) (ltb x (cell_start p + 256)) (subst T (sym e) tt) in
        (refl, leb-false 128 p (neither (eqb y.on 0) (leb 128 p) h).1, leb→le (cell_start p) x t.0, ltb→lt x (cell_start p + 256) t.1)

-- ---- its size
none_both : Both 1000000 𝟎
unfolding 𝟎
none_both = record { re = record { size = lit≤ tt }; im = record { size = lit≤ tt } }

sync_both : (p : ℕ) (y : SyncSetup) → y.g_p ≤ 65535 → y.g_s ≤ 65535 → (x : ℕ) → Both 1000000 (sync_chip p (some y) x)
unfolding sync_chip
sync_both p y hP hS x = go (leb (cell_start p) x && ltb x (cell_start p + 256)) near
  where
    near : T (leb (cell_start p) x && ltb x (cell_start p + 256)) → x - cell_start p < 256
    near t = let b : x < cell_start p + 256 = ltb→lt x _ (and_yes (leb (cell_start p) x) _ t).1 in omega arith

    go : (t : Bool) → (T t → x - cell_start p < 256) → Both 1000000 (cond t (burst y.case (code_group p) y.frame y.half y.g_p y.g_s (x - cell_start p)) 𝟎)
    go true h = both_more (burst_both _ _ _ _ _ _ _ hP hS (h tt)) 1000000 (lit≤ tt)
    go false h = none_both

pub view_both : (p : ℕ) (y : Sync) → y.gp ≤ 65535 → y.gs ≤ 65535 → (x : ℕ) → Both 1000000 (sync_chip p (view_sync p y) x)
unfolding sync_chip view_sync
view_both p y hP hS x = go (eqb y.on 0 || leb 128 p)
  where
    go : (t : Bool) → Both 1000000 (sync_chip p (cond t none (some (viewed y))) x)
    go true = none_both
    go false = sync_both p (viewed y) hP hS x
