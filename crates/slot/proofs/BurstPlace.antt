-- Where the sync burst falls, and that the slot has all of it. Assumes nothing.
use mathlib.Core.Path.{◌≡◌, ap, ◌∙◌}
use mathlib.Core.Bool.{Bool, cond, ◌&&◌, ◌||◌, and-false}
use mathlib.Core.Logic.{◌⊎◌, inl, inr}
use mathlib.Core.Option.{Option, none, some}
use Prim.Native.Nat.{ℕ, ◌+◌, ◌-◌, ◌≤◌, ◌<◌}
use native.Mathlib.Nat.{zero-add}
use native.Mathlib.Omega.{arith}
use borrow.Author.Tests.{lt-ltb, le-ltb, le-leb, lt-leb}
use mir.Facts.{and_yes, or_yes}
use lib.Dec.{T, leb, leb→le}
use Rattle.complex.specs.declared.Complex.{Complex}
use Rattle.complex.specs.Arithmetic.{𝟎, ◌⊕◌}
use Rattle.complex.proofs.Ring.{⊕-𝟎}
use Rattle.codes.specs.Range.{each}
use Rattle.codes.specs.Scrambling.{code_group}
use Rattle.codes.specs.Burst.{burst, burst_start}
use Rattle.codes.proofs.Tests.{each_at}
use Rattle.slot.specs.declared.parts.Parts.{Parts}
use Rattle.slot.specs.Setup.{SyncSetup, Setup}
use Rattle.slot.specs.Slot.{slot_parts, data_chip, sync_chip, slot_chip}

-- the chip of the slot at which the burst of a cell starts
abbrev pub cell_start : ℕ → ℕ
cell_start p = burst_start (code_group p)

-- as the code finds it, by the cell's group g
pub start_found : (p g : ℕ) {r : ℕ} → p < 128 → g ≡ code_group p → r ≡ cond (leb 32 g) 0 (burst_start g) → r ≡ cell_start p
start_found p g h e q = q ∙ ap (λ (g : ℕ). cond (leb 32 g) 0 (burst_start g)) e ∙ rw (lt-leb 32 (code_group p) (omega arith))

-- ---- the burst where it falls, and nothing elsewhere
module _ (p : ℕ) (y : SyncSetup) where
  pub sync_inside : (n : ℕ) → n < 256 → sync_chip p (some y) (cell_start p + n) ≡ burst y.case (code_group p) y.frame y.half y.g_p y.g_s n
  unfolding sync_chip
  sync_inside n h =
      rw (le-leb (cell_start p) (cell_start p + n) (omega arith), lt-ltb (cell_start p + n) (cell_start p + 256) (omega arith))
      (ap (burst y.case (code_group p) y.frame y.half y.g_p y.g_s) from_start)
    where
      from_start : cell_start p + n - cell_start p ≡ n
      from_start = omega arith

  pub sync_outside : (x : ℕ) → (x < cell_start p) ⊎ (cell_start p + 256 ≤ x) → sync_chip p (some y) x ≡ 𝟎
  unfolding sync_chip
  sync_outside x (inl h) = rw (lt-leb (cell_start p) x h)
  sync_outside x (inr h) = rw (le-ltb x (cell_start p + 256) h, and-false)

-- ---- it falls inside one field
-- n chips from chip x on lie inside one field
abbrev pub InsideField : Parts → ℕ → ℕ → Type 0
InsideField t x n = (x + n ≤ t.field1) ⊎ ((t.field1 + t.midamble ≤ x) × (x + n ≤ t.field1 + t.midamble + t.field2))

fits_first : Parts → ℕ → Bool
fits_first t g = leb (burst_start g + 256) t.field1

fits_second : Parts → ℕ → Bool
fits_second t g = leb (t.field1 + t.midamble) (burst_start g) && leb (burst_start g + 256) (t.field1 + t.midamble + t.field2)

groups_test : T (each 32 (λ g. fits_first (slot_parts 1) g || fits_second (slot_parts 1) g))
unfolding each fits_first fits_second slot_parts
groups_test = tt

-- "256 chips, unscrambled, starting at chip 48g for g below 16 and 720 + 48g from 16 on": in a slot of type 1 none of them is a midamble or guard chip
pub burst_inside : (g : ℕ) → g < 32 → InsideField (slot_parts 1) (burst_start g) 256
unfolding fits_first fits_second
burst_inside g h =
    read (or_yes (fits_first t g) (fits_second t g) (each_at 32 (λ g. fits_first t g || fits_second t g) groups_test g h))
  where
    t : Parts
    t = slot_parts 1

    read : T (fits_first t g) ⊎ T (fits_second t g) → InsideField t (burst_start g) 256
    read (inl a) = inl (leb→le _ _ a)
    read (inr b) = let both = and_yes (leb (t.field1 + t.midamble) (burst_start g)) _ b in inr (leb→le _ _ both.0, leb→le _ _ both.1)

-- ---- so the slot has it whole
-- the settings with no sync: the sum over open channels alone
abbrev pub without_sync : Setup → Setup
without_sync s = record { cell = s.cell; type = s.type; channel = s.channel; sync = none }

-- a chip of a field is that sum plus the burst's chip
field_chip_is : (s : Setup) (x : ℕ) → InsideField (slot_parts s.type) x 1 → slot_chip s x ≡ slot_chip (without_sync s) x ⊕ sync_chip s.cell s.sync x
unfolding slot_chip data_chip sync_chip
field_chip_is s x (inl h) =
    let t = slot_parts s.type in
    rw (lt-ltb x t.field1 (omega arith), zero-add, ⊕-𝟎)
field_chip_is s x (inr h) =
    let t = slot_parts s.type in
    let second = t.field1 + t.midamble in
    let e : second + (x - second) ≡ x = omega arith in
    rw (le-ltb x t.field1 (omega arith), le-ltb x second h.0, lt-ltb x (second + t.field2) (omega arith), e, ⊕-𝟎)

-- "The slot's chip is the sum over open channels, plus the sync burst where it falls": so of each of the burst's 256 chips
pub burst_whole : (s : Setup) (y : SyncSetup) → s.type ≡ 1 → s.cell < 128 → s.sync ≡ some y → (n : ℕ) → n < 256
    → let g = code_group s.cell in let x = burst_start g + n in
    slot_chip s x ≡ slot_chip (without_sync s) x ⊕ burst y.case g y.frame y.half y.g_p y.g_s n
burst_whole s y t c e n h =
    let g = code_group s.cell in
    let x = burst_start g + n in
    let f : InsideField (slot_parts s.type) x 1 = rw t (one (slot_parts 1) (burst_start g) (burst_inside g (omega arith))) in
    field_chip_is s x f ∙ ap (λ (z : Complex). slot_chip (without_sync s) x ⊕ z) (ap (λ (o : Option SyncSetup). sync_chip s.cell o x) e ∙ sync_inside s.cell y n h)
  where
    one : (t : Parts) (x : ℕ) → InsideField t x 256 → InsideField t (x + n) 1
    one t x (inl a) = inl (omega arith)
    one t x (inr b) = inr (omega arith, omega arith)
