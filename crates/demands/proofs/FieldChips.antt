-- The chips of a data field: what a slot has in it, and how large its components are. Assumes nothing.
use mathlib.Core.Path.{◌≡◌, refl, sym, ◌∙◌}
use mathlib.Core.Bool.{Bool, true, false, ◌&&◌, cond}
use mathlib.Core.List.{[], ◌∷◌}
use mathlib.Core.Option.{Option, none, some}
use Prim.Native.Nat.{ℕ, ◌+◌, ◌-◌, ◌%◌, ◌≤◌, ◌<◌, zero-le}
use native.Mathlib.Nat.{zero-add}
use native.Mathlib.Omega.{arith}
use borrow.Author.Tests.{lt-ltb, le-ltb}
use lib.Dec.{T, leb, ltb, lit≤, lit<}
use lib.ListN.{length, drop, length-drop}
use lib.Seq.{ext_get_or, get_or-drop, get_or-take, length-take-le}
use Rattle.complex.specs.declared.Complex.{Complex}
use Rattle.complex.specs.Arithmetic.{𝟎, ◌⊕◌}
use Rattle.complex.specs.Buffers.{listed}
use Rattle.complex.specs.Fits.{Both}
use Rattle.complex.proofs.Components.{both-⊕}
use Rattle.complex.proofs.Lists.{length_listed, listed_at}
use Rattle.codes.specs.Scrambling.{code_group}
use Rattle.codes.specs.Tree.{among}
use Rattle.codes.specs.Burst.{burst, burst_start}
use Rattle.codes.proofs.Factors.{of_all}
use Rattle.codes.proofs.Allocations.{allocation_known}
use Rattle.slot.specs.declared.parts.Parts.{Parts}
use Rattle.slot.specs.Setup.{SyncSetup, Setup}
use Rattle.slot.specs.Slot.{slot_parts, data_chip, sync_chip, slot_chip}
use Rattle.orthogonality.proofs.Unrelated.{Unrelated}
use Rattle.orthogonality.proofs.DataSizes.{data_within}
use Rattle.demands.specs.Fields.{Field, field_1, field_2, field_length, field_start, chips_before, entries_from}
use Rattle.demands.specs.Valid.{ValidSync, Valid}
use Rattle.demands.proofs.BurstCorrelations.{chips}
use Rattle.demands.proofs.BurstSizes.{chips_within}

-- ---- a part of the chips that were drawn
pub part_listed : {A : Type 0} (d : A) (g : ℕ → A) (at n count : ℕ) → at + n ≤ count → entries_from at n (listed count g) ≡ listed n (λ i. g (at + i))
part_listed d g at n count h =
    ext_get_or d _ _ (size ∙ sym (length_listed _ n))
    (λ i l.
    let m : i < n = omega (arith, size, l) in
    get_or-take n (drop at (listed count g)) i d m ∙ get_or-drop at (listed count g) i d ∙ listed_at g d count (at + i) (omega arith)
    ∙ sym (listed_at (λ i. g (at + i)) d n i m))
  where
    size : length (entries_from at n (listed count g)) ≡ n
    size = length-take-le n (drop at (listed count g)) (omega (arith, length-drop at (listed count g), length_listed g count))

-- ---- the lengths of a field
-- read takes every field: "length 0, above 1104 or no multiple of 16" is refused
pub record Readable (n : ℕ) : Type 0 where
  pub some : 0 < n
  pub at_most : n ≤ 1104
  pub blocks : n % 16 ≡ 0

readable_row : {n : ℕ} → T (ltb 0 n) → T (leb n 1104) → n % 16 ≡ 0 → Readable n
readable_row a b c = record { some = lit< a; at_most = lit≤ b; blocks = c }

pub readable : (s : Setup) → among s.type (1 ∷ 2 ∷ 3 ∷ []) ≡ true → (f : Field) → Readable (field_length s f)
unfolding slot_parts
readable s e field_1 =
    of_all (λ t. Readable (slot_parts t).field1) (1 ∷ 2 ∷ 3 ∷ []) (readable_row tt tt refl, (readable_row tt tt refl, (readable_row tt tt refl, tt))) s.type e
readable s e field_2 =
    of_all (λ t. Readable (slot_parts t).field2) (1 ∷ 2 ∷ 3 ∷ []) (readable_row tt tt refl, (readable_row tt tt refl, (readable_row tt tt refl, tt))) s.type e

-- ---- what stands in a field
-- the sync burst where it falls, by the chip's number in the field
abbrev pub field_sync : Setup → Field → ℕ → Complex
field_sync s f q = sync_chip s.cell s.sync (field_start s f + q)

-- "The slot's chip is the sum over open channels, plus the sync burst where it falls."
pub chip_in_field : (s : Setup) (f : Field) (q : ℕ) → q < field_length s f
    → slot_chip s (field_start s f + q) ≡ data_chip s (chips_before s f) q ⊕ field_sync s f q
unfolding slot_chip
chip_in_field s field_1 q l = rw (zero-add, lt-ltb q (slot_parts s.type).field1 l, zero-add)
chip_in_field s field_2 q l =
    let t = slot_parts s.type in
    let second = t.field1 + t.midamble in
    let x = second + q in
    let e : x - second ≡ q = omega arith in
    rw (le-ltb x t.field1 (omega arith), le-ltb x second (omega arith), lt-ltb x (second + t.field2) (omega arith), e)

-- ---- sizes
nothing_within : (k : ℕ) → Both k 𝟎
unfolding 𝟎
nothing_within k = record { re = record { size = zero-le }; im = record { size = zero-le } }

either_within : {k : ℕ} (b : Bool) {y z : Complex} → Both k y → Both k z → Both k (cond b y z)
either_within true h g = h
either_within false h g = g

burst_within : (case g frame half g_p g_s : ℕ) → g_p ≤ 4095 → g_s ≤ 4095 → (n : ℕ) → Both 28665 (burst case g frame half g_p g_s n)
unfolding burst chips
burst_within case g frame half g_p g_s p q n = chips_within g_p g_s _ (allocation_known case g frame half) p q n

pub sync_within : (s : Setup) → Valid s → (x : ℕ) → Both 28665 (sync_chip s.cell s.sync x)
unfolding sync_chip
sync_within s v x = go s.sync v.sync
  where
    go : (o : Option SyncSetup) → ((y : SyncSetup) → o ≡ some y → ValidSync s.type y) → Both 28665 (sync_chip s.cell o x)
    go none h = nothing_within 28665
    go (some y) h =
        let k = h y refl in
        let start = burst_start (code_group s.cell) in
        either_within (leb start x && ltb x (start + 256))
        (burst_within y.case (code_group s.cell) y.frame y.half y.g_p y.g_s k.P_at_most k.S_at_most (x - start)) (nothing_within 28665)

-- the sum over open channels
pub unrelated : (s : Setup) → Valid s → Unrelated s
unrelated s v Q k c o Q' k' c' o' r = v.apart Q k Q' k' o o' r

field_chip_within : (s : Setup) → Valid s → (before q x : ℕ) → Both 94185 (data_chip s before q ⊕ sync_chip s.cell s.sync x)
field_chip_within s v before q x =
    both-⊕ (data_within s (unrelated s v) (λ Q k c t e. (v.channel Q k c e).at_most) before q) (sync_within s v x)

-- every chip of a slot
pub chip_within : (s : Setup) → Valid s → (x : ℕ) → Both 94185 (slot_chip s x)
unfolding slot_chip
chip_within s v x =
    either_within (ltb x t.field1) (field_chip_within s v _ _ _)
    (either_within (ltb x second) (nothing_within 94185) (either_within (ltb x (second + t.field2)) (field_chip_within s v _ _ _) (nothing_within 94185)))
  where
    t : Parts
    t = slot_parts s.type

    second : ℕ
    second = t.field1 + t.midamble
