-- What read gives for a data field of a slot whose chips were drawn in order. Assumes nothing.
use mathlib.Core.Path.{◌≡◌, refl, ap, ap₂, ◌∙◌, sym, subst}
use mathlib.Core.Bool.{true, false, not}
use mathlib.Core.List.{List}
use mathlib.Core.Option.{Option, none, some}
use Prim.Native.Nat.{ℕ, ◌+◌, ◌*◌, ◌/◌, ◌%◌, ◌≤◌, ◌<◌}
use native.Mathlib.Nat.{div-mul-le_self, mul-le-mul_right}
use native.Mathlib.Omega.{arith}
use borrow.Author.Tests.{not-true, lt-leb, le-ltb, eq-eqb, ne_eqb}
use lib.Dec.{T, lit≤}
use lib.IntN.{ℤ, pos}
use lib.ListN.{length}
use Rattle.complex.specs.declared.Complex.{Complex}
use Rattle.complex.specs.Arithmetic.{real, 𝟎, ◌⊕◌, ◌⊗◌, conj}
use Rattle.complex.specs.Buffers.{value, Values, in_buffers}
use Rattle.complex.specs.Fits.{Both}
use Rattle.complex.proofs.Lists.{length_listed, listed_cong, value_in_buffers}
use Rattle.complex.proofs.Ring.{𝟎-⊗}
use Rattle.complex.proofs.Sizes.{within_more}
use Rattle.complex.proofs.Sums.{Σ_cong, Σ_𝟎}
use Rattle.codes.specs.Refusals.{Answer, gives}
use Rattle.codes.specs.Scrambling.{scrambling_element}
use Rattle.codes.specs.Tree.{is_code, element}
use Rattle.codes.proofs.Tests.{each_at, T_true}
use Rattle.slot.specs.Setup.{SyncSetup, Setup}
use Rattle.slot.specs.Slot.{data_chip, burst_falls_on, sync_chip, slot_chip}
use Rattle.analyser_parts.proofs.Ranges.{none_outside}
use Rattle.read.specs.Reading.{reading, read_call}
use Rattle.demands.specs.AcceptedStarts.{AcceptedStart, InOrder}
use Rattle.demands.specs.Fields.{Field, field_length, field_start, chips_before, entries_from, AreDrawn, DrawnWhole, chips_from, drawn_field, reading_count, Suffice, no_burst}
use Rattle.demands.specs.Valid.{Valid}
use Rattle.demands.proofs.Readings.{reading_additive}
use Rattle.demands.proofs.Entries.{code_of}
use Rattle.demands.proofs.FieldChips.{part_listed, Readable, readable, field_sync, chip_in_field, chip_within}

-- equal values, equal buffers
pub in_buffers_cong : (n : ℕ) (f g : ℕ → Complex) → ((i : ℕ) → i < n → f i ≡ g i) → in_buffers n f ≡ in_buffers n g
in_buffers_cong n f g h = λ i. record { re = listed_cong n (λ j. (f j).re) (λ j. (g j).re) (λ j l. ap (λ (x : Complex). x.re) (h j l)) i; im = listed_cong n (λ j. (f j).im) (λ j. (g j).im) (λ j l. ap (λ (x : Complex). x.im) (h j l)) i }

-- ---- a reading depends on its own chips alone
module _ (p Q k : ℕ) where
  reading_cong : (x y : ℕ → Complex) (n : ℕ) → ((i : ℕ) → i < Q → x (n * Q + i) ≡ y (n * Q + i)) → reading p Q k x n ≡ reading p Q k y n
  unfolding reading
  reading_cong x y n h = Σ_cong Q _ _ (λ i l. ap (λ (z : Complex). z ⊗ conj (scrambling_element p (1 + (n * Q + i) % 16)) ⊗ real (element Q k i)) (h i l))

  -- chips that are all 0 read 0
  pub silent_reading : (n : ℕ) → reading p Q k (λ q. 𝟎) n ≡ 𝟎
  unfolding reading
  silent_reading n = Σ_cong Q _ (λ i. 𝟎) (λ i l. rw (𝟎-⊗, 𝟎-⊗)) ∙ Σ_𝟎 Q

  -- the chips of reading n of a field of m chips
  inside : (m n i : ℕ) → n < m / Q → i < Q → n * Q + i < m
  inside m n i l h = omega (arith, div-mul-le_self m Q, mul-le-mul_right Q l)

  pub field_cong : (m : ℕ) (x y : ℕ → Complex) → ((q : ℕ) → q < m → x q ≡ y q) → (n : ℕ) → n < m / Q → reading p Q k x n ≡ reading p Q k y n
  field_cong m x y h n l = reading_cong x y n (λ i g. h (n * Q + i) (inside m n i l g))

-- ---- read accepts a field whose components are in range
module _ (p Q k n : ℕ) (x : ℕ → Complex) (l : p < 128) (c : is_code Q k ≡ true) (r : Readable n) (h : (q : ℕ) → q < n → Both 94185 (x q)) where
  pub read_gives : (m m' : ℕ) → n / Q ≤ m → n / Q ≤ m' → read_call p Q k (in_buffers n x).re (in_buffers n x).im m m' ≡ gives (in_buffers (n / Q) (reading p Q k x))
  read_gives m m' a b =
      let code = code_of Q k c in
      rw (
        lt-leb 128 p l,
        code.factor,
        lt-leb Q k code.below,
        length_listed (λ i. (x i).re) n,
        length_listed (λ i. (x i).im) n,
        eq-eqb n n refl,
        ne_eqb n 0 (λ e. omega arith),
        le-ltb 1104 n r.at_most,
        eq-eqb (n % 16) 0 r.blocks,
        none_outside n (λ i. (x i).re) (λ i g. within_more (h i g).re _ (lit≤ tt)),
        none_outside n (λ i. (x i).im) (λ i g. within_more (h i g).im _ (lit≤ tt)),
        le-ltb m (n / Q) a,
        le-ltb m' (n / Q) b,
      )
      (ap gives (in_buffers_cong (n / Q) _ _ (λ j g. field_cong p Q k n _ x (value_in_buffers n x) j g)))

-- ---- a field of a slot whose chips were drawn
-- where no burst chip falls, the chip is 0
no_sync_chip : (p : ℕ) (y : Option SyncSetup) (x : ℕ) → burst_falls_on p y x ≡ false → sync_chip p y x ≡ 𝟎
unfolding sync_chip
no_sync_chip p none x e = refl
no_sync_chip p (some y) x e = rw e

pub quiet_chip : (s : Setup) (x n : ℕ) → no_burst s x n ≡ true → (i : ℕ) → i < n → sync_chip s.cell s.sync (x + i) ≡ 𝟎
quiet_chip s x n e i l = no_sync_chip s.cell s.sync (x + i) (not-true _ (T_true _ (each_at n (λ i. not (burst_falls_on s.cell s.sync (x + i))) (subst T (sym e) tt) i l)))

-- what read gives with a start's cell parameter
abbrev pub read_of : Setup → ℕ → ℕ → Values → Values → Answer Values
read_of s Q k field out = read_call s.cell Q k field.re field.im (length out.re) (length out.im)

-- what the data of a field reads, and what the burst reads
abbrev pub of_data : Setup → Field → ℕ → ℕ → ℕ → Complex
of_data s f Q k = reading s.cell Q k (data_chip s (chips_before s f))

abbrev pub of_burst : Setup → Field → ℕ → ℕ → ℕ → Complex
of_burst s f Q k = reading s.cell Q k (field_sync s f)

module _ (slot : AcceptedStart) (v : Valid slot.settings) (o : InOrder slot) where
  abbrev s : Setup
  s = slot.settings

  -- the drawn chips from chip x to chip x + n - 1
  pub drawn_part : (x n : ℕ) → AreDrawn slot x n → chips_from slot x n ≡ in_buffers n (λ i. slot_chip s (x + i))
  drawn_part x n d =
      let e = o.chips in
      let l : length slot.chips.re ≡ o.count = ap (λ (w : Values). length w.re) e ∙ length_listed _ o.count in
      ap (λ (w : Values). record { re = entries_from x n w.re; im = entries_from x n w.im }) e
      ∙ ap₂ (λ (re im : List ℤ). record { re = re; im = im })
      (part_listed (pos 0) (λ i. (slot_chip s i).re) x n o.count (omega (arith, l)))
      (part_listed (pos 0) (λ i. (slot_chip s i).im) x n o.count (omega (arith, l)))

  pub drawn_chip : (x : ℕ) → x < length slot.chips.re → value slot.chips.re slot.chips.im x ≡ slot_chip s x
  drawn_chip x l =
      let e = o.chips in
      ap (λ (w : Values). value w.re w.im x) e
      ∙ value_in_buffers o.count (slot_chip s) x (omega (arith, ap (λ (w : Values). length w.re) e, length_listed (λ i. (slot_chip s i).re) o.count))

  module _ (f : Field) (Q k : ℕ) (c : is_code Q k ≡ true) where
    abbrev count : ℕ
    count = reading_count s f Q

    parts : (n : ℕ) → n < count → reading s.cell Q k (λ q. slot_chip s (field_start s f + q)) n ≡ of_data s f Q k n ⊕ of_burst s f Q k n
    parts n l =
        field_cong s.cell Q k (field_length s f) _ (λ q. data_chip s (chips_before s f) q ⊕ field_sync s f q) (chip_in_field s f) n l
        ∙ reading_additive s.cell Q k (data_chip s (chips_before s f)) (field_sync s f) n

    -- read accepts every field that was drawn whole, and burst and data add up
    pub reads : DrawnWhole slot f → (out : Values) → Suffice s f Q out
        → read_of s Q k (drawn_field slot f) out ≡ gives (in_buffers count (λ n. of_data s f Q k n ⊕ of_burst s f Q k n))
    reads d out w =
        ap (λ (field : Values). read_of s Q k field out) (drawn_part (field_start s f) (field_length s f) d)
        ∙ read_gives s.cell Q k (field_length s f) (λ q. slot_chip s (field_start s f + q)) v.cell c (readable s v.type f)
        (λ q l. chip_within s v _) (length out.re) (length out.im) w.re w.im
        ∙ ap gives (in_buffers_cong count _ (λ n. of_data s f Q k n ⊕ of_burst s f Q k n) parts)
