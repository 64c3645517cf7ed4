-- Noise, chip by chip: what the two loops keep that try it and that add it. Assumes nothing.
use Rattle.std.proofs.Common.{◌≡◌, ℕ, ◌+◌, ◌-◌, ◌<◌, ◌≤◌, min, Bool, true, false, cond, List, ◌++◌, length, get_or, take, drop, set, ℤ, pos, ◌+ℤ◌, SFits, Ok, Err, refl, sym, ap, ap₂, ◌∙◌, subst, arith, add-one, take-append-drop, length-take-le, length-drop}
use Rattle.std.proofs.lemmas.List.{set-append_right, get_or-append_right, get_or-drop}
use native.Mathlib.Decide.{ℕ_discrete}
use mir.Facts.{to_z-of_z}
use Rattle.std.specs.Int.{w32}
use Rattle.complex.specs.declared.Complex.{Complex}
use Rattle.complex.specs.Arithmetic.{◌+j◌, ◌⊕◌}
use Rattle.complex.specs.Buffers.{value, listed, written}
use Rattle.complex.specs.Fits.{Fits32}
use Rattle.complex.proofs.Lists.{length_listed, one_more_written}
use Rattle.complex.proofs.Machine.{add_gives}
use Rattle.complex.proofs.Ring.{by_components}
use Rattle.complex.proofs.Stored.{held}
use Rattle.script.specs.declared.commands.Part.{Part}
use Rattle.script.specs.declared.memory.Memory.{Memory}
use Rattle.script.specs.Noise.{next_state, chip_noise, state_before, with_entries, with_noise}

-- "SEED 1 and SIZE 10 give 8, 8, 1, 7"
pub first_numbers : (chip_noise 10 (state_before 1 0) ≡ pos 8 +j pos 8) × (chip_noise 10 (state_before 1 1) ≡ pos 1 +j pos 7)
first_numbers = (refl, refl)

-- what a test that passed gives
pub ok_if : {A E : Type 0} (b : Bool) {x : A} (y : A) (e : E) → Ok x ≡ cond b (Ok y) (Err e) → x ≡ y
ok_if true y e h = cc
ok_if false y e h = cc

-- a sum as the machine makes it
module _ {x y : ℤ} (f : SFits w32 x) (g : SFits w32 y) where
  pub sum_fits : SFits w32 (held x +ℤ held y) → SFits w32 (x +ℤ y)
  sum_fits h = rw (to_z-of_z f, to_z-of_z g) at h

  pub sum_is : {r : ℤ} → SFits w32 (held x +ℤ held y) → r ≡ held x +ℤ held y → held r ≡ x +ℤ y
  sum_is h e = rw e (add_gives f g (sum_fits h))

-- ---- entries of a list
module _ (f : ℕ → ℤ) (l : List ℤ) (from : ℕ) where
  pub no_entries : with_entries from 0 f l ≡ l
  unfolding listed
  no_entries = take-append-drop from l

  module _ (n : ℕ) (h : from + n < length l) where
    front : length (take from l) ≡ from
    front = length-take-le from l (omega arith)

    past : (from + n) - from ≡ n
    past = omega arith

    -- a loop sets entry n
    pub one_more_entry : set (with_entries from n f l) (from + n) (f n) ≡ with_entries from (n + 1) f l
    one_more_entry =
        set-append_right (take from l) (written (listed n f) (drop from l)) from (from + n) (f n) front (omega arith)
        ∙ ap (λ (k : ℕ). take from l ++ set (written (listed n f) (drop from l)) k (f n)) past
        ∙ ap (λ (t : List ℤ). take from l ++ t) (one_more_written f (drop from l) n (omega (arith, length-drop from l)))

    -- before that it is the list's own
    pub next_entry : (d : ℤ) → get_or (with_entries from n f l) (from + n) d ≡ get_or l (from + n) d
    next_entry d =
        get_or-append_right (take from l) (written (listed n f) (drop from l)) from (from + n) d front (omega arith)
        ∙ ap (λ (k : ℕ). get_or (written (listed n f) (drop from l)) k d) past
        ∙ get_or-append_right (listed n f) (drop (length (listed n f)) (drop from l)) n n d (length_listed f n) (omega arith)
        ∙ ap (λ (k : ℕ). get_or (drop k (drop from l)) (n - n) d) (length_listed f n)
        ∙ get_or-drop n (drop from l) (n - n) d
        ∙ get_or-drop from l (n + (n - n)) d
        ∙ ap (λ (k : ℕ). get_or l (from + k) d) back
      where
        back : n + (n - n) ≡ n
        back = omega arith

-- ---- the loops, whose chip i is chip n of the part
-- chip n of the part with its noise
abbrev pub noised : Memory → ℕ → ℕ → ℕ → ℕ → Complex
noised old from seed size n = value old.recording.re old.recording.im (from + n) ⊕ chip_noise size (state_before seed n)

-- the first n chips are there and can take their noise, and the generator has gone on by as many
pub record Tried (old : Memory) (from seed size n state : ℕ) : Type 0 where
  pub reached : state ≡ state_before seed n
  pub each : (k : ℕ) → k < n → (from + k < 54784) × Fits32 (noised old from seed size k)

-- the first n chips have their noise, and the generator has gone on by as many
pub record Added (old : Memory) (from seed size n state : ℕ) (m : Memory) : Type 0 where
  pub reached : state ≡ state_before seed n
  pub memory : m ≡ with_noise (record { from = from; count = n }) seed size old

-- the state after one more chip
one_more_state : (seed n : ℕ) {n' s s' : ℕ} → n' ≡ n + 1 → s ≡ state_before seed n → s' ≡ next_state (next_state s) → s' ≡ state_before seed n'
one_more_state seed n e f g = rw (e, add-one, g, f) refl

module _ (old : Memory) (from seed size : ℕ) where
  -- chip i, which is z, can take its noise too
  pub tried_more : {n n' i s s' : ℕ} {z : Complex} → Tried old from seed size n s → size ≤ 100000 → i ≡ from + n → n' ≡ n + 1 → i < 54784
      → z ≡ value old.recording.re old.recording.im i → s' ≡ next_state (next_state s) → Fits32 (z ⊕ chip_noise (min size 100000) s) → Tried old from seed size n' s'
  tried_more {n} {n'} {i} {s} {s'} {z} h l e f b g t fits = record { reached = one_more_state seed n f h.reached t; each = λ k m. pick k m (ℕ_discrete k n) }
    where
      least : min size 100000 ≡ size
      least = omega arith

      here : Fits32 (noised old from seed size n)
      here = rw (g, e, least, h.reached) at fits

      pick : (k : ℕ) → k < n' → Dec (k ≡ n) → (from + k < 54784) × Fits32 (noised old from seed size k)
      pick k m (yes q) = (omega arith, rw q here)
      pick k m (no q) = h.each k (omega arith)

  -- before the first chip
  pub added_none : {n s : ℕ} → n ≡ 0 → s ≡ seed → Added old from seed size n s old
  added_none {s = s} z e = subst (λ (n : ℕ). Added old from seed size n s old) (sym z) (record {
    reached = e;
    memory = λ j. record old { recording = record { re = sym (no_entries (λ n. (noised old from seed size n).re) old.recording.re from) j; im = sym (no_entries (λ n. (noised old from seed size n).im) old.recording.im from) j } };
  })

  -- chip i, which is z, is next, and the arrays reach so far
  module _ {n i s : ℕ} {m : Memory} {z : Complex} (h : Added old from seed size n s m) (small : size ≤ 100000) (at : i ≡ from + n) (re : from + n < length old.recording.re) (im : from + n < length old.recording.im) (own : z ≡ value m.recording.re m.recording.im i) where
    same : z ⊕ chip_noise (min size 100000) s ≡ noised old from seed size n
    same = ap₂ ◌⊕◌ (own ∙ was) (rw (least, h.reached) refl)
      where
        least : min size 100000 ≡ size
        least = omega arith

        was : value m.recording.re m.recording.im i ≡ value old.recording.re old.recording.im (from + n)
        was =
            rw (h.memory, at)
            (by_components
            (next_entry (λ k. (noised old from seed size k).re) old.recording.re from n re (pos 0))
            (next_entry (λ k. (noised old from seed size k).im) old.recording.im from n im (pos 0)))

    -- it takes its noise, as it did when that was tried
    pub takes_noise : Fits32 (noised old from seed size n) → Fits32 (z ⊕ chip_noise (min size 100000) s)
    takes_noise f = rw same f

    -- it has its noise, w, and all else stays
    pub added_more : {n' s' : ℕ} {w : Complex} (m' : Memory) → n' ≡ n + 1 → s' ≡ next_state (next_state s) → w ≡ z ⊕ chip_noise (min size 100000) s
        → m'.recording.re ≡ set m.recording.re i w.re → m'.recording.im ≡ set m.recording.im i w.im
        → m'.readings ≡ m.readings → m'.code ≡ m.code → m'.bits ≡ m.bits → Added old from seed size n' s' m'
    added_more {n'} {s'} {w} m' f t g p q a b c = record {
      reached = one_more_state seed n f h.reached t;
      memory = λ j. record { recording = record { re = res j; im = ims j }; readings = (a ∙ ap (λ (x : Memory). x.readings) h.memory) j; code = (b ∙ ap (λ (x : Memory). x.code) h.memory) j; bits = (c ∙ ap (λ (x : Memory). x.bits) h.memory) j };
    }
      where
        noisy : w ≡ noised old from seed size n
        noisy = g ∙ same

        res : m'.recording.re ≡ with_entries from n' (λ k. (noised old from seed size k).re) old.recording.re
        res = p ∙ rw (h.memory, at, noisy, f) (one_more_entry (λ k. (noised old from seed size k).re) old.recording.re from n re)

        ims : m'.recording.im ≡ with_entries from n' (λ k. (noised old from seed size k).im) old.recording.im
        ims = q ∙ rw (h.memory, at, noisy, f) (one_more_entry (λ k. (noised old from seed size k).im) old.recording.im from n im)

  -- the whole part has its noise
  pub added_all : {n s : ℕ} {m : Memory} {part : Part} → Added old from seed size n s m → from ≡ part.from → n ≡ part.count → m ≡ with_noise part seed size old
  added_all {m = m} h p q = subst (λ (x : Part). m ≡ with_noise x seed size old) (λ j. record { from = p j; count = q j }) h.memory
