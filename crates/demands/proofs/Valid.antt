-- What the settings of every bench satisfy: cell parameter and type are listed, the open codes are codes and unrelated, gains and bits are in their
-- ranges. Each accepted call keeps it. Assumes nothing.
use mathlib.Core.Path.{◌≡◌, refl, sym, subst, ◌∙◌}
use mathlib.Core.Logic.{◌⊎◌, inl, inr}
use mathlib.Core.Bool.{Bool, true, false, not, ◌&&◌, cond, and_comm, or_comm, true≢false, false≢true}
use mathlib.Core.List.{List, [], ◌∷◌}
use mathlib.Core.Option.{Option, none, some, none-ne-some, some-injective}
use Prim.Native.Nat.{ℕ, zero, suc, ◌≤◌, ◌<◌}
use native.Mathlib.Omega.{arith}
use borrow.Author.Tests.{leb-false, eqb-true, not-false}
use lib.Dec.{T, eqb, eqb→eq}
use lib.ListN.{get_or, replicate, length-replicate}
use mir.Facts.{and_yes}
use Rattle.codes.specs.Tree.{among, is_code, at_or_above, related}
use Rattle.codes.specs.Allocation.{one_or_two}
use Rattle.codes.proofs.Refused.{Passed}
use Rattle.codes.proofs.Tests.{neither}
use Rattle.slot.specs.Setup.{ChannelSetup, SyncSetup, Setup, is_some, is_open}
use Rattle.slot.specs.Slot.{bit_count}
use Rattle.tables.proofs.Blocks.{is_bit}
use Rattle.bench.specs.BenchCalls.{bad_gain, related_to_open, set_cell_refusals, open_refusals, close_refusals, set_gain_refusals, load_bits_refusals, set_sync_refusals}
use Rattle.bench.proofs.Accepted.{good_code, gain_range}
use Rattle.demands.specs.Reference.{cell_set, fresh_reference, with_channel, opened, closed, channel_changed, gain_set, bits_loaded, sync_changed, nothing_open}
use Rattle.demands.specs.Valid.{ValidChannel, ValidSync, Valid, ValidReference}
use Rattle.demands.proofs.Entries.{code_of, no_code_passes}
use Rattle.demands.proofs.TableLaws.{OnlyItself}

-- ---- settings with nothing open
none_open_valid : (p t : ℕ) (y : Option SyncSetup) → p < 128 → among t (1 ∷ 2 ∷ 3 ∷ []) ≡ true → ((z : SyncSetup) → y ≡ some z → ValidSync t z)
    → Valid (record { cell = p; type = t; channel = λ Q k. none; sync = y })
none_open_valid p t y c d f =
    record {
      cell = c;
      type = d;
      code = λ Q k o. absurd (false≢true o);
      apart = λ Q k Q' k' o o' r. absurd (false≢true o);
      channel = λ Q k x e. absurd (none-ne-some x e);
      sync = f;
    }

no_sync_held : (t : ℕ) (y : SyncSetup) → none ≡ some y → ValidSync t y
no_sync_held t y e = absurd (none-ne-some y e)

pub cell_set_valid : (p t : ℕ) → Passed (set_cell_refusals p t) → Valid (cell_set p t)
cell_set_valid p t h = none_open_valid p t none (leb-false 128 p h.0) (not-false _ h.1.0) (no_sync_held t)

pub fresh_valid : Valid (cell_set 0 1)
fresh_valid = none_open_valid 0 1 none (omega arith) refl (no_sync_held 1)

pub nothing_open_valid : (s : Setup) → Valid s → Valid (nothing_open s)
nothing_open_valid s v = none_open_valid s.cell s.type s.sync v.cell v.type v.sync

-- ---- what one code holds is changed
pub related_sym : (Q k Q' k' : ℕ) → related Q k Q' k' ≡ related Q' k' Q k
unfolding related
related_sym Q k Q' k' = rw (and_comm (is_code Q k), or_comm (at_or_above Q k Q' k'))

same_code : (Q k Q' k' : ℕ) → (eqb Q' Q && eqb k' k) ≡ true → (Q' ≡ Q) × (k' ≡ k)
same_code Q k Q' k' e =
    let p = and_yes (eqb Q' Q) (eqb k' k) (subst T (sym e) tt) in
    (eqb→eq Q' Q p.0, eqb→eq k' k p.1)

-- code (Q', k') is (Q, k), or was open
abbrev Was : Setup → ℕ → ℕ → ℕ → ℕ → Type 0
Was s Q k Q' k' = ((Q' ≡ Q) × (k' ≡ k)) ⊎ (is_open s Q' k' ≡ true)

-- the code is a code, unrelated to the open ones but itself, and what it then holds is in its ranges
module _ (s : Setup) (v : Valid s) (Q k : ℕ) (listed : is_code Q k ≡ true) (alone : OnlyItself s Q k)
    (o : Option ChannelSetup) (held : (c : ChannelSetup) → o ≡ some c → ValidChannel s.type Q c) where
  was_open : (Q' k' : ℕ) → is_open (with_channel s Q k o) Q' k' ≡ true → Was s Q k Q' k'
  unfolding with_channel
  was_open Q' k' h = go (eqb Q' Q && eqb k' k) refl h
    where
      go : (t : Bool) → (eqb Q' Q && eqb k' k) ≡ t → is_some (cond t o (s.channel Q' k')) ≡ true → Was s Q k Q' k'
      go true e i = inl (same_code Q k Q' k' e)
      go false e i = inr i

  code_then : (Q' k' : ℕ) → Was s Q k Q' k' → is_code Q' k' ≡ true
  code_then Q' k' (inl e) = rw (e.0, e.1) listed
  code_then Q' k' (inr h) = v.code Q' k' h

  apart_then : (Q₁ k₁ Q₂ k₂ : ℕ) → Was s Q k Q₁ k₁ → Was s Q k Q₂ k₂
      → related Q₂ k₂ Q₁ k₁ ≡ true → (Q₂ ≡ Q₁) × (k₂ ≡ k₁)
  apart_then Q₁ k₁ Q₂ k₂ (inl e) (inl f) r = (f.0 ∙ sym e.0, f.1 ∙ sym e.1)
  apart_then Q₁ k₁ Q₂ k₂ (inl e) (inr h) r = let f = alone Q₂ k₂ h (rw (e.0, e.1) at r) in (f.0 ∙ sym e.0, f.1 ∙ sym e.1)
  apart_then Q₁ k₁ Q₂ k₂ (inr h) (inl f) r = let e = alone Q₁ k₁ h (rw (f.0, f.1, related_sym Q k Q₁ k₁) at r) in (f.0 ∙ sym e.0, f.1 ∙ sym e.1)
  apart_then Q₁ k₁ Q₂ k₂ (inr h) (inr i) r = v.apart Q₁ k₁ Q₂ k₂ h i r

  held_then : (Q' k' : ℕ) (c : ChannelSetup) → (with_channel s Q k o).channel Q' k' ≡ some c → ValidChannel s.type Q' c
  unfolding with_channel
  held_then Q' k' c h = go (eqb Q' Q && eqb k' k) refl h
    where
      go : (t : Bool) → (eqb Q' Q && eqb k' k) ≡ t → cond t o (s.channel Q' k') ≡ some c → ValidChannel s.type Q' c
      go true e h = rw (same_code Q k Q' k' e).0 (held c h)
      go false e h = v.channel Q' k' c h

  with_channel_valid : Valid (with_channel s Q k o)
  unfolding with_channel
  with_channel_valid =
      record {
        cell = v.cell;
        type = v.type;
        code = λ Q' k' h. code_then Q' k' (was_open Q' k' h);
        apart = λ Q₁ k₁ Q₂ k₂ h i r. apart_then Q₁ k₁ Q₂ k₂ (was_open Q₁ k₁ h) (was_open Q₂ k₂ i) r;
        channel = held_then;
        sync = v.sync;
      }

-- ---- what the refusals let pass
holds : (t : Bool) → not t ≡ false → T t
holds t e = subst T (sym (not-false t e)) tt

-- bits all 0
zeros : (n i : ℕ) → get_or (replicate {A = ℕ} n 0) i 0 ≤ 1
zeros zero i = omega arith
zeros (suc n) zero = omega arith
zeros (suc n) (suc i) = zeros n i

-- ---- the entries
module _ (s : Setup) (v : Valid s) where
  -- an open code may be changed
  pub only_itself : (Q k : ℕ) → is_open s Q k ≡ true → OnlyItself s Q k
  only_itself Q k o Q' k' o' r = v.apart Q k Q' k' o o' r

  -- a code unrelated to the open ones may be opened
  unrelated : (Q k : ℕ) → related_to_open s Q k ≡ false → OnlyItself s Q k
  unrelated Q k e Q' k' o r =
      absurd (true≢false (rw (o, r) at (no_code_passes (λ Q' k'. is_open s Q' k' && related Q' k' Q k) e Q' k' (code_of Q' k' (v.code Q' k' o)))))

  pub opened_valid : (Q k g : ℕ) → Passed (open_refusals s Q k g) → Valid (opened s Q k g)
  opened_valid Q k g h =
      with_channel_valid s v Q k (good_code Q k h.0 h.1.0).listed (unrelated Q k h.1.1.1.0) _
      (λ c e. subst (ValidChannel s.type Q) (some-injective _ c e) (record {
        above_0 = (gain_range g h.1.1.0).0;
        at_most = (gain_range g h.1.1.0).1;
        count = length-replicate {A = ℕ} _ 0;
        bit = zeros (bit_count s.type Q);
      }))

  pub closed_valid : (Q k : ℕ) → Passed (close_refusals s Q k) → Valid (closed s Q k)
  closed_valid Q k h =
      with_channel_valid s v Q k (good_code Q k h.0 h.1.0).listed (only_itself Q k (not-false _ h.1.1.0)) none
      (λ c e. absurd (none-ne-some c e))

  -- what an open code holds is changed, within its ranges
  changed_held : (Q k : ℕ) (f : ChannelSetup → ChannelSetup) → ((c : ChannelSetup) → ValidChannel s.type Q c → ValidChannel s.type Q (f c))
      → (c : ChannelSetup) → channel_changed f (s.channel Q k) ≡ some c → ValidChannel s.type Q c
  changed_held Q k f h c e = go (s.channel Q k) refl e
    where
      go : (o : Option ChannelSetup) → s.channel Q k ≡ o → channel_changed f o ≡ some c → ValidChannel s.type Q c
      go none q e = absurd (none-ne-some c e)
      go (some d) q e = subst (ValidChannel s.type Q) (some-injective (f d) c e) (h d (v.channel Q k d q))

  pub gain_set_valid : (Q k g : ℕ) → Passed (set_gain_refusals s Q k g) → Valid (gain_set s Q k g)
  gain_set_valid Q k g h =
      with_channel_valid s v Q k (good_code Q k h.0 h.1.0).listed (only_itself Q k (not-false _ h.1.1.1.0)) _
      (changed_held Q k (λ c. record { gain = g; bits = c.bits })
      (λ c d. record { above_0 = (gain_range g h.1.1.0).0; at_most = (gain_range g h.1.1.0).1; count = d.count; bit = d.bit }))

  pub bits_loaded_valid : (Q k : ℕ) (bits : List ℕ) → Passed (load_bits_refusals s Q k bits) → Valid (bits_loaded s Q k bits)
  bits_loaded_valid Q k bits h =
      with_channel_valid s v Q k (good_code Q k h.0 h.1.0).listed (only_itself Q k (not-false _ h.1.1.0)) _
      (changed_held Q k (λ c. record { gain = c.gain; bits = bits })
      (λ c d. record { above_0 = d.above_0; at_most = d.at_most; count = eqb-true _ _ (not-false _ h.1.1.1.0); bit = is_bit bits h.1.1.1.1.0 }))

  sync_changed_valid : (y : Option SyncSetup) → ((z : SyncSetup) → y ≡ some z → ValidSync s.type z) → Valid (sync_changed s y)
  sync_changed_valid y f = record { cell = v.cell; type = v.type; code = v.code; apart = v.apart; channel = v.channel; sync = f }

  pub sync_set_valid : (case frame half g_p g_s : ℕ) → Passed (set_sync_refusals s case frame half g_p g_s)
      → Valid (sync_changed s (some (record { case = case; frame = frame; half = half; g_p = g_p; g_s = g_s })))
  sync_set_valid case frame half g_p g_s h =
      let g = neither (bad_gain g_p) (bad_gain g_s) h.1.1.1.0 in
      sync_changed_valid _ (λ z e. subst (ValidSync s.type) (some-injective _ z e) (record {
        type = eqb-true _ _ (not-false _ h.0);
        case = holds (one_or_two case) h.1.0;
        frame_and_half = h.1.1.0;
        P_above_0 = (gain_range g_p g.0).0;
        P_at_most = (gain_range g_p g.0).1;
        S_above_0 = (gain_range g_s g.1).0;
        S_at_most = (gain_range g_s g.1).1;
      }))

  pub sync_cleared_valid : Valid (sync_changed s none)
  sync_cleared_valid = sync_changed_valid none (no_sync_held s.type)

pub fresh_reference_valid : ValidReference fresh_reference
fresh_reference_valid =
    record { settings = fresh_valid; sending = λ s e. absurd (none-ne-some s e); at_most = omega arith; below = λ e. omega arith }
