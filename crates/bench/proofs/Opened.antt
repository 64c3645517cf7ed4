-- Open codes, seen in the gains: document 01's settings have code (Q, k) open exactly where its gain is not 0. Assumes nothing.
use mathlib.Core.Path.{◌≡◌, refl, sym, ap, ◌∙◌}
use mathlib.Core.Bool.{Bool, true, false, not, ◌&&◌, and-false}
use mathlib.Core.List.{List}
use Prim.Native.Nat.{ℕ, zero, suc}
use native.Mathlib.Omega.{arith}
use borrow.Author.Tests.{ne_eqb}
use lib.Dec.{eqb}
use lib.ListN.{get_or}
use Rattle.complex.specs.Buffers.{listed}
use Rattle.codes.specs.Tree.{is_code, related}
use Rattle.modulation.specs.Nodes.{node, open_at}
use Rattle.slot.specs.declared.Settings.{Settings}
use Rattle.slot.specs.Setup.{is_open, is_some}
use Rattle.slot.specs.Slot.{bit_count}
use Rattle.slot.specs.View.{held_bit, held_channel, view, view_channel}
use Rattle.tables.specs.OpenCodes.{clashes}
use Rattle.codes.specs.CodeRefusals.{code_refusals}
use Rattle.codes.specs.declared.tree.Code.{Code}
use Rattle.tables.proofs.Blocks.{is_one}
use Rattle.bench.proofs.Accepted.{IsFound, same_code}
use Rattle.bench.specs.BenchCalls.{related_to_open, some_code}

-- a channel is held where the gain is not 0
held : (g : ℕ) (bits : List ℕ) → is_some (held_channel g bits) ≡ not (eqb g 0)
held zero bits = refl
held (suc g) bits = sym (ap not (ne_eqb (suc g) 0 (λ e. omega arith)))

module _ (s : Settings) where
  -- so `is_open` may look at the gain alone
  pub open_in_gains : (Q k : ℕ) → is_code Q k ≡ true → is_open (view s) Q k ≡ open_at s.gains Q k
  unfolding view view_channel
  open_in_gains Q k e = rw e (held (get_or s.gains (node Q k) 0) (listed (bit_count s.kind Q) (held_bit s.pairs Q k)))

  -- what is no code is neither open nor related
  clash_in_gains : (Q k Q' k' : ℕ) → (is_open (view s) Q' k' && related Q' k' Q k) ≡ clashes s.gains Q k Q' k'
  unfolding view view_channel related
  clash_in_gains Q k Q' k' = go (is_code Q' k') refl
    where
      go : (b : Bool) → is_code Q' k' ≡ b → (is_open (view s) Q' k' && related Q' k' Q k) ≡ clashes s.gains Q k Q' k'
      go true e = ap (λ (t : Bool). t && related Q' k' Q k) (open_in_gains Q' k' e)
      go false e = rw e (sym (and-false (open_at s.gains Q' k')))

  -- so may the code that looks for a related code
  pub related_in_gains : (Q k : ℕ) → related_to_open (view s) Q k ≡ some_code (clashes s.gains Q k)
  related_in_gains Q k = λ i. some_code (λ Q' k'. clash_in_gains Q k Q' k' i)

-- ---- a code that passed 3 and 4, where these are the gains
module _ (s : Settings) {gains : List ℕ} (code : Code) (Q k : ℕ) (e : IsFound (code_refusals Q k) code Q k) (g : s.gains ≡ gains) where
  pub open_as_found : is_open (view s) Q k ≡ open_at gains code.q code.k
  open_as_found =
      let q = same_code (code_refusals Q k) code Q k e in
      rw (← q.0, ← q.1) (open_in_gains s code.q code.k (is_one code).listed ∙ ap (λ (gs : List ℕ). open_at gs code.q code.k) g)

  pub related_as_found : related_to_open (view s) Q k ≡ some_code (clashes gains code.q code.k)
  related_as_found =
      let q = same_code (code_refusals Q k) code Q k e in
      rw (← q.0, ← q.1) (related_in_gains s code.q code.k ∙ ap (λ (gs : List ℕ). some_code (clashes gs code.q code.k)) g)
