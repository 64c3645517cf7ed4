-- `write_silence` meets its contract: the value over and over, entry by entry. Assumes nothing.
use mathlib.Core.Path.{◌≡◌, sym, ◌∙◌}
use Prim.Native.Nat.{ℕ, ◌<◌}
use native.Mathlib.Omega.{arith}
use lib.IntN.{pos}
use lib.ListN.{replicate, length-replicate}
use lib.Seq.{ext_get_or}
use Rattle.std.proofs.lemmas.List.{get_or-replicate}
use Rattle.complex.specs.Buffers.{listed}
use Rattle.complex.proofs.Lists.{length_listed, listed_at}
use Rattle.slot.proofs.field.write_silence.Goals as goal

zeros_are : (n : ℕ) → replicate n (pos 0) ≡ listed n (λ i. pos 0)
zeros_are n =
    ext_get_or (pos 0) _ _ (length-replicate n (pos 0) ∙ sym (length_listed _ n))
    (λ i k. let l : i < n = omega (arith, length-replicate n (pos 0)) in get_or-replicate n i (pos 0) (pos 0) l ∙ sym (listed_at (λ i. pos 0) (pos 0) n i l))

pub returns : goal.returns
returns c = c.fill.ensures.after (λ y h. h) ∙ zeros_are _
