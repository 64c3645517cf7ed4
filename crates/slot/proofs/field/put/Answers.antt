-- `put` meets its contract: a part of the block's list, entry by entry. Assumes nothing.
use mathlib.Core.Path.{◌≡◌, sym, ◌∙◌}
use mathlib.Core.List.{List}
use Prim.Native.Nat.{ℕ, ◌+◌, ◌-◌, ◌<◌, ◌≤◌}
use native.Mathlib.Omega.{arith}
use lib.IntN.{ℤ, pos}
use lib.ListN.{length, get_or, take, drop, length-drop}
use lib.Seq.{length-take-le, ext_get_or}
use Rattle.std.proofs.lemmas.List.{get_or-take, get_or-drop}
use Rattle.complex.specs.Buffers.{listed}
use Rattle.complex.proofs.Lists.{length_listed, listed_at}
use Rattle.slot.proofs.field.put.Goals as goal

part_is : (x : List ℤ) (from n m : ℕ) → m ≡ n → from + n ≤ length x → take m (drop from x) ≡ listed n (λ i. get_or x (from + i) (pos 0))
part_is x from n m e h =
    let l : length (take m (drop from x)) ≡ m = length-take-le m (drop from x) (omega (arith, length-drop from x)) in
    ext_get_or (pos 0) _ _ (l ∙ e ∙ sym (length_listed _ n))
    (λ i k.
    let b : i < m = omega (arith, l) in
    let d : i < n = omega (arith, l) in
    get_or-take m (drop from x) i (pos 0) b ∙ get_or-drop from x i (pos 0) ∙ sym (listed_at (λ i. get_or x (from + i) (pos 0)) (pos 0) n i d))

pub returns : goal.returns
returns c =
    let s = c.args in
    let n = length s.part.now in
    c.copy_from_slice.ensures.after ∙ part_is s.x.now s.from n (s.from + n - s.from) (omega arith) (omega arith)
