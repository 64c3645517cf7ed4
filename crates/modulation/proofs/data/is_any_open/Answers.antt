-- `is_any_open` meets its contract: what `any` answers of a part of a list is what the definition answers of its entries. Assumes nothing.
use borrow.Author.Rules.{rules}
use mathlib.Core.Path.{◌≡◌, refl, sym, ap, ◌∙◌}
use mathlib.Core.Bool.{Bool, true, false, not, ◌||◌}
use mathlib.Core.List.{List}
use native.Mathlib.Numerals.{add-one}
use native.Mathlib.Omega.{arith}
use Prim.Native.Nat.{ℕ, zero, suc, ◌-◌, ◌*◌, ◌≤◌, ◌<◌}
use lib.Dec.{eqb}
use lib.ListN.{length, get_or, take, drop, length-drop}
use Rattle.std.specs.List.{list_any}
use Rattle.std.proofs.lemmas.List.{get_or-drop}
use Rattle.std.proofs.lemmas.List.Folds.{list_any_more}
use Rattle.std.proofs.lemmas.Iterator.{YieldsList-from_slice}
use Rattle.std.proofs.lemmas.Iterator.Search.{any_from_yields_List}
use Rattle.codes.specs.Range.{any}
use Rattle.modulation.proofs.data.is_any_open.Goals as goal

or_swap : (a b : Bool) → (a || b) ≡ (b || a)
or_swap true true = refl
or_swap true false = refl
or_swap false true = refl
or_swap false false = refl

any_of_first : (p : ℕ → Bool) (xs : List ℕ) (n : ℕ) → n ≤ length xs → list_any p (take n xs) ≡ any n (λ k. p (get_or xs k 0))
unfolding any
any_of_first p xs zero h = refl
any_of_first p xs (suc n) h =
    let l : n < length xs = omega arith in
    let r = any_of_first p xs n (omega arith) in
    ap (λ (m : ℕ). list_any p (take m xs)) (sym (add-one n)) ∙ list_any_more p xs n 0 l ∙ or_swap (list_any p (take n xs)) (p (get_or xs n 0)) ∙ ap (λ (b : Bool). p (get_or xs n 0) || b) r

abbrev counts : ℕ → Bool
counts gain = not (eqb gain 0)

pub returns : goal.returns
unfolding any
returns c =
    let q = c.args.q in
    let a = c.args.gains.now in
    let m : 2 * q - 1 - (q - 1) ≡ q = omega arith in
    let l : q ≤ length (drop (q - 1) a) = omega (arith, length-drop (q - 1) a) in
    any_from_yields_List {all = take (2 * q - 1 - (q - 1)) (drop (q - 1) a)} counts _ _ _ c.any.ensures.ran (YieldsList-from_slice _ cc) (λ x b f k. search rules)
    ∙ ap (λ (n : ℕ). list_any counts (take n (drop (q - 1) a))) m
    ∙ any_of_first counts (drop (q - 1) a) q l
    ∙ (λ j. any q (λ k. counts (get_or-drop (q - 1) a k 0 j)))
