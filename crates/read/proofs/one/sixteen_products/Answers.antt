-- `sixteen_products` meets its contract. Assumes nothing.
use mathlib.Core.Path.{◌≡◌}
use mathlib.Core.List.{List}
use Prim.Native.Nat.{ℕ, ◌<◌}
use native.Mathlib.Omega.{arith}
use borrow.Author.Rules.{rules}
use lib.IntN.{ℤ}
use Rattle.complex.specs.declared.Complex.{Complex}
use Rattle.complex.specs.Buffers.{value}
use Rattle.read.specs.Multipliers.{PowerOfJ, PowersOfJ}
use Rattle.read.proofs.one.sixteen_products.Goals as goal

-- a multiplier of the sixteen
power : {wre wim : List ℤ} {w : Complex} {i : ℕ} → PowersOfJ wre wim → w ≡ value wre wim i → i < 16 → PowerOfJ w
power h e l = rw e (h.each _ l)

pub from_fn-requires : goal.from_fn-requires
from_fn-requires c i l =
    let w = c.requires.1 in
    (λ _ _ _ _ f. omega arith, λ _ _ _ _ f _. omega arith, λ _ _ _ _ _ _ _. l, λ _ _ _ _ _ chip at _. (power w at.ensures l, chip.ensures.1))

pub returns : goal.returns
returns c = c.from_fn.ensures _ (λ i z l e. search rules)
