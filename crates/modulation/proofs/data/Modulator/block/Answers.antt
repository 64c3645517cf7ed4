-- `Modulator::block` meets its contract: each callee's answer goes into the next one's. Assumes nothing.
use mathlib.Core.Path.{◌≡◌, ap, ap₂, ◌∙◌}
use mathlib.Core.Bool.{true, false}
use mathlib.Core.List.{List}
use borrow.Author.Rules.{rules}
use Prim.Native.Nat.{◌+◌}
use lib.IntN.{ℤ}
use lib.ListN.{get_or}
use Rattle.complex.specs.Buffers.{listed}
use Rattle.modulation.specs.SixteenChips.{component, summed, scrambled, summed_component}
use Rattle.modulation.specs.Symbols.{symbol}
use Rattle.modulation.proofs.Blocks.{symbols_bound}
use Rattle.modulation.proofs.ScramblingSigns.{scrambled_bound}
use Rattle.modulation.proofs.data.Modulator.block.Goals as goal
use Rattle.modulation.proofs.data.Modulator.block.Goals.{After-symbols-sre, After-symbols-sim}

-- the components of the symbols
sre_is : (c : After-symbols-sre) → c.symbols-sre.result ≡ listed 16 (λ i. component (symbol (get_or c.args.self.now.pairs.now (c.args.from + i) 0)) true)
sre_is c = c.symbols-sre.ensures (λ z. z.re) (λ z r k. search rules)

sim_is : (c : After-symbols-sim) → c.symbols-sim.result ≡ listed 16 (λ i. component (symbol (get_or c.args.self.now.pairs.now (c.args.from + i) 0)) false)
sim_is c = c.symbols-sim.ensures (λ z. z.im) (λ z r k. search rules)

pub summed-x-requires : goal.summed-x-requires
summed-x-requires c = (c.args.self.now.levels_of_gains, symbols_bound _ true (sre_is (goal.at.summed-x-requires c).After-symbols-sre))

pub summed-y-requires : goal.summed-y-requires
summed-y-requires c = (c.args.self.now.levels_of_gains, symbols_bound _ false (sim_is (goal.at.summed-y-requires c).After-symbols-sim))

pub returns : goal.returns
returns c =
    let m = c.args.self.now in
    let s = (goal.at.returns c).After-symbols-sim in
    let x-is : _ ≡ summed_component m.gains.now m.pairs.now c.args.from true = c.summed-x.ensures.entries ∙ ap (λ (s : List ℤ). listed 16 (summed m.gains.now s)) (sre_is (goal.at.returns c).After-symbols-sre) in
    let y-is : _ ≡ summed_component m.gains.now m.pairs.now c.args.from false = c.summed-y.ensures.entries ∙ ap (λ (s : List ℤ). listed 16 (summed m.gains.now s)) (sim_is s) in
    let re = c.scrambled.ensures ∙ ap₂ (λ (y x : List ℤ). listed 16 (scrambled m.signs.re y x)) y-is x-is in
    let im = c.scrambled-2.ensures ∙ ap₂ (λ (x y : List ℤ). listed 16 (scrambled m.signs.im x y)) x-is y-is in
    let xs = c.summed-x.ensures.size in
    let ys = c.summed-y.ensures.size in
    record { chips = λ j. record { re = re j; im = im j }; size = (scrambled_bound m.small_signs.0 ys xs c.scrambled.ensures, scrambled_bound m.small_signs.1 xs ys c.scrambled-2.ensures) }
