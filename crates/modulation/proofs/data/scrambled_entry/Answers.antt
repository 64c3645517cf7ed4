-- `scrambled_entry` meets its contract: a product of two entries at either parity. Assumes nothing.
use mathlib.Core.Path.{◌≡◌, ap₂, ◌∙◌}
use mathlib.Core.List.{List}
use Prim.Native.Nat.{ℕ}
use borrow.Author.Rules.{rules}
use borrow.Author.Tests.{eq-eqb, ne_eqb}
use lib.IntN.{ℤ, pos, ◌*ℤ◌}
use lib.ListN.{get_or}
use mir.Syntax.{w32}
use mir.Val.{SFits, to_z, of_z}
use mir.Facts.{to_z-of_z}
use Rattle.complex.specs.Fits.{Bound, Within}
use Rattle.complex.proofs.Sizes.{fits_within}
use Rattle.modulation.proofs.data.scrambled_entry.Goals as goal
use Rattle.modulation.proofs.data.scrambled_entry.Goals.{Start}

-- an entry, as a local holds it
abbrev held : List ℤ → ℕ → ℤ
held x i = to_z w32 (of_z w32 (get_or x i (pos 0)))

-- entries i of t and of a row x
module _ {t x : List ℤ} (h : Bound 1 t) (g : Bound 2031585 x) (i : ℕ) where
  sign_is : held t i ≡ get_or t i (pos 0)
  sign_is = to_z-of_z {w = w32} (fits_within (h.at i) tt)

  value_is : held x i ≡ get_or x i (pos 0)
  value_is = to_z-of_z {w = w32} (fits_within (g.at i) tt)

  asks : Within 1 (held t i) × Within 2031585 (held x i)
  asks = (rw sign_is (h.at i), rw value_is (g.at i))

  gives : {r : ℤ} → SFits w32 r → r ≡ held t i *ℤ held x i → to_z w32 (of_z w32 r) ≡ get_or t i (pos 0) *ℤ get_or x i (pos 0)
  gives f e = to_z-of_z f ∙ e ∙ ap₂ ◌*ℤ◌ sign_is value_is

-- what is asked, of either row
module _ (s : Start) where
  abbrev Asked : List ℤ → Type 0
  Asked x = Within 1 (held s.args.t.now s.args.i) × Within 2031585 (held x s.args.i)

  both_asks : Asked s.args.even.now × Asked s.args.odd.now
  both_asks = (asks s.requires.1 s.requires.2 _, asks s.requires.1 s.requires.3 _)

pub signed-requires : goal.signed-requires
signed-requires c = let a = both_asks (goal.at.signed-requires c).Start in (search rules, search rules)

pub signed-requires-else-i-eq0 : goal.signed-requires-else-i-eq0
signed-requires-else-i-eq0 c = let a = both_asks (goal.at.signed-requires-else-i-eq0 c).Start in (search rules, search rules)

pub returns-then-i-eq0 : goal.returns-then-i-eq0
returns-then-i-eq0 c =
    let f : SFits w32 c.signed.result = search rules in
    rw (eq-eqb _ _ c.if-i-eq0.true) (gives c.requires.1 c.requires.2 _ f c.signed.ensures)

pub returns-else-i-eq0 : goal.returns-else-i-eq0
returns-else-i-eq0 c =
    let f : SFits w32 c.signed-else-i-eq0.result = search rules in
    rw (ne_eqb _ _ c.if-i-eq0.false) (gives c.requires.1 c.requires.3 _ f c.signed-else-i-eq0.ensures)
