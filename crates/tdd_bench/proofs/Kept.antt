-- What a draw leaves of the bench, refused or not: a host that keeps a bench takes back `running` and `position`, and has it all. Assumes nothing.
use mathlib.Core.Path.{◌≡◌, refl}
use mathlib.Core.Bool.{Bool, true, false, not}
use mathlib.Core.List.{[], ◌∷◌}
use Prim.Native.Nat.{ℕ}
use lib.Dec.{eqb}
use Rattle.codes.specs.Refusals.{after, ◌if◌, ◌otherwise◌}
use Rattle.bench.specs.declared.Bench.{Bench}
use Rattle.bench.specs.BenchCalls.{AcceptedDraw, draw_call, is_running}

abbrev taken_back : Bench → Bench → Bench
taken_back b left = record { settings = b.settings; running = left.running; sending = b.sending; position = left.position }

pub draw_keeps : (b : Bench) (n n' : ℕ) → let left = after (draw_call b n n') b (λ d. d.bench) in taken_back b left ≡ left
draw_keeps b n n' = go (not (is_running b)) (not (eqb n n')) _ refl
  where
    go : (s t : Bool) (d : AcceptedDraw) → taken_back b d.bench ≡ d.bench → let left = after ((11 if s ∷ 12 if t ∷ []) otherwise d) b (λ d. d.bench) in taken_back b left ≡ left
    go true t d e = refl
    go false true d e = refl
    go false false d e = e
