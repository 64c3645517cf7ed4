-- Demand 3: "the sum of the squared gains", of the codes open in the settings.
use Rattle.std.specs.Prelude.{ℕ, zero, suc, ◌+◌, ◌*◌}
use Rattle.std.proofs.Math.Option.{Option, none, some}
use Rattle.codes.specs.Tree.{over_factors}
use Rattle.slot.specs.Setup.{ChannelSetup, Setup}

-- f 0 + f 1 + .. + f (n - 1)
unfoldable pub Σℕ< : ℕ → (ℕ → ℕ) → ℕ
Σℕ< zero f = 0
Σℕ< (suc n) f = Σℕ< n f + f n

abbrev pub squared_gain : Option ChannelSetup → ℕ
squared_gain none = 0
squared_gain (some c) = c.gain * c.gain

-- the sum of the squared gains over all codes
unfoldable pub squared_gains : Setup → ℕ
squared_gains s = over_factors ◌+◌ 0 (λ Q. Σℕ< Q (λ k. squared_gain (s.channel Q k)))
