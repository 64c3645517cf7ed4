-- Settings in which the open codes are unrelated, as the refusals of open and load plan keep them. Assumes nothing.
use mathlib.Core.Path.{◌≡◌}
use mathlib.Core.Bool.{true, false}
use mathlib.Core.Option.{some}
use Prim.Native.Nat.{ℕ, ◌≤◌}
use lib.ListN.{get_or}
use Rattle.codes.specs.Tree.{is_code, related}
use Rattle.slot.specs.Setup.{ChannelSetup, Setup, is_open}

-- no other open code is related to code (Q, k)
abbrev pub Alone : Setup → ℕ → ℕ → Type 0
Alone s Q k = (Q' k' : ℕ) → is_code Q' k' ≡ true → is_open s Q' k' ≡ true → related Q' k' Q k ≡ true → (Q' ≡ Q) × (k' ≡ k)

-- no open code is related to code (Q, k)
abbrev pub Free : Setup → ℕ → ℕ → Type 0
Free s Q k = (Q' k' : ℕ) → is_code Q' k' ≡ true → is_open s Q' k' ≡ true → related Q' k' Q k ≡ false

-- no two open codes are related
abbrev pub Unrelated : Setup → Type 0
Unrelated s = (Q k : ℕ) → is_code Q k ≡ true → is_open s Q k ≡ true → Alone s Q k

-- what holds of every open code's gain and bits
abbrev pub EachOpen : Setup → (ChannelSetup → Type 0) → Type 0
EachOpen s P = (Q k : ℕ) (c : ChannelSetup) → is_code Q k ≡ true → s.channel Q k ≡ some c → P c

abbrev pub Bits : ChannelSetup → Type 0
Bits c = (i : ℕ) → get_or c.bits i 0 ≤ 1

abbrev pub Gain : ChannelSetup → Type 0
Gain c = c.gain ≤ 4095
