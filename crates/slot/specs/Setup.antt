-- Document 01, "Bench calls": the bench holds settings (cell parameter, type, open codes each with gain and bits, sync or none).
use Rattle.std.specs.Prelude.{ℕ, List, Bool, true, false}
use Rattle.std.proofs.Math.Option.{Option, none, some}

-- an open code's gain and bits
pub record ChannelSetup : Type 0 where
  pub gain : ℕ
  pub bits : List ℕ

-- Set sync (case, frame, half, gP, gS); the group is the cell's.
pub record SyncSetup : Type 0 where
  pub case : ℕ
  pub frame : ℕ
  pub half : ℕ
  pub g_p : ℕ
  pub g_s : ℕ

-- the settings, as document 01 has them (`Settings` is the struct that holds them in tables); `channel Q k` is what code (Q, k) holds where it is open
pub record Setup : Type 0 where
  pub cell : ℕ
  pub type : ℕ
  pub channel : ℕ → ℕ → Option ChannelSetup
  pub sync : Option SyncSetup

abbrev pub is_some : {A : Type 0} → Option A → Bool
is_some none = false
is_some (some a) = true

-- code (Q, k) is open
abbrev pub is_open : Setup → ℕ → ℕ → Bool
is_open s Q k = is_some (s.channel Q k)
