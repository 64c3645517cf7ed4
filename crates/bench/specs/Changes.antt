-- What the calls change in the bench's struct. Records have no update: one `with-…` a field, and `cell_settings` for the settings with nothing open.
use Rattle.std.specs.Prelude.{ℕ, List, set, replicate}
use Rattle.codes.specs.declared.CellParameter.{CellParameter}
use Rattle.modulation.specs.Nodes.{node}
use Rattle.slot.specs.declared.Settings.{Settings}
use Rattle.slot.specs.declared.Sync.{Sync}
use Rattle.tables.specs.Bits.{pairs_with_bits}
use Rattle.bench.specs.declared.Bench.{Bench}

abbrev pub with_gains : Settings → List ℕ → Settings
with_gains s g = record { cell = s.cell; kind = s.kind; gains = g; pairs = s.pairs; sync = s.sync }

abbrev pub with_pairs : Settings → List ℕ → Settings
with_pairs s p = record { cell = s.cell; kind = s.kind; gains = s.gains; pairs = p; sync = s.sync }

abbrev pub with_sync : Settings → Sync → Settings
with_sync s y = record { cell = s.cell; kind = s.kind; gains = s.gains; pairs = s.pairs; sync = y }

-- code (Q, k) has gain g, or is closed where g is 0
abbrev pub with_gain : Settings → ℕ → ℕ → ℕ → Settings
with_gain s Q k g = with_gains s (set s.gains (node Q k) g)

abbrev pub with_bits : Settings → ℕ → ℕ → List ℕ → Settings
with_bits s Q k bits = with_pairs s (pairs_with_bits s.pairs Q k bits)

abbrev pub no_sync : Sync
no_sync = record { on = 0; case = 0; frame = 0; half = 0; gp = 0; gs = 0 }

-- nothing open, no sync; what the pairs hold of closed codes is not seen
abbrev pub cell_settings : CellParameter → ℕ → List ℕ → Settings
cell_settings p t pairs = record { cell = p; kind = t; gains = replicate 31 0; pairs = pairs; sync = no_sync }

-- nothing open; cell, type and sync stay
abbrev pub all_closed : Settings → Settings
all_closed s = with_gains s (replicate 31 0)

abbrev pub with_settings : Bench → Settings → Bench
with_settings b s = record { settings = s; running = b.running; sending = b.sending; position = b.position }
