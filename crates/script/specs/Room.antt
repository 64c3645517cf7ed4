-- How many chips a recording holds (docs/TDD.md).
use Rattle.std.specs.Prelude.{ℕ, ◌+◌, Bool, nat_le}

-- "The recording is a list of at most 38,400 chips": whether so many chips and so many more fit
abbrev pub fit : ℕ → ℕ → Bool
fit chips count = nat_le (chips + count) 38400
