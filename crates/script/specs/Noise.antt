-- What noise is, and what it makes of the memory (docs/TDD.md, "Noise").
use Rattle.std.specs.Prelude.{ℤ, pos, ◌-ℤ◌, ℕ, zero, suc, ◌+◌, ◌*◌, ◌/◌, ◌%◌, List, ◌++◌, take, drop}
use Rattle.complex.specs.declared.Complex.{Complex}
use Rattle.complex.specs.Arithmetic.{◌+j◌, ◌⊕◌}
use Rattle.complex.specs.Buffers.{value, listed, written}
use Rattle.script.specs.declared.commands.Part.{Part}
use Rattle.script.specs.declared.memory.Memory.{Memory}

-- "the new state is (state × 1664525 + 1013904223) mod 4294967296"
abbrev pub next_state : ℕ → ℕ
next_state state = (state * 1664525 + 1013904223) % 4294967296

-- "the number that is added is r - SIZE, where r is (new state div 256) mod (2 × SIZE + 1)"
abbrev pub noise_number : ℕ → ℕ → ℤ
noise_number size state = pos (state / 256 % (2 * size + 1)) -ℤ pos size

-- "re, then im": what a chip gets before which the generator has this state
abbrev pub chip_noise : ℕ → ℕ → Complex
chip_noise size state = noise_number size (next_state state) +j noise_number size (next_state (next_state state))

-- "SEED at the beginning of each `noise`", and two states on with each chip: the state before chip n of the part, from 0
abbrev pub state_before : ℕ → ℕ → ℕ
state_before seed zero = seed
state_before seed (suc n) = next_state (next_state (state_before seed n))

-- a list whose entries from place from on are f 0, f 1, .., f (count - 1), and whose others stay
abbrev pub with_entries : ℕ → ℕ → (ℕ → ℤ) → List ℤ → List ℤ
with_entries from count f l = take from l ++ written (listed count f) (drop from l)

-- "adds a number from -SIZE to SIZE to each component of this part of the recording"
abbrev pub with_noise : Part → ℕ → ℕ → Memory → Memory
with_noise part seed size m =
    let re = m.recording.re in
    let im = m.recording.im in
    let chip : ℕ → Complex = λ n. value re im (part.from + n) ⊕ chip_noise size (state_before seed n) in
    record m { recording = record { re = with_entries part.from part.count (λ n. (chip n).re) re; im = with_entries part.from part.count (λ n. (chip n).im) im } }
