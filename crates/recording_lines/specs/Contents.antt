-- What a recording is made of beside its counts (docs/TDD.md): entries of the memory.
use Rattle.std.specs.Prelude.{take}
use Rattle.complex.specs.Buffers.{Values}
use Rattle.script.specs.declared.memory.Memory.{Memory}
use Rattle.recording_lines.specs.declared.Recording.{Recording}

-- the chips that are recorded, and the readings that the last accepted read gave; what stands past them in the memory is neither
pub record ChipsAndReadings : Type 0 where
  pub chips : Values
  pub readings : Values

abbrev pub contents : Recording → Memory → ChipsAndReadings
contents r m = record {
  chips = record { re = take r.chips m.recording.re; im = take r.chips m.recording.im };
  readings = record { re = take r.readings m.readings.re; im = take r.readings m.readings.im };
}
