-- The line's chips stand past the recording's own, which stay.
use Rattle.std.proofs.Common.{◌≡◌}
use Rattle.recording_lines.specs.Contents.{contents}
use Rattle.recording_lines.proofs.Recording.put.Given as goal

abbrev pub invariant-loop-place : goal.invariant-loop-place
invariant-loop-place l = contents l.self l.m ≡ contents l.self l.initial.m
