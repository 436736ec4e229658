use Rattle.std.proofs.Common.{◌≡◌, drop}
use Rattle.elf_model.specs.Places.{file_byte}
use Rattle.elf_model.proofs.places.byte_at.Given as goal

-- no segment so far holds it
abbrev pub invariant-loop-segment : goal.invariant-loop-segment
invariant-loop-segment l = file_byte (drop l.segment-index l.segments) l.v ≡ file_byte l.segments l.v
