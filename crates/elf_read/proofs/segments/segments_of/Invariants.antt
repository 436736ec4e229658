use Rattle.std.proofs.Common.{◌≡◌, map, take}
use Rattle.elf_model.specs.Segments.{segment}
use Rattle.elf_read.proofs.segments.segments_of.Given as goal

abbrev pub invariant-loop-h : goal.invariant-loop-h
invariant-loop-h l = l.segments ≡ map (segment l.bytes) (take l.h-index l.loads)
