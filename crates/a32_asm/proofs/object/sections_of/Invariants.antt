use Rattle.std.proofs.Common.{◌≡◌, map, take}
use Rattle.a32_asm.specs.Object.{section_of}
use Rattle.a32_asm.proofs.object.sections_of.Given as goal

abbrev pub invariant-loop-section : goal.invariant-loop-section
invariant-loop-section l = l.made ≡ map (section_of l.all l.contents l.numbered) (take l.section-index l.kept)
