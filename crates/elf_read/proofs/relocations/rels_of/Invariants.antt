use Rattle.std.proofs.Common.{◌≡◌, take}
use Rattle.elf_model.specs.Relocations.{rels_of}
use Rattle.elf_read.proofs.relocations.rels_of.Given as goal

abbrev pub invariant-loop-e : goal.invariant-loop-e
invariant-loop-e l = l.rels ≡ rels_of (take l.e-index l.entries)
