use Rattle.std.proofs.Common.{◌≡◌, ◌++◌, drop}
use Rattle.std.specs.List.{flat_map}
use Rattle.elf_write.specs.Strings.{name_bytes, strings}
use Rattle.elf_write.specs.RelFile.{names_of}
use Rattle.elf_write.proofs.rel_file.put_section_strings.Given as goal

abbrev pub invariant-loop-section : goal.invariant-loop-section
invariant-loop-section l = l.out ++ flat_map name_bytes (names_of (drop l.section-index l.sections)) ≡ l.fn.out ++ strings (names_of l.sections)
