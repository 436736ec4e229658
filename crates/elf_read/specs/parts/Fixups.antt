-- The tests of fixups, over any sites that are filled before them.
use Rattle.std.specs.Prelude.{ℕ, ◌+◌, ◌*◌, List, ◌++◌, map, take, Option}
use Rattle.elf_model.specs.declared.table.ProgramHeader.{ProgramHeader}
use Rattle.elf_model.specs.declared.table.Site.{Site}
use Rattle.elf_model.specs.Test.{ElfTest, of_some, each_from}
use Rattle.elf_model.specs.Sections.{rofixup_offset, fixups_of}
use Rattle.elf_model.specs.Relocations.{site_tests, word_site}

-- those of one fixup, before which stand k
abbrev pub fixup_test : List ProgramHeader → List Site → ℕ → List ℕ → ℕ → ℕ → List ElfTest
fixup_test loads sites offset fixups k addr = site_tests loads (sites ++ map word_site (take k fixups)) (offset + 4 * k) (word_site addr)

unfoldable pub fixup_tests : List ProgramHeader → List Site → ℕ → List ℕ → List ElfTest
fixup_tests loads sites offset fixups = each_from 0 (fixup_test loads sites offset fixups) fixups

-- those of the list that section i has
abbrev pub list_tests : List ℕ → List ProgramHeader → List Site → Option ℕ → List ElfTest
list_tests bytes loads sites list = of_some list (λ i. fixup_tests loads sites (rofixup_offset bytes i 0) (fixups_of bytes i))
