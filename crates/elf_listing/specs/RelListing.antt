-- show F of a relocatable file: its kept sections, each with its relocations, and its symbols, a line for each.
use Rattle.std.specs.Prelude.{ℕ, List, ◌++◌, codes}
use Rattle.fd_base.specs.Fields.{decimal_field, name_field, numbered}
use Rattle.elf_model.specs.declared.relocatable.RelSection.{RelSection}
use Rattle.elf_model.specs.declared.relocatable.RelObject.{RelObject}
use Rattle.elf_listing.specs.Listing.{symbol_line, rel_line}

unfoldable pub section_line : ℕ → RelSection → List ℕ
section_line i s =
    codes "section" ++ decimal_field i ++ name_field s.name ++ decimal_field s.kind ++ decimal_field s.flags
    ++ decimal_field s.size ++ decimal_field s.align ++ codes "\n"

-- a section, and its relocations, which are counted in each section from 0
abbrev pub section_lines : ℕ → RelSection → List ℕ
section_lines i s = section_line i s ++ numbered (rel_line (codes "rel")) 0 s.rels

abbrev pub relocatable_listing : RelObject → List ℕ
relocatable_listing r = codes "relocatable\n" ++ numbered section_lines 0 r.sections ++ numbered symbol_line 0 r.symbols
