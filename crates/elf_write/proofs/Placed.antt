-- The strings of the names of sections, and their size.
use Rattle.std.proofs.Common.{◌≡◌, ℕ, ◌+◌, List, [], ◌∷◌, ◌++◌, length, ap, arith, length-append}
use Rattle.std.specs.Prelude.{codes}
use Rattle.std.specs.List.{flat_map}
use Rattle.std.proofs.lemmas.Grind.{flat_map-append}
use Rattle.elf_model.specs.declared.relocatable.RelSection.{RelSection}
use Rattle.elf_write.specs.Strings.{name_bytes, strings}
use Rattle.elf_write.specs.RelFile.{names_of, table_names}

-- the names of the tables, as the bytes that are put
abbrev pub table_bytes : List ℕ
table_bytes = codes ".symtab" ++ 0 ∷ codes ".strtab" ++ 0 ∷ codes ".shstrtab" ++ 0 ∷ []

pub section_strings_are : (sections : List RelSection) → strings (names_of sections ++ table_names) ≡ 0 ∷ flat_map name_bytes (names_of sections) ++ table_bytes
section_strings_are sections = ap (λ bs. 0 ∷ bs) (flat_map-append name_bytes (names_of sections) table_names)

pub section_strings_size : (sections : List RelSection) → length (strings (names_of sections ++ table_names)) ≡ 1 + length (flat_map name_bytes (names_of sections)) + 26
section_strings_size sections =
    let whole = ap length (section_strings_are sections) in
    let parts = length-append (flat_map name_bytes (names_of sections)) table_bytes in
    omega (arith, whole, parts)
