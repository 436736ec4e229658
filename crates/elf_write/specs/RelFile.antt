-- The bytes of a relocatable file: the header, the bytes of the sections, the tables of relocations, the symbols, their
-- strings, the names of sections, and the section headers. These are of the null section, the kept sections, the tables
-- of relocations, `.symtab`, `.strtab` and `.shstrtab`.
use Rattle.std.specs.Prelude.{ℕ, ◌+◌, ◌*◌, ◌-◌, ◌==◌, List, [], ◌∷◌, ◌++◌, length, map, filter, Bool, not, codes, Option, Some, if◌then◌else◌}
use Rattle.std.specs.List.{flat_map, sum_by, prefix_len}
use Rattle.fd_base.specs.Words.{word_bytes}
use Rattle.elf_model.specs.declared.constants.TheConstants.{ET_REL, EHDR_SIZE, SHDR_SIZE, SHT_REL, SHT_SYMTAB, SHT_STRTAB, SHN_UNDEF, SHN_ABS, SHN_COMMON, STB_LOCAL, REL_SIZE, SYM_SIZE}
use Rattle.elf_model.specs.declared.object.Place.{Place}
use Rattle.elf_model.specs.declared.object.Place.TheVariants.{Undefined, Absolute, Here, Common, Section, Dropped}
use Rattle.elf_model.specs.declared.object.Symbol.{Symbol}
use Rattle.elf_model.specs.declared.relocatable.RelObject.{RelObject}
use Rattle.elf_model.specs.declared.relocatable.RelSection.{RelSection}
use Rattle.elf_model.specs.declared.table.SectionHeader.{SectionHeader}
use Rattle.elf_write.specs.declared.header.FileHeader.{FileHeader}
use Rattle.elf_write.specs.declared.rel_layout.RelLayout.{RelLayout}
use Rattle.elf_write.specs.Words.{header_row, section_row, symbol_row, rel_row, table_bytes, zeros, aligned}
use Rattle.elf_write.specs.Strings as string
use Rattle.elf_write.specs.Strings.{strings, name_bytes}

-- ---- the bytes of sections, each from the next multiple of its alignment on

abbrev pub end_of : ℕ → RelSection → ℕ
end_of at s = aligned s.align at + length s.filled

-- where sections end, the first of which would begin at an offset
abbrev pub end_of_all : ℕ → List RelSection → ℕ
end_of_all at [] = at
end_of_all at (s ∷ ss) = end_of_all (end_of at s) ss

abbrev pub contents : ℕ → List RelSection → List ℕ
contents at [] = []
contents at (s ∷ ss) = zeros (aligned s.align at - at) ++ (s.filled ++ contents (end_of at s) ss)

-- ---- relocations and symbols

abbrev pub rel_bytes : RelSection → List ℕ
rel_bytes s = table_bytes (map rel_row s.rels)

-- the index of a symbol's section: kept sections stand behind the null section
abbrev pub index_of : Place → ℕ
index_of Undefined = SHN_UNDEF
index_of Absolute = SHN_ABS
index_of Here = SHN_UNDEF
index_of Common = SHN_COMMON
index_of (Section i) = i + 1
index_of Dropped = SHN_UNDEF

-- the rows of symbols, the first name of which would begin at an offset of the strings
abbrev pub symbol_rows : ℕ → List Symbol → List (List ℕ)
symbol_rows at [] = []
symbol_rows at (s ∷ ss) = symbol_row (string.place_of at s.name) (index_of s.place) s ∷ symbol_rows (string.behind at s.name) ss

abbrev pub symbol_strings : RelObject → List ℕ
symbol_strings r = strings (map (λ s. s.name) r.symbols)

-- ---- names of sections

abbrev pub names_of : List RelSection → List (Option (List ℕ))
names_of sections = map (λ s. s.name) sections

abbrev pub table_names : List (Option (List ℕ))
table_names = Some (codes ".symtab") ∷ Some (codes ".strtab") ∷ Some (codes ".shstrtab") ∷ []

abbrev pub section_strings : RelObject → List ℕ
section_strings r = strings (names_of r.sections ++ table_names)

-- where the names of the tables begin
abbrev pub table_names_place : RelObject → ℕ
table_names_place r = 1 + length (flat_map name_bytes (names_of r.sections))

-- ---- section headers

abbrev pub null_header : SectionHeader
null_header = record { name = 0; kind = 0; flags = 0; addr = 0; offset = 0; size = 0; link = 0; info = 0; align = 0 }

-- that of a section that would begin at an offset, and its name at one of the names
abbrev pub kept_header : ℕ → ℕ → RelSection → SectionHeader
kept_header at name s = record {
  name = string.place_of name s.name;
  kind = s.kind;
  flags = s.flags;
  addr = 0;
  offset = aligned s.align at;
  size = s.size;
  link = 0;
  info = 0;
  align = s.align;
}

-- those of kept sections, the first of which would begin there
abbrev pub kept_headers : ℕ → ℕ → List RelSection → List SectionHeader
kept_headers at name [] = []
kept_headers at name (s ∷ ss) = kept_header at name s ∷ kept_headers (end_of at s) (string.behind name s.name) ss

abbrev pub has_rels : RelSection → Bool
has_rels s = not (length s.rels == 0)

abbrev pub rel_size : RelSection → ℕ
rel_size s = REL_SIZE * length s.rels

-- that of the relocations of the section of an index, which begin at an offset, over a table of symbols
abbrev pub rel_header : ℕ → ℕ → ℕ → RelSection → SectionHeader
rel_header symtab at i s = record {
  name = 0;
  kind = SHT_REL;
  flags = 0;
  addr = 0;
  offset = at;
  size = rel_size s;
  link = symtab;
  info = i;
  align = 4;
}

-- where it has some
abbrev pub rel_header_if : ℕ → ℕ → ℕ → RelSection → List SectionHeader
rel_header_if symtab at i s = if has_rels s then rel_header symtab at i s ∷ [] else []

-- those of all sections, the first of which has this index
abbrev pub rel_headers : ℕ → ℕ → ℕ → List RelSection → List SectionHeader
rel_headers symtab at i [] = []
rel_headers symtab at i (s ∷ ss) = rel_header_if symtab at i s ++ rel_headers symtab (at + rel_size s) (i + 1) ss

-- how many local symbols stand in front
abbrev pub local_count : List Symbol → ℕ
local_count symbols = prefix_len (λ s. s.binding == STB_LOCAL) symbols

-- ---- where the parts stand

abbrev pub layout_of : RelObject → RelLayout
layout_of r =
    let rels = end_of_all EHDR_SIZE r.sections in
    let symbols = rels + REL_SIZE * sum_by (λ s. length s.rels) r.sections in
    let strings = symbols + SYM_SIZE * length r.symbols in
    let names = strings + length (symbol_strings r) in
    let headers = names + length (section_strings r) in
    record {
      rels = rels;
      symbols = symbols;
      strings = strings;
      names = names;
      headers = headers;
      symtab = 1 + length r.sections + length (filter has_rels r.sections);
    }

-- how many bytes the file has
abbrev pub size_of : RelLayout → ℕ
size_of l = l.headers + SHDR_SIZE * (l.symtab + 3)

-- a table of strings from an offset to another
abbrev pub strings_header : ℕ → ℕ → ℕ → SectionHeader
strings_header name from to = record {
  name = name;
  kind = SHT_STRTAB;
  flags = 0;
  addr = 0;
  offset = from;
  size = to - from;
  link = 0;
  info = 0;
  align = 1;
}

-- the table of symbols, of which so many in front are local
abbrev pub symbols_header : RelLayout → ℕ → ℕ → SectionHeader
symbols_header l name locals = record {
  name = name;
  kind = SHT_SYMTAB;
  flags = 0;
  addr = 0;
  offset = l.symbols;
  size = l.strings - l.symbols;
  link = l.symtab + 1;
  info = locals;
  align = 4;
}

-- the headers of the three tables, whose names begin at an offset of the names
abbrev pub table_headers : RelLayout → ℕ → ℕ → List SectionHeader
table_headers l name locals =
    symbols_header l name locals
    ∷ strings_header (name + 8) l.strings l.names
    ∷ strings_header (name + 16) l.names l.headers
    ∷ []

abbrev pub headers_of : RelObject → List SectionHeader
headers_of r =
    let l = layout_of r in
    null_header
    ∷ (kept_headers EHDR_SIZE 1 r.sections
    ++ (rel_headers l.symtab l.rels 1 r.sections
    ++ table_headers l (table_names_place r) (local_count r.symbols)))

abbrev pub file_header : RelLayout → FileHeader
file_header l = record {
  kind = ET_REL;
  entry = 0;
  phoff = 0;
  phnum = 0;
  shoff = l.headers;
  shnum = l.symtab + 3;
  shstrndx = l.symtab + 2;
}

-- ---- the file

unfoldable pub rel_file : RelObject → List ℕ
rel_file r =
    word_bytes (header_row (file_header (layout_of r)))
    ++ (contents EHDR_SIZE r.sections
    ++ (flat_map rel_bytes r.sections
    ++ (table_bytes (symbol_rows 1 r.symbols)
    ++ (symbol_strings r
    ++ (section_strings r
    ++ table_bytes (map section_row (headers_of r)))))))
