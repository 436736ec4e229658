-- The dynamic section of an object (gABI, "Dynamic Section").
use Rattle.std.specs.Prelude.{ℕ, ◌+◌, ◌*◌, ◌/◌, Bool, not, ◌&&◌, ◌||◌, ◌==◌, nat_le, List, [], ◌∷◌, map, filter, find, position, take, slice_range, Option, option_map, option_and_then, is_none, unwrap_or}
use Rattle.std.specs.Option.{option_map_or}
use Rattle.std.specs.List.{range_with_len}
use Rattle.fd_base.specs.Words.{word_in}
use Rattle.elf_model.specs.declared.constants.TheConstants.{D_TAG, D_VAL, DYN_SIZE, SYM_SIZE, REL_SIZE, PT_DYNAMIC, DT_NULL, DT_NEEDED, DT_STRTAB, DT_RELA, DT_STRSZ, DT_SYMENT, DT_SONAME, DT_REL, DT_RELENT, DT_PLTREL, DT_TEXTREL, DT_FLAGS, DF_TEXTREL, MAX_NEEDED}
use Rattle.elf_model.specs.declared.refusal.ElfKind.TheVariants.{DynRange, Rela, TextRel, Table, TooMany, NameRange}
use Rattle.elf_model.specs.declared.table.ProgramHeader.{ProgramHeader}
use Rattle.elf_model.specs.declared.table.DynEntry.{DynEntry}
use Rattle.elf_model.specs.Test.{ElfTest, refuses, of_some, each_from}
use Rattle.elf_model.specs.Header.{e_phnum}
use Rattle.elf_model.specs.Segments.{header_offset, program_header, headers_below, held_at, has_flag}
use Rattle.elf_model.specs.Strings.{name_at}

-- ---- the entries

-- which program header is the first of a dynamic section
unfoldable pub dynamic_header : List ℕ → Option ℕ
dynamic_header bytes = position (λ h. h.kind == PT_DYNAMIC) (headers_below bytes (e_phnum bytes))

-- the entry at an offset of the file
unfoldable pub entry_at : List ℕ → ℕ → DynEntry
entry_at bytes offset = record { offset = offset; tag = word_in bytes (offset + D_TAG); value = word_in bytes (offset + D_VAL) }

-- the whole entries of n bytes from an offset on
abbrev pub whole_entries : List ℕ → ℕ → ℕ → List DynEntry
whole_entries bytes offset n = map (λ k. entry_at bytes (offset + DYN_SIZE * k)) (range_with_len 0 (n / DYN_SIZE))

abbrev pub is_null : DynEntry → Bool
is_null e = e.tag == DT_NULL

-- The entries before the first NULL. None where there is no NULL.
unfoldable pub before_null : List DynEntry → Option (List DynEntry)
before_null entries = option_map (λ k. take k entries) (position is_null entries)

-- The entries of this header's section, where its bytes are held and have a NULL. Only its link address and its size
-- in the file count.
unfoldable pub entries_of : List ℕ → List ProgramHeader → ProgramHeader → Option (List DynEntry)
entries_of bytes loads h =
    option_and_then (λ offset. before_null (whole_entries bytes offset h.filesz)) (held_at loads h.vaddr h.filesz)

unfoldable pub dynamic_range_tests : List ℕ → List ProgramHeader → List ElfTest
dynamic_range_tests bytes loads = of_some (dynamic_header bytes) (λ i.
    refuses DynRange (header_offset bytes i) (is_none (entries_of bytes loads (program_header bytes i)))
    ∷ [])

-- the entries, none of them where there is no dynamic section
unfoldable pub dynamic_entries : List ℕ → List ProgramHeader → List DynEntry
dynamic_entries bytes loads =
    option_map_or (λ i. unwrap_or (entries_of bytes loads (program_header bytes i)) []) (dynamic_header bytes) []

-- where a fault of the dynamic section as a whole is reported, which is this place where there is no such section
abbrev pub dynamic_offset_or : List ℕ → ℕ → ℕ
dynamic_offset_or bytes place = option_map_or (header_offset bytes) (dynamic_header bytes) place

-- ---- each entry

unfoldable pub entry_tests : DynEntry → List ElfTest
entry_tests e =
    refuses Rela e.offset (e.tag == DT_RELA || (e.tag == DT_PLTREL && not (e.value == DT_REL)))
    ∷ refuses TextRel e.offset (e.tag == DT_TEXTREL || (e.tag == DT_FLAGS && has_flag e.value DF_TEXTREL))
    ∷ refuses Table e.offset ((e.tag == DT_SYMENT && not (e.value == SYM_SIZE)) || (e.tag == DT_RELENT && not (e.value == REL_SIZE)))
    ∷ []

-- each entry is looked at, also where its tag stood before
unfoldable pub all_entry_tests : List DynEntry → List ElfTest
all_entry_tests entries = each_from 0 (λ k e. entry_tests e) entries

-- the first entry of a tag, which is the one that counts
abbrev pub first_of : ℕ → List DynEntry → Option DynEntry
first_of tag entries = find (λ e. e.tag == tag) entries

-- its value
abbrev pub value_of : ℕ → List DynEntry → Option ℕ
value_of tag entries = option_map (λ e. e.value) (first_of tag entries)

-- ---- the strings

-- The strings at a link address. None where their size isn't said, or they are not held.
unfoldable pub strings_at : List ℕ → List ProgramHeader → ℕ → Option ℕ → Option (List ℕ)
strings_at bytes loads table size =
    option_and_then (λ n. option_map (λ offset. slice_range bytes offset (offset + n)) (held_at loads table n)) size

unfoldable pub string_tests : List ℕ → List ProgramHeader → List DynEntry → List ElfTest
string_tests bytes loads entries = of_some (first_of DT_STRTAB entries) (λ e.
    refuses Table e.offset (is_none (strings_at bytes loads e.value (value_of DT_STRSZ entries)))
    ∷ [])

-- no bytes where there are no strings
unfoldable pub strings_of : List ℕ → List ProgramHeader → List DynEntry → List ℕ
strings_of bytes loads entries =
    option_map_or (λ e. unwrap_or (strings_at bytes loads e.value (value_of DT_STRSZ entries)) []) (first_of DT_STRTAB entries) []

-- ---- the names of objects

abbrev pub needed_entries : List DynEntry → List DynEntry
needed_entries entries = filter (λ e. e.tag == DT_NEEDED) entries

-- k is how many needed names stand before this one
unfoldable pub needed_entry_tests : List ℕ → ℕ → DynEntry → List ElfTest
needed_entry_tests strings k e =
    refuses TooMany e.offset (nat_le MAX_NEEDED k)
    ∷ refuses NameRange e.offset (is_none (name_at strings e.value))
    ∷ []

unfoldable pub needed_tests : List ℕ → List DynEntry → List ElfTest
needed_tests strings entries = each_from 0 (needed_entry_tests strings) (needed_entries entries)

abbrev pub needed_name : List ℕ → DynEntry → List ℕ
needed_name strings e = unwrap_or (name_at strings e.value) []

unfoldable pub needed_of : List ℕ → List DynEntry → List (List ℕ)
needed_of strings entries = map (needed_name strings) (needed_entries entries)

unfoldable pub soname_tests : List ℕ → List DynEntry → List ElfTest
soname_tests strings entries = of_some (first_of DT_SONAME entries) (λ e.
    refuses NameRange e.offset (is_none (name_at strings e.value))
    ∷ [])

unfoldable pub soname_of : List ℕ → List DynEntry → Option (List ℕ)
soname_of strings entries = option_and_then (name_at strings) (value_of DT_SONAME entries)
