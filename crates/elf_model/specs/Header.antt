-- The ELF header of a file, and that of an object (gABI, "ELF Header"; the machine, its flags and the OS/ABI byte by ELF for the
-- Arm Architecture and the Arm FDPIC ABI).
use Rattle.std.specs.Prelude.{ℕ, ◌+◌, ◌*◌, ◌/◌, ◌^◌, Bool, not, ◌==◌, nat_lt, nat_le, List, [], ◌∷◌, ◌++◌, length, slice_index, if◌then◌else◌}
use Rattle.std.specs.List.{list_any}
use Rattle.fd_base.specs.Words.{word_in, half_in}
use Rattle.elf_model.specs.declared.constants.TheConstants.{EI_OSABI, E_TYPE, E_MACHINE, E_VERSION, E_ENTRY, E_PHOFF, E_SHOFF, E_FLAGS, E_PHENTSIZE, E_PHNUM, E_SHENTSIZE, E_SHNUM, E_SHSTRNDX, EM_ARM, EF_ARM_EABI_VERSION, ELFOSABI_ARM_FDPIC, ET_EXEC, ET_DYN, EHDR_SIZE, PHDR_SIZE, SHDR_SIZE}
use Rattle.elf_model.specs.declared.refusal.ElfKind.TheVariants.{Short, Ident, Machine, FileType, Header}
use Rattle.elf_model.specs.declared.object.Kind.{Kind}
use Rattle.elf_model.specs.declared.object.Kind.TheVariants.{Exec, Dyn}
use Rattle.elf_model.specs.Test.{ElfTest, refuses, only_where, each_below}

abbrev pub e_type : List ℕ → ℕ
e_type bytes = half_in bytes E_TYPE

abbrev pub e_machine : List ℕ → ℕ
e_machine bytes = half_in bytes E_MACHINE

abbrev pub e_version : List ℕ → ℕ
e_version bytes = word_in bytes E_VERSION

abbrev pub e_entry : List ℕ → ℕ
e_entry bytes = word_in bytes E_ENTRY

abbrev pub e_phoff : List ℕ → ℕ
e_phoff bytes = word_in bytes E_PHOFF

abbrev pub e_shoff : List ℕ → ℕ
e_shoff bytes = word_in bytes E_SHOFF

abbrev pub e_flags : List ℕ → ℕ
e_flags bytes = word_in bytes E_FLAGS

abbrev pub e_phentsize : List ℕ → ℕ
e_phentsize bytes = half_in bytes E_PHENTSIZE

abbrev pub e_phnum : List ℕ → ℕ
e_phnum bytes = half_in bytes E_PHNUM

abbrev pub e_shentsize : List ℕ → ℕ
e_shentsize bytes = half_in bytes E_SHENTSIZE

abbrev pub e_shnum : List ℕ → ℕ
e_shnum bytes = half_in bytes E_SHNUM

abbrev pub e_shstrndx : List ℕ → ℕ
e_shstrndx bytes = half_in bytes E_SHSTRNDX

-- Whether n bytes from an offset on pass the end of the file. It is asked in whole numbers, also of no bytes.
abbrev pub passes_end : List ℕ → ℕ → ℕ → Bool
passes_end bytes offset n = nat_lt (length bytes) (offset + n)

-- the first seven bytes: 7f 45 4c 46, class 1, byte order 1, version 1
abbrev pub ident : List ℕ
ident = 127 ∷ 69 ∷ 76 ∷ 70 ∷ 1 ∷ 1 ∷ 1 ∷ []

abbrev pub ident_test : List ℕ → ℕ → List ElfTest
ident_test bytes i = refuses Ident i (not (slice_index bytes i == slice_index ident i)) ∷ []

-- whether a number is one of these
abbrev pub is_one_of : List ℕ → ℕ → Bool
is_one_of allowed n = list_any (λ a. a == n) allowed

unfoldable pub size_tests : List ℕ → List ElfTest
size_tests bytes = refuses Short (length bytes) (nat_lt (length bytes) EHDR_SIZE) ∷ []

unfoldable pub magic_tests : List ℕ → List ElfTest
magic_tests bytes = each_below 7 (ident_test bytes)

-- behind those bytes stands the OS/ABI, one of these
unfoldable pub abi_tests : List ℕ → List ℕ → List ElfTest
abi_tests abis bytes = refuses Ident EI_OSABI (not (is_one_of abis (slice_index bytes EI_OSABI))) ∷ []

unfoldable pub ident_tests : List ℕ → List ℕ → List ElfTest
ident_tests abis bytes = magic_tests bytes ++ abi_tests abis bytes

unfoldable pub machine_tests : List ℕ → List ElfTest
machine_tests bytes =
    refuses Machine E_MACHINE (not (e_machine bytes == EM_ARM))
    ∷ refuses Machine E_FLAGS (not (e_flags bytes / 2 ^ 24 == EF_ARM_EABI_VERSION))
    ∷ []

-- the file is of one of these types
unfoldable pub type_tests : List ℕ → List ℕ → List ElfTest
type_tests types bytes =
    refuses FileType E_TYPE (not (is_one_of types (e_type bytes)))
    ∷ refuses Header E_VERSION (not (e_version bytes == 1))
    ∷ []

-- the tests of any file, by the OS/ABIs and the types that are allowed
unfoldable pub file_tests : List ℕ → List ℕ → List ℕ → List ElfTest
file_tests abis types bytes =
    size_tests bytes
    ++ (ident_tests abis bytes
    ++ (machine_tests bytes
    ++ type_tests types bytes))

unfoldable pub program_table_tests : List ℕ → List ElfTest
program_table_tests bytes =
    refuses Header E_PHENTSIZE (not (e_phentsize bytes == PHDR_SIZE))
    ∷ refuses Header E_PHNUM (e_phnum bytes == 0)
    ∷ refuses Header E_PHOFF (passes_end bytes (e_phoff bytes) (PHDR_SIZE * e_phnum bytes))
    ∷ []

-- the tests of section headers that are there
abbrev pub present_table_tests : List ℕ → List ElfTest
present_table_tests bytes =
    refuses Header E_SHENTSIZE (not (e_shentsize bytes == SHDR_SIZE))
    ∷ refuses Header E_SHOFF (passes_end bytes (e_shoff bytes) (SHDR_SIZE * e_shnum bytes))
    ∷ refuses Header E_SHSTRNDX (nat_le (e_shnum bytes) (e_shstrndx bytes))
    ∷ []

-- where the file has section headers
unfoldable pub section_table_tests : List ℕ → List ElfTest
section_table_tests bytes = only_where (nat_lt 0 (e_shnum bytes)) (present_table_tests bytes)

-- ---- executables and shared objects

abbrev pub object_abis : List ℕ
object_abis = ELFOSABI_ARM_FDPIC ∷ []

abbrev pub object_types : List ℕ
object_types = ET_EXEC ∷ ET_DYN ∷ []

-- the tests of the header in their order
unfoldable pub header_tests : List ℕ → List ElfTest
header_tests bytes =
    file_tests object_abis object_types bytes
    ++ (program_table_tests bytes
    ++ section_table_tests bytes)

abbrev pub kind : List ℕ → Kind
kind bytes = if e_type bytes == ET_EXEC then Exec else Dyn
