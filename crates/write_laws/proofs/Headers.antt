-- The ELF header and the section headers, read from their words.
use Rattle.std.proofs.Common.{◌≡◌, ℕ, ◌+◌, ◌^◌, ◌<◌, true, false, List, [], ◌∷◌, ◌++◌, length, get_or, map, All, refl, arith, None}
use Rattle.std.specs.Prelude.{slice_index, nat_lt}
use Rattle.std.proofs.lemmas.Bool.{le-ltb}
use Rattle.std.proofs.lemmas.List.Elements.{All-head, All-tail}
use Rattle.fd_base.specs.Words.{word_in, word_bytes}
use Rattle.elf_model.specs.declared.constants.TheConstants.{SHDR_SIZE, PHDR_SIZE, EHDR_SIZE}
use Rattle.elf_model.specs.declared.table.SectionHeader.{SectionHeader}
use Rattle.elf_model.specs.Test.{first_failing, each_below}
use Rattle.elf_model.specs.Header.{e_type, e_machine, e_version, e_entry, e_phoff, e_shoff, e_flags, e_phentsize, e_phnum, e_shentsize, e_shnum, e_shstrndx, is_one_of, size_tests, magic_tests, abi_tests, ident_tests, machine_tests, type_tests, file_tests}
use Rattle.elf_model.specs.Sections.{section_offset, section_header}
use Rattle.elf_model.proofs.Passing.{both}
use Rattle.elf_write.specs.declared.header.FileHeader.{FileHeader}
use Rattle.elf_write.specs.Words.{header_row, section_row, table_bytes}
use Rattle.write_laws.proofs.Holding.{Holds, front, behind_at, byte_held, words_held, row_held, halves_held, length-words}
use Rattle.write_laws.proofs.Listing.{Lists}

-- ---- section headers

pub record IsFit (h : SectionHeader) : Type 0 where
  pub name : h.name < 2 ^ 32
  pub kind : h.kind < 2 ^ 32
  pub flags : h.flags < 2 ^ 32
  pub addr : h.addr < 2 ^ 32
  pub offset : h.offset < 2 ^ 32
  pub size : h.size < 2 ^ 32
  pub link : h.link < 2 ^ 32
  pub info : h.info < 2 ^ 32
  pub align : h.align < 2 ^ 32

header_held : (bytes : List ℕ) (i : ℕ) (h : SectionHeader) → IsFit h → Holds bytes (section_offset bytes i) (word_bytes (section_row h)) → section_header bytes i ≡ h
unfolding section_header
header_held bytes i h f held =
    let at = section_offset bytes i in
    let row = section_row h in
    let name : word_in bytes (at + 0) ≡ h.name = words_held bytes at row 0 held (omega arith) f.name in
    let kind : word_in bytes (at + 4) ≡ h.kind = words_held bytes at row 1 held (omega arith) f.kind in
    let flags : word_in bytes (at + 8) ≡ h.flags = words_held bytes at row 2 held (omega arith) f.flags in
    let addr : word_in bytes (at + 12) ≡ h.addr = words_held bytes at row 3 held (omega arith) f.addr in
    let offset : word_in bytes (at + 16) ≡ h.offset = words_held bytes at row 4 held (omega arith) f.offset in
    let size : word_in bytes (at + 20) ≡ h.size = words_held bytes at row 5 held (omega arith) f.size in
    let link : word_in bytes (at + 24) ≡ h.link = words_held bytes at row 6 held (omega arith) f.link in
    let info : word_in bytes (at + 28) ≡ h.info = words_held bytes at row 7 held (omega arith) f.info in
    let align : word_in bytes (at + 32) ≡ h.align = words_held bytes at row 8 held (omega arith) f.align in
    rw (name, kind, flags, addr, offset, size, link, info, align) refl

pub headers_listed : (bytes : List ℕ) (i : ℕ) (hs : List SectionHeader) → All IsFit hs → Holds bytes (section_offset bytes i) (table_bytes (map section_row hs)) → Lists (section_header bytes) i hs
headers_listed bytes i [] fit held = tt
headers_listed bytes i (h ∷ hs) fit held =
    let row = word_bytes (section_row h) in
    let rest = table_bytes (map section_row hs) in
    let size : length row ≡ 40 = length-words (section_row h) in
    let next : section_offset bytes i + length row ≡ section_offset bytes (i + 1) = omega (arith, size) in (
      header_held bytes i h (All-head IsFit h hs fit) (front bytes (section_offset bytes i) row rest held),
      headers_listed bytes (i + 1) hs (All-tail IsFit h hs fit) (behind_at bytes (section_offset bytes i) (section_offset bytes (i + 1)) row rest held next),
    )

-- ---- the ELF header

module _ (bytes : List ℕ) (h : FileHeader) (held : Holds bytes 0 (word_bytes (header_row h))) where
  pub entry_read : h.entry < 2 ^ 32 → e_entry bytes ≡ h.entry
  entry_read fits = words_held bytes 0 (header_row h) 6 held (omega arith) fits

  pub phoff_read : h.phoff < 2 ^ 32 → e_phoff bytes ≡ h.phoff
  phoff_read fits = words_held bytes 0 (header_row h) 7 held (omega arith) fits

  pub shoff_read : h.shoff < 2 ^ 32 → e_shoff bytes ≡ h.shoff
  shoff_read fits = words_held bytes 0 (header_row h) 8 held (omega arith) fits

  pub phentsize_read : e_phentsize bytes ≡ PHDR_SIZE
  phentsize_read = (halves_held bytes 40 52 32 (row_held bytes 0 (header_row h) 10 held (omega arith)) (omega arith) (omega arith)).1

  pub phnum_read : h.phnum < 2 ^ 16 → e_phnum bytes ≡ h.phnum
  phnum_read fits = (halves_held bytes 44 h.phnum 40 (row_held bytes 0 (header_row h) 11 held (omega arith)) fits (omega arith)).0

  pub shentsize_read : h.phnum < 2 ^ 16 → e_shentsize bytes ≡ SHDR_SIZE
  shentsize_read fits = (halves_held bytes 44 h.phnum 40 (row_held bytes 0 (header_row h) 11 held (omega arith)) fits (omega arith)).1

  pub shnum_read : h.shnum < 2 ^ 16 → h.shstrndx < 2 ^ 16 → e_shnum bytes ≡ h.shnum
  shnum_read fits names = (halves_held bytes 48 h.shnum h.shstrndx (row_held bytes 0 (header_row h) 12 held (omega arith)) fits names).0

  pub shstrndx_read : h.shnum < 2 ^ 16 → h.shstrndx < 2 ^ 16 → e_shstrndx bytes ≡ h.shstrndx
  shstrndx_read fits names = (halves_held bytes 48 h.shnum h.shstrndx (row_held bytes 0 (header_row h) 12 held (omega arith)) fits names).1

  pub type_read : h.kind < 2 ^ 16 → e_type bytes ≡ h.kind
  type_read fits = (halves_held bytes 16 h.kind 40 (row_held bytes 0 (header_row h) 4 held (omega arith)) fits (omega arith)).0

  machine_read : h.kind < 2 ^ 16 → e_machine bytes ≡ 40
  machine_read fits = (halves_held bytes 16 h.kind 40 (row_held bytes 0 (header_row h) 4 held (omega arith)) fits (omega arith)).1

  version_read : e_version bytes ≡ 1
  version_read = words_held bytes 0 (header_row h) 5 held (omega arith) (omega arith)

  flags_read : e_flags bytes ≡ 0x0500_0000
  flags_read = words_held bytes 0 (header_row h) 9 held (omega arith) (omega arith)

  row_length : length (word_bytes (header_row h)) ≡ 52
  row_length = length-words (header_row h)

  at : (k : ℕ) → k < 52 → slice_index bytes (0 + k) ≡ get_or (word_bytes (header_row h)) k 0
  at k lt = byte_held bytes 0 k (word_bytes (header_row h)) held (omega (arith, row_length))

  magic : first_failing (magic_tests bytes) ≡ None
  unfolding magic_tests each_below
  magic =
      let b0 : slice_index bytes 0 ≡ 127 = at 0 (omega arith) in
      let b1 : slice_index bytes 1 ≡ 69 = at 1 (omega arith) in
      let b2 : slice_index bytes 2 ≡ 76 = at 2 (omega arith) in
      let b3 : slice_index bytes 3 ≡ 70 = at 3 (omega arith) in
      let b4 : slice_index bytes 4 ≡ 1 = at 4 (omega arith) in
      let b5 : slice_index bytes 5 ≡ 1 = at 5 (omega arith) in
      let b6 : slice_index bytes 6 ≡ 1 = at 6 (omega arith) in
      rw (b0, b1, b2, b3, b4, b5, b6) refl

  abi : (abis : List ℕ) → is_one_of abis 65 ≡ true → first_failing (abi_tests abis bytes) ≡ None
  unfolding abi_tests
  abi abis known = let b : slice_index bytes 7 ≡ 65 = at 7 (omega arith) in rw (b, known) refl

  machine : h.kind < 2 ^ 16 → first_failing (machine_tests bytes) ≡ None
  unfolding machine_tests
  machine fits = rw (machine_read fits, flags_read) refl

  known_type : (types : List ℕ) → h.kind < 2 ^ 16 → is_one_of types h.kind ≡ true → first_failing (type_tests types bytes) ≡ None
  unfolding type_tests
  known_type types fits known = rw (type_read fits, known, version_read) refl

  size : first_failing (size_tests bytes) ≡ None
  unfolding size_tests
  size = let i = held.inside in let e : nat_lt (length bytes) EHDR_SIZE ≡ false = le-ltb _ _ (omega (arith, i, row_length)) in rw e refl

  pub file_passes : (abis types : List ℕ) → is_one_of abis 65 ≡ true → h.kind < 2 ^ 16 → is_one_of types h.kind ≡ true → first_failing (file_tests abis types bytes) ≡ None
  unfolding file_tests ident_tests
  file_passes abis types fdpic fits known =
      both (size_tests bytes) (ident_tests abis bytes ++ (machine_tests bytes ++ type_tests types bytes)) size
      (both (ident_tests abis bytes) (machine_tests bytes ++ type_tests types bytes) (both (magic_tests bytes) (abi_tests abis bytes) magic (abi abis fdpic))
      (both (machine_tests bytes) (type_tests types bytes) (machine fits) (known_type types fits known)))
