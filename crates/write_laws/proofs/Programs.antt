-- The program headers of a written object, and its segments.
use Rattle.std.proofs.Common.{◌≡◌, ℕ, ◌+◌, ◌-◌, ◌^◌, ◌<◌, true, List, [], ◌∷◌, ◌++◌, length, map, All, refl, ap, ◌∙◌, arith}
use Rattle.std.proofs.lemmas.Bool.{lt-ltb}
use Rattle.std.proofs.lemmas.List.Elements.{All-head, All-tail, All-nil, All-cons}
use Rattle.fd_base.specs.Words.{word_in, word_bytes}
use Rattle.elf_model.specs.declared.object.Segment.{Segment}
use Rattle.elf_model.specs.declared.table.ProgramHeader.{ProgramHeader}
use Rattle.elf_model.specs.Segments.{header_offset, program_header, is_load, segment}
use Rattle.elf_write.specs.Words.{program_row, table_bytes, zeros}
use Rattle.elf_write.specs.ObjectFile.{offset_of, end_of, contents, load_header, load_headers}
use Rattle.write_laws.proofs.Holding.{Holds, front, behind, behind_at, taken, words_held, length-words}
use Rattle.write_laws.proofs.Listing.{Lists}
use Rattle.write_laws.proofs.ObjectParts.{padded}

-- ---- rows

pub record IsProgramFit (h : ProgramHeader) : Type 0 where
  pub kind : h.kind < 2 ^ 32
  pub offset : h.offset < 2 ^ 32
  pub vaddr : h.vaddr < 2 ^ 32
  pub filesz : h.filesz < 2 ^ 32
  pub memsz : h.memsz < 2 ^ 32
  pub flags : h.flags < 2 ^ 32
  pub align : h.align < 2 ^ 32

program_held : (bytes : List ℕ) (i : ℕ) (h : ProgramHeader) → IsProgramFit h → Holds bytes (header_offset bytes i) (word_bytes (program_row h)) → program_header bytes i ≡ h
unfolding program_header
program_held bytes i h f held =
    let at = header_offset bytes i in
    let row = program_row h in
    let kind : word_in bytes (at + 0) ≡ h.kind = words_held bytes at row 0 held (omega arith) f.kind in
    let offset : word_in bytes (at + 4) ≡ h.offset = words_held bytes at row 1 held (omega arith) f.offset in
    let vaddr : word_in bytes (at + 8) ≡ h.vaddr = words_held bytes at row 2 held (omega arith) f.vaddr in
    let filesz : word_in bytes (at + 16) ≡ h.filesz = words_held bytes at row 4 held (omega arith) f.filesz in
    let memsz : word_in bytes (at + 20) ≡ h.memsz = words_held bytes at row 5 held (omega arith) f.memsz in
    let flags : word_in bytes (at + 24) ≡ h.flags = words_held bytes at row 6 held (omega arith) f.flags in
    let align : word_in bytes (at + 28) ≡ h.align = words_held bytes at row 7 held (omega arith) f.align in
    rw (kind, offset, vaddr, filesz, memsz, flags, align) refl

pub programs_listed : (bytes : List ℕ) (i : ℕ) (hs : List ProgramHeader) → All IsProgramFit hs → Holds bytes (header_offset bytes i) (table_bytes (map program_row hs)) → Lists (program_header bytes) i hs
programs_listed bytes i [] fit held = tt
programs_listed bytes i (h ∷ hs) fit held =
    let row = word_bytes (program_row h) in
    let rest = table_bytes (map program_row hs) in
    let size : length row ≡ 32 = length-words (program_row h) in
    let next : header_offset bytes i + length row ≡ header_offset bytes (i + 1) = omega (arith, size) in (
      program_held bytes i h (All-head IsProgramFit h hs fit) (front bytes (header_offset bytes i) row rest held),
      programs_listed bytes (i + 1) hs (All-tail IsProgramFit h hs fit) (behind_at bytes (header_offset bytes i) (header_offset bytes (i + 1)) row rest held next),
    )

-- ---- segments

-- the segments of which headers tell are those whose bytes stand there
pub segments_read : (bytes : List ℕ) (at : ℕ) (ss : List Segment) → Holds bytes at (contents at ss) → map (segment bytes) (load_headers at ss) ≡ ss
segments_read bytes at [] held = refl
segments_read bytes at (s ∷ ss) held =
    let rest = contents (end_of at s) ss in
    let here = behind_at bytes at (offset_of at s) (zeros (offset_of at s - at)) (s.filled ++ rest) held (padded s.vaddr s.align at) in
    let filled = taken bytes (offset_of at s) (length s.filled) s.filled (front bytes (offset_of at s) s.filled rest here) refl in
    ap (λ f. record { vaddr = s.vaddr; memsz = s.memsz; flags = s.flags; align = s.align; filled = f } ∷ map (segment bytes) (load_headers (end_of at s) ss)) filled
    ∙ ap (λ xs. s ∷ xs) (segments_read bytes (end_of at s) ss (behind bytes (offset_of at s) s.filled rest here))

-- each is a segment with memory
pub loads_pass : (at : ℕ) (ss : List Segment) → All (λ s. 0 < s.memsz) ss → All (λ h. is_load h ≡ true) (load_headers at ss)
loads_pass at [] some = All-nil (λ h. is_load h ≡ true)
loads_pass at (s ∷ ss) some =
    All-cons (λ h. is_load h ≡ true) (load_header at s) (load_headers (end_of at s) ss) (lt-ltb 0 s.memsz (All-head (λ (s : Segment). 0 < s.memsz) s ss some)) (loads_pass (end_of at s) ss (All-tail (λ (s : Segment). 0 < s.memsz) s ss some))
