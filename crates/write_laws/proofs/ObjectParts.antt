-- Where the parts of a written object stand.
use Rattle.std.proofs.Common.{◌≡◌, ℕ, ◌+◌, ◌-◌, ◌*◌, ◌≤◌, suc, List, [], ◌∷◌, ◌++◌, length, map, refl, ap, ◌∙◌, arith, length-append}
use Rattle.std.specs.Option.{option_map_or}
use Rattle.std.proofs.lemmas.List.{length-replicate}
use Rattle.fd_base.specs.Words.{word_bytes}
use Rattle.elf_model.specs.declared.constants.TheConstants.{EHDR_SIZE, PHDR_SIZE}
use Rattle.elf_model.specs.declared.object.Object.{Object}
use Rattle.elf_model.specs.declared.object.Segment.{Segment}
use Rattle.elf_model.specs.declared.table.ProgramHeader.{ProgramHeader}
use Rattle.elf_write.specs.Words.{header_row, program_row, table_bytes, zeros, offset_like}
use Rattle.elf_write.specs.TableSegment.{table_segment, with_tables}
use Rattle.elf_write.specs.ObjectFile.{offset_of, end_of, end_of_all, contents, load_headers, header_count, headers_end, dynamic_header, program_headers, names_offset, sections, file_header, object_file}
use Rattle.write_laws.proofs.Holding.{Holds, front, behind_at, whole, length-words}

-- ---- how long they are

length-programs : (hs : List ProgramHeader) → length (table_bytes (map program_row hs)) ≡ PHDR_SIZE * length hs
length-programs [] = refl
length-programs (h ∷ hs) =
    let a = length-append (word_bytes (program_row h)) (table_bytes (map program_row hs)) in
    let b : length (word_bytes (program_row h)) ≡ 32 = length-words (program_row h) in
    let c = length-programs hs in
    omega (arith, a, b, c)

pub length-loads : (at : ℕ) (ss : List Segment) → length (load_headers at ss) ≡ length ss
length-loads at [] = refl
length-loads at (s ∷ ss) = ap suc (length-loads (end_of at s) ss)

pub program_count : (o : Object) → length (program_headers o) ≡ header_count o
program_count o =
    let a = length-append (load_headers (headers_end o) (with_tables o).segments) (dynamic_header o ∷ []) in
    let b = length-loads (headers_end o) (with_tables o).segments in
    let c = length-append o.segments (table_segment o ∷ []) in
    omega (arith, a, b, c)

pub not_before : (place align at : ℕ) → at ≤ offset_like place align at
not_before place align at = omega arith

pub padded : (place align at : ℕ) → at + length (zeros (offset_like place align at - at)) ≡ offset_like place align at
padded place align at =
    let z : length (zeros (offset_like place align at - at)) ≡ offset_like place align at - at = length-replicate (offset_like place align at - at) 0 in
    let l = not_before place align at in
    omega (arith, z, l)

pub contents_end : (at : ℕ) (ss : List Segment) → at + length (contents at ss) ≡ end_of_all at ss
contents_end at [] = let e : at + 0 ≡ at = omega arith in e
contents_end at (s ∷ ss) =
    let rest = contents_end (end_of at s) ss in
    let a = length-append (zeros (offset_of at s - at)) (s.filled ++ contents (end_of at s) ss) in
    let b = length-append s.filled (contents (end_of at s) ss) in
    let z = padded s.vaddr s.align at in
    let sum : at + length (contents at (s ∷ ss)) ≡ end_of at s + length (contents (end_of at s) ss) = omega (arith, a, b, z) in
    sum ∙ rest

-- ---- where they stand

pub record ObjectStands (bytes : List ℕ) (o : Object) : Type 0 where
  pub header : Holds bytes 0 (word_bytes (header_row (file_header o)))
  pub programs : Holds bytes EHDR_SIZE (table_bytes (map program_row (program_headers o)))
  pub filled : Holds bytes (headers_end o) (contents (headers_end o) (with_tables o).segments)
  pub sections' : Holds bytes (names_offset o) (option_map_or (sections o) o.fixups [])

pub object_stands : (o : Object) → ObjectStands (object_file o) o
unfolding object_file
object_stands o =
    let bytes = object_file o in
    let head = word_bytes (header_row (file_header o)) in
    let programs = table_bytes (map program_row (program_headers o)) in
    let filled = contents (headers_end o) (with_tables o).segments in
    let last = option_map_or (sections o) o.fixups [] in
    let all : Holds bytes 0 (head ++ (programs ++ (filled ++ last))) = whole bytes in
    let head_size : length head ≡ 52 = length-words (header_row (file_header o)) in
    let from_programs : Holds bytes EHDR_SIZE (programs ++ (filled ++ last)) = behind_at bytes 0 EHDR_SIZE head (programs ++ (filled ++ last)) all (omega (arith, head_size)) in
    let count = program_count o in
    let size = length-programs (program_headers o) in
    let from_filled : Holds bytes (headers_end o) (filled ++ last) = behind_at bytes EHDR_SIZE (headers_end o) programs (filled ++ last) from_programs (omega (arith, count, size)) in
    let from_last : Holds bytes (names_offset o) last = behind_at bytes (headers_end o) (names_offset o) filled last from_filled (contents_end (headers_end o) (with_tables o).segments) in
    record {
      header = front bytes 0 head (programs ++ (filled ++ last)) all;
      programs = front bytes EHDR_SIZE programs (filled ++ last) from_programs;
      filled = front bytes (headers_end o) filled last from_filled;
      sections' = from_last;
    }
