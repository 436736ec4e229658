-- Where things lie in an object.
use Rattle.std.specs.Prelude.{ℕ, ◌+◌, ◌-◌, Bool, ◌&&◌, List, [], ◌∷◌, ◌++◌, map, slice_index, slice_get, Option, unwrap_or, if◌then◌else◌}
use Rattle.std.specs.List.{list_any}
use Rattle.fd_base.specs.Ranges as range
use Rattle.fd_base.specs.Ranges.{is_in}
use Rattle.fd_base.specs.Words.{word_in}
use Rattle.elf_model.specs.declared.object.Object.{Object}
use Rattle.elf_model.specs.declared.object.Rel.{Rel}
use Rattle.elf_model.specs.declared.object.Segment.{Segment}
use Rattle.elf_model.specs.declared.constants.TheConstants.{PF_X, PF_W}
use Rattle.elf_model.specs.declared.table.Site.{Site}
use Rattle.elf_model.specs.Segments.{has_flag}
use Rattle.elf_model.specs.Relocations.{site_size, word_site, got_header}

-- whether a link address is held in a segment: in its memory
abbrev pub is_held_in : Segment → ℕ → Bool
is_held_in s v = is_in s.vaddr s.memsz v

-- the file's byte at a link address, and zero past the file's bytes of the segment that holds it
abbrev pub file_byte : List Segment → ℕ → ℕ
file_byte [] v = 0
file_byte (s ∷ ss) v = if is_held_in s v then slice_index s.filled (v - s.vaddr) else file_byte ss v

-- the file's word at a link address, little-endian
abbrev pub file_word : List Segment → ℕ → ℕ
file_word ss v = word_in (file_byte ss v ∷ file_byte ss (v + 1) ∷ file_byte ss (v + 2) ∷ file_byte ss (v + 3) ∷ []) 0

-- whether n bytes at a link address are in the memory of a segment
abbrev pub spans : Segment → ℕ → ℕ → Bool
spans s v n = range.spans s.vaddr s.memsz v n

abbrev pub is_writable : Segment → Bool
is_writable s = has_flag s.flags PF_W

abbrev pub is_executable : Segment → Bool
is_executable s = has_flag s.flags PF_X

-- whether n bytes at a link address are in the memory of one writable segment
abbrev pub is_writable_in : List Segment → ℕ → ℕ → Bool
is_writable_in ss v n = list_any (λ s. is_writable s && spans s v n) ss

-- whether a link address is held in an executable segment
abbrev pub is_executable_in : List Segment → ℕ → Bool
is_executable_in ss v = list_any (λ s. is_executable s && is_held_in s v) ss

-- whether a link address is among the bytes that a relocation fills
abbrev pub covers : Rel → ℕ → Bool
covers r v = is_in r.site (site_size r.kind) v

abbrev pub site_of_rel : Rel → Site
site_of_rel r = record { addr = r.site; size = site_size r.kind }

-- the ranges that loading fills: the header of the GOT, and the sites of relocations and fixups
abbrev pub filled_ranges : Object → List Site
filled_ranges o =
    got_header o.got ∷ map site_of_rel o.rels ++ map site_of_rel o.jmprels ++ map word_site (unwrap_or o.fixups [])

-- slot k: the k-th entry of DT_JMPREL, counted from 0
abbrev pub slot_of : Object → ℕ → Option Rel
slot_of o k = slice_get o.jmprels k
