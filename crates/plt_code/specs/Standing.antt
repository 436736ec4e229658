-- What stands in the executable segments of an object.
use Rattle.std.specs.Prelude.{ℕ, ◌+◌, Bool, true, ◌&&◌, ◌==◌, List, [], ◌∷◌, length}
use Rattle.std.specs.List.{list_any}
use Rattle.fd_base.specs.Ranges as range
use Rattle.elf_model.specs.declared.constants.TheConstants.{PF_X}
use Rattle.elf_model.specs.declared.object.Segment.{Segment}
use Rattle.elf_model.specs.Segments.{has_flag}
use Rattle.elf_model.specs.Places.{file_word, spans}

-- whether n bytes at a link address are among the file's bytes of a segment
abbrev pub is_filled : Segment → ℕ → ℕ → Bool
is_filled s v n = range.spans s.vaddr (length s.filled) v n

-- whether n bytes at a link address are among the file's bytes of one executable segment
abbrev pub is_code_in : List Segment → ℕ → ℕ → Bool
is_code_in ss v n = list_any (λ s. has_flag s.flags PF_X && is_filled s v n) ss

-- whether these are the file's words from a link address on
abbrev pub stand_at : List Segment → ℕ → List ℕ → Bool
stand_at ss v [] = true
stand_at ss v (w ∷ ws) = file_word ss v == w && stand_at ss (v + 4) ws

-- whether the two words at a site and the header of the GOT are in the memory of one segment
abbrev pub is_near : List Segment → ℕ → ℕ → Bool
is_near ss site got = list_any (λ s. spans s site 8 && spans s got 12) ss
