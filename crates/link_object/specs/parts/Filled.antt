-- Which sections the file has bytes of, and where these lie.
use Rattle.std.specs.Prelude.{ℕ, ◌+◌, Bool, true, false, not, ◌&&◌, nat_lt, List, length}
use Rattle.elf_model.specs.declared.relocatable.RelObject.{RelObject}
use Rattle.link_model.specs.declared.input.Mode.{Mode}
use Rattle.link_model.specs.Inputs.{InputSection}
use Rattle.link_model.specs.Places.{data_place, filled_end}
use Rattle.link_model.specs.Sections.{is_writable, is_nobits, text_place}
use Rattle.link_model.specs.Segments.{text_filled_end}

-- ---- sections

abbrev pub has_bytes : InputSection → Bool
has_bytes x = nat_lt 0 (length (x.section).filled)

-- those that a program writes to, or the others
abbrev pub is_of_part : Bool → InputSection → Bool
is_of_part true x = is_writable x
is_of_part false x = not (is_writable x)

-- of these those that have bytes
abbrev pub is_copied : Bool → InputSection → Bool
is_copied true x = is_writable x && has_bytes x
is_copied false x = not (is_writable x) && has_bytes x

-- ---- the text

abbrev pub is_filled_text : InputSection → Bool
is_filled_text x = not (is_writable x) && not (is_nobits x)

abbrev pub text_end_of : List RelObject → InputSection → ℕ
text_end_of inputs x = text_place inputs x.index + (x.section).size

-- ---- the file's bytes of the data, or of the text

abbrev pub file_start : Mode → List RelObject → Bool → ℕ
file_start mode inputs true = data_place mode inputs
file_start mode inputs false = 0

abbrev pub file_end : Mode → List RelObject → Bool → ℕ
file_end mode inputs true = filled_end mode inputs
file_end mode inputs false = text_filled_end mode inputs
