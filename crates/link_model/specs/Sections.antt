-- The sections of each segment in their order, and where those of the text lie (gABI, "Sections": sh_flags,
-- sh_addralign).
use Rattle.std.specs.Prelude.{ℕ, ◌+◌, ◌%◌, nat_le, Bool, false, not, ◌&&◌, ◌||◌, ◌==◌, List, ◌++◌, map, filter, slice_get}
use Rattle.std.specs.Option.{option_map_or}
use Rattle.elf_model.specs.declared.constants.TheConstants.{SHF_WRITE, SHF_EXECINSTR, SHT_NOBITS, SHT_INIT_ARRAY, SHT_FINI_ARRAY}
use Rattle.elf_model.specs.declared.relocatable.RelObject.{RelObject}
use Rattle.elf_model.specs.Segments.{has_flag}
use Rattle.link_layout.specs.declared.layout.Piece.{Piece}
use Rattle.link_layout.specs.Layout.{end_of, place_of}
use Rattle.link_model.specs.declared.target.Spot.{Spot}
use Rattle.link_model.specs.declared.target.Spot.TheVariants.{Section}
use Rattle.link_model.specs.Inputs.{InputSection, sections_of}

abbrev pub is_writable : InputSection → Bool
is_writable x = has_flag (x.section).flags SHF_WRITE

abbrev pub is_nobits : InputSection → Bool
is_nobits x = (x.section).kind == SHT_NOBITS

abbrev pub is_array : InputSection → Bool
is_array x = (x.section).kind == SHT_INIT_ARRAY || (x.section).kind == SHT_FINI_ARRAY

-- ---- segments

-- the text: what a program doesn't write to
abbrev pub text_sections : List RelObject → List InputSection
text_sections inputs = filter (λ x. not (is_writable x)) (sections_of inputs)

-- of what it writes to, the sections that pass a test
abbrev pub writable_sections : (InputSection → Bool) → List RelObject → List InputSection
writable_sections which inputs = filter (λ x. is_writable x && which x) (sections_of inputs)

-- the data that the file has bytes of: arrays of start functions, arrays of end functions, and all else
abbrev pub filled_sections : List RelObject → List InputSection
filled_sections inputs =
    writable_sections (λ x. (x.section).kind == SHT_INIT_ARRAY) inputs
    ++ (writable_sections (λ x. (x.section).kind == SHT_FINI_ARRAY) inputs
    ++ writable_sections (λ x. not (is_array x || is_nobits x)) inputs)

-- the data, zeros last
abbrev pub data_sections : List RelObject → List InputSection
data_sections inputs = filled_sections inputs ++ writable_sections is_nobits inputs

abbrev pub piece_of : InputSection → Piece
piece_of x = record { align = (x.section).align; size = (x.section).size }

-- where sections end that lie one behind the other from a place on
abbrev pub sections_end : ℕ → List InputSection → ℕ
sections_end at xs = end_of at (map piece_of xs)

-- where the section of this number lies among them
abbrev pub place_among : ℕ → List InputSection → ℕ → ℕ
place_among at xs k = place_of piece_of (λ x. x.index == k) at xs

-- ---- the text, which begins at link address 0

unfoldable pub text_place : List RelObject → ℕ → ℕ
text_place inputs k = place_among 0 (text_sections inputs) k

unfoldable pub text_sections_end : List RelObject → ℕ
text_sections_end inputs = sections_end 0 (text_sections inputs)

-- ---- what a section of a number is

abbrev pub has_section : List RelObject → ℕ → (InputSection → Bool) → Bool
has_section inputs k which = option_map_or which (slice_get (sections_of inputs) k) false

abbrev pub is_text_section : List RelObject → ℕ → Bool
is_text_section inputs k = has_section inputs k (λ x. not (is_writable x))

abbrev pub is_code_section : List RelObject → ℕ → Bool
is_code_section inputs k = has_section inputs k (λ x. not (is_writable x) && has_flag (x.section).flags SHF_EXECINSTR)

-- ---- functions

-- whether a symbol is defined in a section of the text, whatever its address
abbrev pub is_in_text : List RelObject → Spot → Bool
is_in_text inputs (Section k offset) = is_text_section inputs k
is_in_text inputs spot = false

-- its link address
abbrev pub function_address : List RelObject → Spot → ℕ
function_address inputs (Section k offset) = text_place inputs k + offset
function_address inputs spot = 0

-- a function: at a multiple of 4, in a section of code or at its end
abbrev pub is_function : List RelObject → Spot → Bool
is_function inputs (Section k offset) =
    is_code_section inputs k && (has_section inputs k (λ x. nat_le offset (x.section).size) && (text_place inputs k + offset) % 4 == 0)
is_function inputs spot = false
