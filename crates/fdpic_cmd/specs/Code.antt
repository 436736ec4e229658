-- code F: the words of an object's executable segments.
use Rattle.std.specs.Prelude.{ℕ, ◌+◌, ◌*◌, ◌/◌, List, ◌++◌, length, filter, codes, Option, Some, None}
use Rattle.std.specs.List.{flat_map, range_with_len}
use Rattle.std.specs.Int.{bytes_high_first}
use Rattle.elf_model.specs.Places.{is_executable}
use Rattle.hex.specs.Hex.{encode_lower}
use Rattle.fd_base.specs.Texts.{hex8}
use Rattle.fd_base.specs.Words.{word_in}
use Rattle.elf_model.specs.declared.object.Segment.{Segment}
use Rattle.elf_model.specs.declared.object.Object.{Object}
use Rattle.a32_isa.specs.declared.instr.Instr.{Instr}
use Rattle.a32_isa.specs.Decoding.{decode_of}
use Rattle.a32_isa.specs.Text.{text_of}

-- the text of a word that is an instruction, `.word` where it is none
abbrev pub instruction_text : Option Instr → List ℕ
instruction_text None = codes ".word"
instruction_text (Some i) = text_of i

-- a word at a link address: the address, its eight digits, its text
unfoldable pub code_line : ℕ → ℕ → List ℕ
code_line addr word =
    hex8 addr ++ codes " " ++ encode_lower (bytes_high_first 4 word) ++ codes " " ++ instruction_text (decode_of word) ++ codes "\n"

-- word k of the bytes that the file holds of a segment, counted from its begin
abbrev pub segment_code_line : Segment → ℕ → List ℕ
segment_code_line s k = code_line (s.vaddr + 4 * k) (word_in s.filled (4 * k))

-- each whole word of a segment
unfoldable pub segment_code : Segment → List ℕ
segment_code s = flat_map (segment_code_line s) (range_with_len 0 (length s.filled / 4))

-- those of the executable segments, in the order of the object
abbrev pub code_listing : Object → List ℕ
code_listing o = flat_map segment_code (filter is_executable o.segments)
