-- What the layout asks of sections.
use Rattle.std.specs.Prelude.{ℕ, Bool, not, ◌&&◌, ◌||◌, ◌==◌, List, map, filter}
use Rattle.std.specs.List.{enumerate_from}
use Rattle.elf_model.specs.declared.constants.TheConstants.{SHF_WRITE, SHF_EXECINSTR, SHT_NOBITS, SHT_INIT_ARRAY, SHT_FINI_ARRAY}
use Rattle.elf_model.specs.declared.relocatable.RelObject.{RelObject}
use Rattle.elf_model.specs.declared.relocatable.RelSection.{RelSection}
use Rattle.elf_model.specs.Segments.{has_flag}
use Rattle.link_layout.specs.declared.layout.Piece.{Piece}
use Rattle.link_model.specs.Inputs.{InputSection, sections_in, sections_of}
use Rattle.link_places.specs.declared.heads.SectionHead.{SectionHead}

abbrev pub head_of : InputSection → SectionHead
head_of x = record {
  index = x.index;
  input = x.input;
  number = x.number;
  kind = (x.section).kind;
  flags = (x.section).flags;
  align = (x.section).align;
  size = (x.section).size;
}

abbrev pub heads_of : List RelObject → List SectionHead
heads_of inputs = map head_of (sections_of inputs)

-- ---- what they are

abbrev pub is_writable : SectionHead → Bool
is_writable h = has_flag h.flags SHF_WRITE

abbrev pub is_nobits : SectionHead → Bool
is_nobits h = h.kind == SHT_NOBITS

abbrev pub is_array : SectionHead → Bool
is_array h = h.kind == SHT_INIT_ARRAY || h.kind == SHT_FINI_ARRAY

abbrev pub is_code : SectionHead → Bool
is_code h = not (is_writable h) && has_flag h.flags SHF_EXECINSTR

abbrev pub piece_of : SectionHead → Piece
piece_of h = record { align = h.align; size = h.size }

-- ---- of the text

abbrev pub text_heads : List RelObject → List SectionHead
text_heads inputs = filter (λ h. not (is_writable h)) (heads_of inputs)

-- ---- as they are read

abbrev pub parts_of : ℕ → RelObject → List (ℕ × ℕ × RelSection)
parts_of input o = sections_in (input, o)

-- the section of a number
abbrev pub made : ℕ × (ℕ × ℕ × RelSection) → InputSection
made e = record { index = e.0; input = (e.1).0; number = (e.1).1; section = (e.1).2 }

-- the sections of these parts, the first of which has a number
abbrev pub heads_from : ℕ → List (ℕ × ℕ × RelSection) → List SectionHead
heads_from n parts = map head_of (map made (enumerate_from n parts))
