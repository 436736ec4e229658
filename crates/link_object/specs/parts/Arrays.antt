-- The sections of arrays of functions.
use Rattle.std.specs.Prelude.{◌≡◌, ℕ, ◌+◌, ◌^◌, ◌<◌, ◌⊎◌, Bool, true, false, not, ◌&&◌, ◌==◌, List}
use Rattle.elf_model.specs.declared.constants.TheConstants.{SHT_INIT_ARRAY, SHT_FINI_ARRAY}
use Rattle.elf_model.specs.declared.relocatable.RelObject.{RelObject}
use Rattle.link_model.specs.declared.input.Mode.{Mode}
use Rattle.link_model.specs.Places.{section_place}
use Rattle.link_places.specs.declared.heads.SectionHead.{SectionHead}
use Rattle.link_places.specs.parts.Heads.{is_writable}

abbrev pub is_writable_as : Bool → SectionHead → Bool
is_writable_as true h = is_writable h
is_writable_as false h = not (is_writable h)

-- those that a program writes to, or the others
abbrev pub is_of_kind : ℕ → Bool → SectionHead → Bool
is_of_kind kind writable h = h.kind == kind && is_writable_as writable h

abbrev pub IsArrayKind : ℕ → Type 0
IsArrayKind kind = (kind ≡ SHT_INIT_ARRAY) ⊎ (kind ≡ SHT_FINI_ARRAY)

-- its end is an address of 32 bits
abbrev pub EndsLow : Mode → List RelObject → SectionHead → Type 0
EndsLow mode inputs h = section_place mode inputs h.index + h.size < 2 ^ 32
