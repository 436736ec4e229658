-- Relocations and their sections, as the program holds them.
use Rattle.std.specs.Prelude.{◌≡◌, ◌+◌, ◌≤◌, length, All}
use Rattle.elf_model.specs.declared.object.Rel.{Rel}
use Rattle.elf_model.specs.declared.relocatable.RelSection.{RelSection}
use Rattle.link_model.specs.Inputs.{InputSection, InputRel}
use Rattle.link_places.specs.declared.heads.SectionHead.{SectionHead}
use Rattle.link_places.specs.parts.Heads.{head_of}

-- a section, with what the layout asks of it
pub record IsSection (x : InputSection) (head : SectionHead) (section : RelSection) : Type 0 where
  pub head' : head ≡ head_of x
  pub section' : section ≡ x.section

-- a relocation of it
pub record IsRel (x : InputRel) (head : SectionHead) (section : RelSection) (rel : Rel) : Type 0 where
  pub at' : IsSection x.at head section
  pub rel' : rel ≡ x.rel

-- the word of a relocation is among the bytes of its section
abbrev pub IsInside : RelSection → Rel → Type 0
IsInside section rel = rel.site + 4 ≤ length section.filled

abbrev pub HasWordsInside : InputSection → Type 0
HasWordsInside x = All (IsInside x.section) (x.section).rels
