-- What holds of what the lines of a first pass have made.
use Rattle.std.specs.Prelude.{◌≡◌, ℕ, ◌<◌, ◌≤◌, true, eqb, is_some, length, get_or, All, IfSome, bytes_eq}
use Rattle.std.specs.List.{list_any, IsDistinct}
use Rattle.elf_model.specs.RelSections.{is_section_align}
use Rattle.elf_model.specs.RelSound.{IsNameText}
use Rattle.elf_model.specs.declared.constants.TheConstants.{STV_PROTECTED, STT_FUNC}
use Rattle.a32_asm.specs.declared.said.Facts.{Facts}
use Rattle.a32_asm.specs.declared.limits.TheConstants.{SECTION_MAX, NAMES_REFUSED}
use Rattle.a32_asm.specs.declared.section.TheConstants.{SECTIONS}
use Rattle.a32_asm.specs.Known.{no_facts}
use Rattle.a32_asm.specs.Layout.{Layout}

-- a label stands in a section, and the numbers are those of symbols
pub record IsFact (facts : Facts) : Type 0 where
  pub placed : IfSome facts.label (λ place. (place.section < SECTIONS) × (place.offset ≤ SECTION_MAX))
  pub kind' : facts.kind ≤ STT_FUNC
  pub visibility' : facts.visibility ≤ STV_PROTECTED

-- Sections are small and aligned, names are few, different and can be written, and the labels are the names with a label, each once.
pub record IsMade (all : Layout) : Type 0 where
  pub chosen : all.here < SECTIONS
  pub sizes' : length all.sizes ≡ SECTIONS
  pub aligns' : length all.aligns ≡ SECTIONS
  pub small : All (λ size. size ≤ SECTION_MAX) all.sizes
  pub aligned : All (λ align. is_section_align align ≡ true) all.aligns
  pub named : All IsNameText all.known.names
  pub different : IsDistinct bytes_eq all.known.names
  pub facts' : length all.known.facts ≡ length all.known.names
  pub few : length all.known.names < NAMES_REFUSED
  pub plain : All IsFact all.known.facts
  pub once : IsDistinct eqb all.labels
  pub labelled : (k : ℕ) → list_any (eqb k) all.labels ≡ is_some (get_or all.known.facts k no_facts).label
