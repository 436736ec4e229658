-- What holds of every accepted relocatable file, for those who link it or write it again: names can be written, the
-- bytes of sections are there, and whatever is named by number is there.
use Rattle.std.specs.Prelude.{◌≡◌, ℕ, ◌+◌, ◌%◌, ◌<◌, ◌≤◌, ◌≢◌, Bool, true, false, ◌&&◌, ◌||◌, ◌==◌, nat_lt, List, length, take, All, IfSome, None, if◌then◌else◌}
use Rattle.fd_base.specs.Name.{name_refusal_of}
use Rattle.elf_model.specs.declared.constants.TheConstants.{SHT_NOBITS, SHF_ALLOC, SHF_TLS, STB_LOCAL, STB_WEAK, STT_FUNC, STT_TLS, STV_PROTECTED, MAX_ENTRIES, MAX_SECTION_BYTES}
use Rattle.elf_model.specs.declared.object.Place.{Place}
use Rattle.elf_model.specs.declared.object.Place.TheVariants.{Undefined, Absolute, Here, Common, Section, Dropped}
use Rattle.elf_model.specs.declared.object.Rel.{Rel}
use Rattle.elf_model.specs.declared.object.Symbol.{Symbol}
use Rattle.elf_model.specs.declared.relocatable.RelObject.{RelObject}
use Rattle.elf_model.specs.declared.relocatable.RelSection.{RelSection}
use Rattle.elf_model.specs.Header.{is_one_of}
use Rattle.elf_model.specs.RelSections.{kept_kinds, is_section_align}
use Rattle.elf_model.specs.Segments.{has_flag}
use Rattle.elf_model.specs.Symbols.{null_symbol}
use Rattle.elf_model.specs.Relocatable.{IsRelocatable}

-- bytes that a name may have
abbrev pub IsNameText : List ℕ → Type 0
IsNameText text = name_refusal_of text ≡ None

-- a relocation of a section: its word lies in the section, and its symbol is one of this many
pub record IsRelSoundIn (size symbols : ℕ) (r : Rel) : Type 0 where
  pub inside : r.site + 4 ≤ size
  pub known : (r.symbol == 0 || nat_lt r.symbol symbols) ≡ true

-- the bytes of a section that stand in the file: none where it is one of zeros
abbrev pub filled_size : RelSection → ℕ
filled_size s = if s.kind == SHT_NOBITS then 0 else s.size

-- a section of a file that has this many symbols
pub record IsSectionSound (symbols : ℕ) (s : RelSection) : Type 0 where
  pub named : IfSome s.name IsNameText
  pub kept : is_one_of kept_kinds s.kind ≡ true
  pub has_memory : has_flag s.flags SHF_ALLOC ≡ true
  pub no_tls : has_flag s.flags SHF_TLS ≡ false
  pub aligned : is_section_align s.align ≡ true
  pub small : s.size ≤ MAX_SECTION_BYTES
  pub filled' : length s.filled ≡ filled_size s
  pub fills : All (IsRelSoundIn (filled_size s) symbols) s.rels

-- whether a symbol may have this place in a file of this many sections
abbrev pub is_place_among : ℕ → Place → Bool
is_place_among sections Undefined = true
is_place_among sections Absolute = true
is_place_among sections Here = false
is_place_among sections Common = true
is_place_among sections (Section i) = nat_lt i sections
is_place_among sections Dropped = true

-- whether a symbol with this place is defined, and in no common block
abbrev pub is_definition : Place → Bool
is_definition Undefined = false
is_definition Absolute = true
is_definition Here = true
is_definition Common = false
is_definition (Section i) = true
is_definition Dropped = true

-- a symbol of a file that has this many sections
pub record IsSymbolSound (sections : ℕ) (s : Symbol) : Type 0 where
  pub named : IfSome s.name IsNameText
  pub nameless : s.name ≡ None → s.binding ≡ STB_LOCAL
  pub known_binding : s.binding ≤ STB_WEAK
  pub small_kind : s.kind < 16
  pub no_tls : s.kind ≢ STT_TLS
  pub known_visibility : s.visibility ≤ STV_PROTECTED
  pub placed : is_place_among sections s.place ≡ true
  pub no_thumb : (s.kind == STT_FUNC && (is_definition s.place && s.value % 2 == 1)) ≡ false

pub record IsRelSound (r : RelObject) : Type 0 where
  pub sound_sections : All (IsSectionSound (length r.symbols)) r.sections
  pub sound_symbols : All (IsSymbolSound (length r.sections)) r.symbols
  pub null_first : All (λ s. s ≡ null_symbol) (take 1 r.symbols)
  pub few_symbols : length r.symbols ≤ MAX_ENTRIES

-- the law
abbrev pub AcceptedIsRelSound : Type 0
AcceptedIsRelSound = (bytes : List ℕ) (r : RelObject) → IsRelocatable bytes r → IsRelSound r
