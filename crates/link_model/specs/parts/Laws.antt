-- What holds of the layout of linked objects, whatever the inputs name; and of the words that stand in their files.
use Rattle.std.specs.Prelude.{◌≡◌, ◌≢◌, ℕ, ◌+◌, ◌%◌, ◌<◌, ◌≤◌, ◌⊎◌, true, false, List, [], length, max, Some, slice_get, slice_index, unwrap_or, All, AllPairs, Contains}
use Rattle.elf_model.specs.declared.object.Segment.{Segment}
use Rattle.elf_model.specs.declared.relocatable.RelObject.{RelObject}
use Rattle.elf_model.specs.declared.relocatable.RelSection.{RelSection}
use Rattle.elf_model.specs.declared.table.Site.{Site}
use Rattle.elf_model.specs.Places.{file_byte}
use Rattle.elf_model.specs.RelSound.{IsRelSound}
use Rattle.elf_model.specs.Sound.{SegmentsApart, RangesApart}
use Rattle.load_model.specs.declared.words.LinkWord.{LinkWord}
use Rattle.load_image.specs.parts.Laws.{HasWord}
use Rattle.link_model.specs.declared.input.Mode.{Mode}
use Rattle.link_model.specs.declared.need.Need.{Need}
use Rattle.link_model.specs.DynamicSymbols.{is_shown, symbol_index, dynamic_symbol, symbols_for}
use Rattle.link_model.specs.GotLayout.{use_size}
use Rattle.link_model.specs.Inputs.{InputSection, InputRel, sections_of, section_number, symbol_of, all_rels}
use Rattle.link_model.specs.Joined.{is_joined, names_of}
use Rattle.link_model.specs.Needs.{is_idle, all_needs, kind_of, target_at}
use Rattle.link_model.specs.Places.{text_end, data_place, got_end, need_place, filled_end, zeros_end, section_place}
use Rattle.link_model.specs.Sections.{is_writable, is_nobits}
use Rattle.link_model.specs.Segments.{words_of, segments_of}
use Rattle.link_model.specs.Sites.{site_address}
use Rattle.link_model.specs.SiteTests.{is_known, has_wrong_addend, is_unsettled_offset, is_unfillable, meets_earlier, has_unusable_symbol, is_no_function, is_unseen, is_wrong_type, leads_to_number, is_far_branch, is_far_address, is_far_distance, is_far_offset, is_cross}
use Rattle.link_model.specs.Targets.{is_static, name_number, target_of, target_of_name, target_of_key}

-- ---- sections

-- a section lies between two link addresses
pub record LiesBetween (mode : Mode) (inputs : List RelObject) (low high : ℕ) (x : InputSection) : Type 0 where
  pub from : low ≤ section_place mode inputs x.index
  pub to : section_place mode inputs x.index + (x.section).size ≤ high

pub record HasPlace (mode : Mode) (inputs : List RelObject) (x : InputSection) : Type 0 where
  -- it stands at its number
  pub numbered' : slice_get (sections_of inputs) x.index ≡ Some x
  pub multiple : section_place mode inputs x.index % max (x.section).align 1 ≡ 0
  pub in_text : is_writable x ≡ false → LiesBetween mode inputs 0 (text_end mode inputs) x
  pub in_data : is_writable x ≡ true → LiesBetween mode inputs (got_end mode inputs) (zeros_end mode inputs) x
  pub in_file : is_writable x ≡ true → is_nobits x ≡ false → LiesBetween mode inputs (got_end mode inputs) (filled_end mode inputs) x

-- two sections share no byte
abbrev pub AreApart : Mode → List RelObject → InputSection → InputSection → Type 0
AreApart mode inputs x y =
    (section_place mode inputs x.index + (x.section).size ≤ section_place mode inputs y.index)
    ⊎ (section_place mode inputs y.index + (y.section).size ≤ section_place mode inputs x.index)

-- the law
pub record SectionsLieApart : Type 0 where
  -- section n of input i
  pub numbers : (inputs : List RelObject) (i n : ℕ) (o : RelObject) (s : RelSection) → slice_get inputs i ≡ Some o → slice_get o.sections n ≡ Some s
      → slice_get (sections_of inputs) (section_number inputs i n) ≡ Some (record { index = section_number inputs i n; input = i; number = n; section = s })
  pub each : (mode : Mode) (inputs : List RelObject) (x : InputSection) → Contains (sections_of inputs) x → HasPlace mode inputs x
  pub apart : (mode : Mode) (inputs : List RelObject) (x y : InputSection) → Contains (sections_of inputs) x → Contains (sections_of inputs) y → x.index ≢ y.index → AreApart mode inputs x y

-- ---- relocations

-- a relocation stands at its place in its section, which stands at its number
pub record IsRelOf (inputs : List RelObject) (x : InputRel) : Type 0 where
  pub section' : slice_get (sections_of inputs) (x.at).index ≡ Some x.at
  pub rel' : slice_get ((x.at).section).rels x.place ≡ Some x.rel

-- accepted files, no relocation of which meets an earlier one of its section
pub record AreClear (inputs : List RelObject) : Type 0 where
  pub sound : All IsRelSound inputs
  pub clear : All (λ x. meets_earlier x ≡ false) (all_rels inputs)

-- the word of a relocation
abbrev pub word_range : Mode → List RelObject → InputRel → Site
word_range mode inputs x = record { addr = site_address mode inputs x; size = 4 }

-- the law
pub record SitesLieApart : Type 0 where
  pub each : (inputs : List RelObject) → All (IsRelOf inputs) (all_rels inputs)
  pub apart : (mode : Mode) (inputs : List RelObject) (x y : InputRel) → AreClear inputs → Contains (all_rels inputs) x → Contains (all_rels inputs) y → x ≢ y
      → is_idle (x.rel).kind ≡ false → is_idle (y.rel).kind ≡ false → RangesApart (word_range mode inputs x) (word_range mode inputs y)

-- ---- the GOT

abbrev pub need_range : Mode → List RelObject → Need → Site
need_range mode inputs n = record { addr = need_place mode inputs n; size = use_size (kind_of n) }

-- behind the header, and before the sections
pub record StandsInGot (mode : Mode) (inputs : List RelObject) (n : Need) : Type 0 where
  pub from : data_place mode inputs + 12 ≤ need_place mode inputs n
  pub to : need_place mode inputs n + use_size (kind_of n) ≤ got_end mode inputs

-- the law
pub record NeedsLieApart : Type 0 where
  pub once : (mode : Mode) (inputs : List RelObject) → AllPairs (λ a b. a ≢ b) (all_needs mode inputs)
  pub each : (mode : Mode) (inputs : List RelObject) → All (StandsInGot mode inputs) (all_needs mode inputs)
  pub apart : (mode : Mode) (inputs : List RelObject) (a b : Need) → Contains (all_needs mode inputs) a → Contains (all_needs mode inputs) b → a ≢ b
      → RangesApart (need_range mode inputs a) (need_range mode inputs b)

-- ---- segments and words

-- the file's bytes of a segment lie in its memory
abbrev pub IsRoomy : Segment → Type 0
IsRoomy s = length s.filled ≤ s.memsz

-- a link address is in none of a word's bytes
abbrev pub IsOffWord : ℕ → LinkWord → Type 0
IsOffWord v w = (v < w.addr) ⊎ (w.addr + 4 ≤ v)

-- the law
pub record WordsAreLinked : Type 0 where
  pub apart : (mode : Mode) (inputs : List RelObject) → AllPairs SegmentsApart (segments_of mode inputs)
  pub roomy : (mode : Mode) (inputs : List RelObject) → All IsRoomy (segments_of mode inputs)
  -- whatever the linker writes stands in the file
  pub words : (mode : Mode) (inputs : List RelObject) → AreClear inputs → All (HasWord (file_byte (segments_of mode inputs))) (words_of mode inputs)
  -- and so does each byte of a section that it doesn't write over
  pub bytes : (mode : Mode) (inputs : List RelObject) (x : InputSection) (i : ℕ) → All IsRelSound inputs → Contains (sections_of inputs) x → i < length (x.section).filled
      → All (IsOffWord (section_place mode inputs x.index + i)) (words_of mode inputs)
      → file_byte (segments_of mode inputs) (section_place mode inputs x.index + i) ≡ slice_index (x.section).filled i

-- ---- relocations that pass

-- the parts of the second test of a relocation
pub record IsWellTyped (mode : Mode) (inputs : List RelObject) (x : InputRel) : Type 0 where
  pub known : is_known (x.rel).kind ≡ true
  pub addend : has_wrong_addend x (target_at mode inputs x) ≡ false
  pub offset : is_unsettled_offset (x.rel).kind (target_at mode inputs x) ≡ false
  pub fillable : is_unfillable mode inputs x ≡ false
  pub clear : meets_earlier x ≡ false
  pub usable : has_unusable_symbol inputs x ≡ false
  pub function : is_no_function inputs (x.rel).kind (target_at mode inputs x) ≡ false
  pub seen : is_unseen (x.rel).kind (target_at mode inputs x) ≡ false

-- and those of the third
pub record IsInReach (mode : Mode) (inputs : List RelObject) (x : InputRel) : Type 0 where
  pub number : leads_to_number (x.rel).kind (target_at mode inputs x) ≡ false
  pub branch : is_far_branch mode inputs x (target_at mode inputs x) ≡ false
  pub address : is_far_address mode inputs x (target_at mode inputs x) ≡ false
  pub distance : is_far_distance mode inputs x (target_at mode inputs x) ≡ false
  pub offset : is_far_offset mode inputs x (target_at mode inputs x) ≡ false

-- the law
pub record PassingIsFitting : Type 0 where
  pub types : (mode : Mode) (inputs : List RelObject) (x : InputRel) → is_wrong_type mode inputs x ≡ false → IsWellTyped mode inputs x
  pub reach : (mode : Mode) (inputs : List RelObject) (x : InputRel) → is_cross mode inputs x ≡ false → IsInReach mode inputs x

-- ---- names

-- the law
pub record NamesAreNumbered : Type 0 where
  pub once : (inputs : List RelObject) → AllPairs (λ a b. a ≢ b) (names_of inputs)
  pub listed : (inputs : List RelObject) (i n : ℕ) → is_joined (symbol_of inputs i n) ≡ true → Contains (names_of inputs) (unwrap_or (symbol_of inputs i n).name [])
  pub numbers : (inputs : List RelObject) (name : List ℕ) → Contains (names_of inputs) name → slice_get (names_of inputs) (name_number inputs name) ≡ Some name
  -- the key of a symbol stands for what the symbol is
  pub keys : (mode : Mode) (inputs : List RelObject) (i n : ℕ) → target_of_key mode inputs (target_of mode inputs i n).key ≡ target_of mode inputs i n
  -- and the loader finds it by its number among those that it sees, by its name
  pub shown : (mode : Mode) (inputs : List RelObject) (name : List ℕ) → is_static mode ≡ false → Contains (names_of inputs) name → is_shown (target_of_name mode inputs name) ≡ true
      → slice_get (symbols_for mode inputs) (symbol_index mode inputs (target_of_name mode inputs name).key) ≡ Some (dynamic_symbol mode inputs (target_of_name mode inputs name))
  pub names : (mode : Mode) (inputs : List RelObject) (name : List ℕ) → Contains (names_of inputs) name → (dynamic_symbol mode inputs (target_of_name mode inputs name)).name ≡ Some name
