-- The two segments and their bytes in the file: those of the sections, and over them the words that the linker writes,
-- at relocations, in the PLT and in the GOT.
use Rattle.std.specs.Prelude.{ℕ, ◌+◌, ◌-◌, ◌*◌, ◌%◌, ◌^◌, not, ◌==◌, List, [], ◌∷◌, ◌++◌, length, map, filter, slice_index, option_map, if◌then◌else◌}
use Rattle.std.specs.List.{flat_map, filter_map, range_with_len}
use Rattle.fd_base.specs.Ranges.{is_in}
use Rattle.elf_model.specs.declared.constants.TheConstants.{PF_R, PF_W, PF_X}
use Rattle.elf_model.specs.declared.object.Segment.{Segment}
use Rattle.elf_model.specs.declared.relocatable.RelObject.{RelObject}
use Rattle.plt_code.specs.Words.{entry_words}
use Rattle.load_model.specs.declared.words.LinkWord.{LinkWord}
use Rattle.load_model.specs.Image.{byte_over}
use Rattle.link_model.specs.declared.input.Mode.{Mode}
use Rattle.link_model.specs.declared.limits.TheConstants.{LAZY_OFFSET}
use Rattle.link_model.specs.declared.need.Need.{Need}
use Rattle.link_model.specs.declared.need.Need.TheVariants.{Word, FuncWord, Descriptor, NoFunction, Slot}
use Rattle.link_model.specs.declared.target.Key.{Key}
use Rattle.link_model.specs.declared.target.Target.{Target}
use Rattle.link_model.specs.Inputs.{InputSection, numbered, sections_of, all_rels}
use Rattle.link_model.specs.Joined.{greatest}
use Rattle.link_model.specs.Needs.{all_needs, offset_of, descriptor_need, slot_keys}
use Rattle.link_model.specs.Places.{text_end, plt_entry, plt_entry_of, data_place, need_place, filled_end, data_end, section_place, address_of, blocks_of}
use Rattle.link_model.specs.Sections.{is_nobits, text_sections, data_sections, text_place}
use Rattle.link_model.specs.Sites.{site_address, site_word}
use Rattle.link_model.specs.Targets.{is_static, is_settled, target_of_key}

-- ---- words

abbrev pub word_at : ℕ → ℕ → LinkWord
word_at address value = record { addr = address; value = value }

-- words one behind the other
abbrev pub words_from : ℕ → List ℕ → List LinkWord
words_from address words = map (λ e. word_at (address + 4 * e.0) e.1) (numbered words)

abbrev pub site_words : Mode → List RelObject → List LinkWord
site_words mode inputs = filter_map (λ x. option_map (word_at (site_address mode inputs x)) (site_word mode inputs x)) (all_rels inputs)

-- the entry of slot k: the slot's offset from the GOT, and that of its relocation, of 8 bytes each
abbrev pub plt_entry_words : Mode → List RelObject → ℕ × Key → List LinkWord
plt_entry_words mode inputs e = words_from (plt_entry inputs e.0) (entry_words (offset_of (all_needs mode inputs) (Slot e.1)) (8 * e.0))

abbrev pub plt_words : Mode → List RelObject → List LinkWord
plt_words mode inputs = flat_map (plt_entry_words mode inputs) (numbered (slot_keys mode inputs))

-- S, and 0 until the loader settles it
abbrev pub symbol_word : Mode → List RelObject → Target → ℕ
symbol_word mode inputs t = if is_settled t.reach then address_of mode inputs t.spot % 2 ^ 32 else 0

-- the link address of the descriptor, and 0 until the loader settles it
abbrev pub descriptor_word : Mode → List RelObject → Target → ℕ
descriptor_word mode inputs t = if is_settled t.reach then need_place mode inputs (descriptor_need inputs t) else 0

-- What stands in the GOT for a need. In a descriptor that the loader fills, the function's link address stands alone; a
-- slot leads to its entry's call of the resolver.
abbrev pub need_values : Mode → List RelObject → Need → List ℕ
need_values mode inputs (Word key) = symbol_word mode inputs (target_of_key mode inputs key) ∷ []
need_values mode inputs (FuncWord key) = descriptor_word mode inputs (target_of_key mode inputs key) ∷ []
need_values mode inputs (Descriptor function) = (function % 2 ^ 32) ∷ (if is_static mode then data_place mode inputs else 0) ∷ []
need_values mode inputs (NoFunction key) = []
need_values mode inputs (Slot key) = (plt_entry_of mode inputs key + LAZY_OFFSET) ∷ 0 ∷ []

abbrev pub need_words : Mode → List RelObject → Need → List LinkWord
need_words mode inputs need = words_from (need_place mode inputs need) (need_values mode inputs need)

abbrev pub got_words : Mode → List RelObject → List LinkWord
got_words mode inputs = flat_map (need_words mode inputs) (all_needs mode inputs)

abbrev pub words_of : Mode → List RelObject → List LinkWord
words_of mode inputs = site_words mode inputs ++ (plt_words mode inputs ++ got_words mode inputs)

-- ---- bytes

-- the byte of the first of these sections that has one at a link address, and zero where none has
abbrev pub section_byte : Mode → List RelObject → List InputSection → ℕ → ℕ
section_byte mode inputs [] v = 0
section_byte mode inputs (x ∷ xs) v =
    let at = section_place mode inputs x.index in
    if is_in at (length (x.section).filled) v then slice_index (x.section).filled (v - at) else section_byte mode inputs xs v

abbrev pub linked_byte : Mode → List RelObject → ℕ → ℕ
linked_byte mode inputs v = byte_over (words_of mode inputs) (section_byte mode inputs (sections_of inputs)) v

-- those from one link address up to another
abbrev pub linked_bytes : Mode → List RelObject → ℕ → ℕ → List ℕ
linked_bytes mode inputs from to = map (linked_byte mode inputs) (range_with_len from (to - from))

-- ---- segments

-- the file has the text's bytes up to the end of its last section that isn't one of zeros, or of the PLT
abbrev pub text_filled_end : Mode → List RelObject → ℕ
text_filled_end mode inputs =
    if length (slot_keys mode inputs) == 0
    then greatest 0 (λ x. text_place inputs x.index + (x.section).size) (filter (λ x. not (is_nobits x)) (text_sections inputs))
    else text_end mode inputs

abbrev pub greatest_align : List InputSection → ℕ
greatest_align xs = greatest 16 (λ x. (x.section).align) xs

abbrev pub text_segment : Mode → List RelObject → Segment
text_segment mode inputs = record {
  vaddr = 0;
  memsz = text_end mode inputs;
  flags = PF_R + PF_X;
  align = greatest_align (text_sections inputs);
  filled = linked_bytes mode inputs 0 (text_filled_end mode inputs);
}

abbrev pub data_segment : Mode → List RelObject → Segment
data_segment mode inputs = record {
  vaddr = data_place mode inputs;
  memsz = data_end mode inputs - data_place mode inputs;
  flags = PF_R + PF_W;
  align = greatest (greatest_align (data_sections inputs)) (λ t. t.align) (blocks_of mode inputs);
  filled = linked_bytes mode inputs (data_place mode inputs) (filled_end mode inputs);
}

-- a text without bytes is none
abbrev pub segments_of : Mode → List RelObject → List Segment
segments_of mode inputs = if text_end mode inputs == 0 then data_segment mode inputs ∷ [] else text_segment mode inputs ∷ data_segment mode inputs ∷ []
