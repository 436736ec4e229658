-- What stands in the file's bytes of a segment: the sections that have bytes, and the words that the linker writes.
use Rattle.std.proofs.Common.{◌≡◌, ℕ, ◌+◌, ◌*◌, ◌<◌, ◌≤◌, inl, inr, Bool, true, false, cond, not, List, ◌++◌, length, map, filter, Some, refl, ap, arith, All}
use Rattle.std.specs.Prelude.{◌==◌, option_map, Contains}
use Rattle.std.proofs.lemmas.Bool.Decides.{nat_tests}
use Rattle.std.proofs.lemmas.List.Elements.{Contains-append_cases}
use Rattle.std.proofs.lemmas.Option.{slice_get_within}
use Rattle.fd_base.proofs.Members.{in_flat_map, in_filter_map}
use Rattle.fd_base.proofs.Options.{from_map}
use Rattle.elf_model.specs.declared.relocatable.RelObject.{RelObject}
use Rattle.elf_model.specs.RelSound.{IsRelSound, filled_size}
use Rattle.plt_code.specs.Words.{entry_words}
use Rattle.load_model.specs.declared.words.LinkWord.{LinkWord}
use Rattle.link_layout.proofs.Lying.{end_from}
use Rattle.link_model.specs.declared.input.Mode.{Mode}
use Rattle.link_model.specs.declared.limits.TheConstants.{PLT_ENTRY_SIZE}
use Rattle.link_model.specs.declared.need.Need.{Need}
use Rattle.link_model.specs.declared.need.Need.TheVariants.{Word, FuncWord, Descriptor, NoFunction, Slot}
use Rattle.link_model.specs.GotLayout.{use_size}
use Rattle.link_model.specs.Inputs.{InputSection, InputRel, numbered, sections_of, all_rels}
use Rattle.link_model.specs.Joined.{greatest}
use Rattle.link_model.specs.Needs.{all_needs, offset_of, kind_of, slot_keys}
use Rattle.link_model.specs.Places.{plt_place, plt_entry, text_end, data_place, need_place, zeros_end, data_end, section_place, blocks_of, block_piece}
use Rattle.link_model.specs.Sections.{is_writable, is_nobits, text_sections, text_place, text_sections_end}
use Rattle.link_model.specs.Segments.{word_at, site_words, plt_entry_words, plt_words, need_values, need_words, got_words, words_of, text_filled_end}
use Rattle.link_model.specs.Sites.{site_address, site_word}
use Rattle.link_model.proofs.Agreeing.{row_inside}
use Rattle.link_model.proofs.Needed.{stands}
use Rattle.link_model.proofs.Numbering.{numbered_at, section_of_rel, section_sound, rel_inside}
use Rattle.link_model.proofs.Placed.{data_above, sections_lie_apart, text_between, file_between}
use Rattle.link_model.proofs.Written.{greatest_above, greatest_below, greatest_from, text_in_file, got_in_file, filled_below, InFile}

-- ---- the greatest of some numbers

-- it counts the members alone
pub greatest_alike : {X : Type 0} (f : X → ℕ) (least : ℕ) (xs ys : List X) → ((x : X) → Contains xs x → Contains ys x) → ((y : X) → Contains ys y → Contains xs y)
    → greatest least f xs ≡ greatest least f ys
greatest_alike f least xs ys to back =
    let up = greatest_below f least (greatest least f ys) xs (greatest_from f least ys) (λ x there. greatest_above f least ys x (to x there)) in
    let down = greatest_below f least (greatest least f xs) ys (greatest_from f least xs) (λ y there. greatest_above f least xs y (back y there)) in
    omega (arith, up, down)

module _ (mode : Mode) (inputs : List RelObject) where
  -- ---- sections

  -- the file has no more bytes of a section than there are, and none of zeros
  pub record IsFilled (x : InputSection) : Type 0 where
    pub fits : length (x.section).filled ≤ (x.section).size
    pub bytes : 0 < length (x.section).filled → is_nobits x ≡ false

  pub filled_of : All IsRelSound inputs → (x : InputSection) → Contains (sections_of inputs) x → IsFilled x
  filled_of sound x there = by (is_nobits x) refl
    where
      size : length (x.section).filled ≡ filled_size x.section
      size = (section_sound inputs sound x there).1.filled'

      by : (b : Bool) → is_nobits x ≡ b → IsFilled x
      by true e =
          let none : filled_size x.section ≡ 0 = ap (λ b. cond b 0 (x.section).size) e in
          record { fits = omega (arith, size, none); bytes = λ some. absurd (omega (arith, size, none)) }
      by false e =
          let all : filled_size x.section ≡ (x.section).size = ap (λ b. cond b 0 (x.section).size) e in
          record { fits = omega (arith, size, all); bytes = λ some. e }

  -- ---- words

  site_in_file : All IsRelSound inputs → (w : LinkWord) → Contains (site_words mode inputs) w → InFile mode inputs w
  unfolding site_address
  site_in_file sound w there = by (is_writable x.at) refl
    where
      from : (y : InputRel) × Contains (all_rels inputs) y × (option_map (word_at (site_address mode inputs y)) (site_word mode inputs y) ≡ Some w)
      from = in_filter_map (λ y. option_map (word_at (site_address mode inputs y)) (site_word mode inputs y)) (all_rels inputs) w there

      x : InputRel
      x = from.0

      here : site_address mode inputs x ≡ w.addr
      here = ap (λ (u : LinkWord). u.addr) (from_map (word_at (site_address mode inputs x)) (site_word mode inputs x) w from.2).2

      by : (b : Bool) → is_writable x.at ≡ b → InFile mode inputs w
      by true data' =
          let own = (section_of_rel inputs x from.1).0 in
          let inside = rel_inside inputs sound x from.1 in
          let l = file_between mode inputs x.at own data' inside.bytes in
          inr (record { data_from = omega (arith, here, l.from); data_to = omega (arith, here, l.to, inside.within) })
      by false text =
          let own = (section_of_rel inputs x from.1).0 in
          let inside = rel_inside inputs sound x from.1 in
          let le = text_in_file mode inputs x.at own text inside.bytes in
          inl (record { text_to = omega (arith, here, le, inside.within) })

  entry_in_file : (w : LinkWord) → Contains (plt_words mode inputs) w → InFile mode inputs w
  unfolding text_end
  entry_in_file w there =
      let keys = slot_keys mode inputs in
      let from = in_flat_map (plt_entry_words mode inputs) (numbered keys) w there in
      let e = from.0 in
      let inside = row_inside (plt_entry inputs e.0) PLT_ENTRY_SIZE (entry_words (offset_of (all_needs mode inputs) (Slot e.1)) (8 * e.0)) (omega arith) w from.2 in
      let below = slice_get_within keys e.0 e.1 (numbered_at keys e from.1) in
      let some : (length keys == 0) ≡ false = grind (arith, nat_tests) in
      let end : text_end mode inputs ≡ plt_place inputs + PLT_ENTRY_SIZE * length keys = ap (λ b. cond b (text_sections_end inputs) (plt_place inputs + PLT_ENTRY_SIZE * length keys)) some in
      let ends : InputSection → ℕ = λ y. text_place inputs y.index + (y.section).size in
      let filled : text_filled_end mode inputs ≡ text_end mode inputs = ap (λ b. cond b (greatest 0 ends (filter (λ y. not (is_nobits y)) (text_sections inputs))) (text_end mode inputs)) some in
      inl (record { text_to = omega (arith, inside.below, end, below, filled) })

  room : (n : Need) → 4 * length (need_values mode inputs n) ≤ use_size (kind_of n)
  room (Word key) = omega arith
  room (FuncWord key) = omega arith
  room (Descriptor function) = omega arith
  room (NoFunction key) = omega arith
  room (Slot key) = omega arith

  need_in_file : (w : LinkWord) → Contains (got_words mode inputs) w → InFile mode inputs w
  need_in_file w there =
      let from = in_flat_map (need_words mode inputs) (all_needs mode inputs) w there in
      let n = from.0 in
      let inside = row_inside (need_place mode inputs n) (use_size (kind_of n)) (need_values mode inputs n) (room n) w from.2 in
      let s = stands mode inputs n from.1 in
      inr (record { data_from = omega (arith, inside.above, s.from); data_to = omega (arith, inside.below, s.to, got_in_file mode inputs) })

  pub word_in_file : All IsRelSound inputs → (w : LinkWord) → Contains (words_of mode inputs) w → InFile mode inputs w
  word_in_file sound w there = elim (Contains-append_cases (site_words mode inputs) (plt_words mode inputs ++ got_words mode inputs) w there) [
    | inl a ↦ site_in_file sound w a
    | inr more ↦ elim (Contains-append_cases (plt_words mode inputs) (got_words mode inputs) w more) [ inl b ↦ entry_in_file w b | inr c ↦ need_in_file w c ]
  ]

  -- ---- ends

  pub data_from : data_place mode inputs ≤ data_end mode inputs
  data_from = omega (arith, got_in_file mode inputs, filled_below mode inputs)

  -- no section ends behind the data
  pub section_below : (x : InputSection) → Contains (sections_of inputs) x → section_place mode inputs x.index + (x.section).size ≤ data_end mode inputs
  unfolding data_end
  section_below x there = by (is_writable x) refl
    where
      by : (b : Bool) → is_writable x ≡ b → section_place mode inputs x.index + (x.section).size ≤ data_end mode inputs
      by true data' =
          let l = (sections_lie_apart.each mode inputs x there).in_data data' in
          let blocks = end_from (zeros_end mode inputs) (map block_piece (blocks_of mode inputs)) in
          omega (arith, l.to, blocks)
      by false text = let l = text_between mode inputs x there text in omega (arith, l.to, data_above mode inputs, data_from)
