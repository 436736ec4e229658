-- Words of the inputs that the linker doesn't write over stand in the linked object as they are.
use Rattle.std.proofs.Common.{◌≡◌, ℕ, ◌+◌, ◌*◌, ◌≤◌, ◌⊎◌, inl, inr, Bool, true, false, cond, List, [], ◌++◌, length, Some, None, refl, sym, ap, ◌∙◌, arith, All}
use Rattle.std.specs.Prelude.{◌==◌, Contains, option_map}
use Rattle.std.proofs.lemmas.Bool.Decides.{nat_tests}
use Rattle.std.proofs.lemmas.List.Elements.{All-contains, Contains-append_cases}
use Rattle.std.proofs.lemmas.Option.{slice_get_within}
use Rattle.fd_base.proofs.Members.{all_contained, in_filter_map, in_flat_map}
use Rattle.fd_base.proofs.Options.{from_map}
use Rattle.elf_model.specs.declared.object.Object.{Object}
use Rattle.elf_model.specs.declared.relocatable.RelObject.{RelObject}
use Rattle.elf_model.specs.Places.{file_byte}
use Rattle.elf_model.specs.RelSound.{filled_size}
use Rattle.elf_model.specs.Sound.{IsSound}
use Rattle.plt_code.specs.Words.{entry_words}
use Rattle.load_model.specs.declared.words.LinkWord.{LinkWord}
use Rattle.link_layout.proofs.Lying.{from_aligned}
use Rattle.link_model.specs.declared.input.Mode.{Mode}
use Rattle.link_model.specs.declared.limits.TheConstants.{PLT_ENTRY_SIZE}
use Rattle.link_model.specs.declared.need.Need.{Need}
use Rattle.link_model.specs.declared.need.Need.TheVariants.{Word, FuncWord, Descriptor, NoFunction, Slot}
use Rattle.link_model.specs.GotLayout.{use_size}
use Rattle.link_model.specs.Inputs.{InputRel, InputSection, all_rels, numbered, sections_of}
use Rattle.link_model.specs.Needs.{all_needs, is_idle, kind_of, offset_of, slot_keys}
use Rattle.link_model.specs.Places.{data_place, got_end, need_place, plt_entry, plt_place, section_place, text_end}
use Rattle.link_model.specs.Sections.{is_writable, text_sections_end}
use Rattle.link_model.specs.Segments.{got_words, need_values, need_words, plt_entry_words, plt_words, segments_of, site_words, text_segment, word_at, words_of}
use Rattle.link_model.specs.Sites.{input_word, site_address, site_rels, site_word}
use Rattle.link_model.specs.parts.Laws.{AreClear, IsOffWord, StandsInGot}
use Rattle.link_model.proofs.Agreeing.{row_inside}
use Rattle.link_model.proofs.Needed.{needs_lie_apart}
use Rattle.link_model.proofs.Numbering.{numbered_at, rel_inside, section_of_rel, section_sound}
use Rattle.link_model.proofs.Placed.{data_above, in_text_sections, place_in_text, sections_lie_apart, text_below, text_lies}
use Rattle.link_model.proofs.Sited.{address, one_or_apart}
use Rattle.link_model.proofs.Written.{words_are_linked}
use Rattle.link_sites.specs.Loaded.{HoldsWord}
use Rattle.link_sites.specs.parts.Linked.{IsPlain}
use Rattle.link_means.specs.Linked.{HasBytes}
use Rattle.link_means.specs.parts.Laws.{AreOfBytes, IsOutput}
use Rattle.link_means.proofs.Apart.{all_off}
use Rattle.link_means.proofs.Held.{data_holds, held_stays, in_data}
use Rattle.link_means.proofs.Staying.{written_not_idle}
use Rattle.link_means.proofs.Texts.{in_text, text_first, text_holds, unwritten_apart}
use Rattle.link_means.proofs.Words.{bytes_of_word}

-- ---- words of the PLT and of the GOT

module _ (mode : Mode) (inputs : List RelObject) where
  record IsInPlt (w : LinkWord) : Type 0 where
    pub from : text_sections_end inputs ≤ w.addr
    pub to : w.addr + 4 ≤ text_end mode inputs

  in_plt : (w : LinkWord) → Contains (plt_words mode inputs) w → IsInPlt w
  unfolding text_end
  in_plt w there =
      let keys = slot_keys mode inputs in
      let from = in_flat_map (plt_entry_words mode inputs) (numbered keys) w there in
      let e = from.0 in
      let inside = row_inside (plt_entry inputs e.0) PLT_ENTRY_SIZE (entry_words (offset_of (all_needs mode inputs) (Slot e.1)) (8 * e.0)) (omega arith) w from.2 in
      let below = slice_get_within keys e.0 e.1 (numbered_at keys e from.1) in
      let some : (length keys == 0) ≡ false = grind (arith, nat_tests) in
      let end : text_end mode inputs ≡ plt_place inputs + PLT_ENTRY_SIZE * length keys = ap (λ b. cond b (text_sections_end inputs) (plt_place inputs + PLT_ENTRY_SIZE * length keys)) some in
      record { from = omega (arith, inside.above, from_aligned 4 (text_sections_end inputs)); to = omega (arith, inside.below, end, below) }

  record IsInGot (w : LinkWord) : Type 0 where
    pub from : data_place mode inputs ≤ w.addr
    pub to : w.addr + 4 ≤ got_end mode inputs

  room : (n : Need) → 4 * length (need_values mode inputs n) ≤ use_size (kind_of n)
  room (Word key) = omega arith
  room (FuncWord key) = omega arith
  room (Descriptor function) = omega arith
  room (NoFunction key) = omega arith
  room (Slot key) = omega arith

  in_got : (w : LinkWord) → Contains (got_words mode inputs) w → IsInGot w
  in_got w there =
      let from = in_flat_map (need_words mode inputs) (all_needs mode inputs) w there in
      let n = from.0 in
      let inside = row_inside (need_place mode inputs n) (use_size (kind_of n)) (need_values mode inputs n) (room n) w from.2 in
      let stands = All-contains (StandsInGot mode inputs) (all_needs mode inputs) n (needs_lie_apart.each mode inputs) from.1 in
      record { from = omega (arith, inside.above, stands.from); to = omega (arith, inside.below, stands.to) }

-- ---- a word that isn't written

module _ (mode : Mode) (inputs : List RelObject) (clear : AreClear inputs) (x : InputRel) (there : Contains (all_rels inputs) x)
    (some : is_idle (x.rel).kind ≡ false) (none : site_word mode inputs x ≡ None) where
  -- before the PLT, or behind the GOT
  outside : (site_address mode inputs x + 4 ≤ text_sections_end inputs) ⊎ (got_end mode inputs ≤ site_address mode inputs x)
  outside = by (is_writable x.at) refl
    where
      by : (b : Bool) → is_writable x.at ≡ b → (site_address mode inputs x + 4 ≤ text_sections_end inputs) ⊎ (got_end mode inputs ≤ site_address mode inputs x)
      by true writable =
          let place = (sections_lie_apart.each mode inputs x.at (section_of_rel inputs x there).0).in_data writable in
          let at = address mode inputs clear x in
          inr (omega (arith, at, place.from))
      by false unwritten =
          let own = (section_of_rel inputs x there).0 in
          let place = place_in_text mode inputs x.at own unwritten in
          let lies = text_lies inputs x.at (in_text_sections inputs x.at own unwritten) in
          let inside = (rel_inside inputs clear.sound x there).within in
          let at = address mode inputs clear x in
          inl (omega (arith, at, place, lies.to, inside))

  -- a word lies apart from it
  abbrev IsOff : LinkWord → Type 0
  IsOff w = (site_address mode inputs x + 4 ≤ w.addr) ⊎ (w.addr + 4 ≤ site_address mode inputs x)

  site_off : (w : LinkWord) → Contains (site_words mode inputs) w → IsOff w
  site_off w in' =
      let from = in_filter_map (λ y. option_map (word_at (site_address mode inputs y)) (site_word mode inputs y)) (all_rels inputs) w in' in
      let y = from.0 in
      let made = from_map (word_at (site_address mode inputs y)) (site_word mode inputs y) w from.2 in
      let at : site_address mode inputs y ≡ w.addr = ap (λ (u : LinkWord). u.addr) made.2 in
      elim (one_or_apart mode inputs clear x y there from.1 some (written_not_idle mode inputs y made.0 made.1)) [
        | inl same ↦ let never : None ≡ Some made.0 = sym none ∙ ap (site_word mode inputs) same ∙ made.1 in absurd cc
        | inr apart ↦ elim apart [ inl h ↦ inl (omega (arith, h, at)) | inr h ↦ inr (omega (arith, h, at)) ]
      ]

  entry_off : (w : LinkWord) → Contains (plt_words mode inputs) w → IsOff w
  entry_off w in' =
      let e = in_plt mode inputs w in' in
      let above = data_above mode inputs in
      elim outside [ inl h ↦ inl (omega (arith, h, e.from)) | inr h ↦ inr (omega (arith, h, e.to, above)) ]

  need_off : (w : LinkWord) → Contains (got_words mode inputs) w → IsOff w
  need_off w in' =
      let n = in_got mode inputs w in' in
      let above = data_above mode inputs in
      let below = text_below mode inputs in
      elim outside [ inl h ↦ inl (omega (arith, h, n.from, above, below)) | inr h ↦ inr (omega (arith, h, n.to)) ]

  word_off : (w : LinkWord) → Contains (words_of mode inputs) w → IsOff w
  word_off w in' = elim (Contains-append_cases (site_words mode inputs) (plt_words mode inputs ++ got_words mode inputs) w in') [
    | inl site ↦ site_off w site
    | inr more ↦ elim (Contains-append_cases (plt_words mode inputs) (got_words mode inputs) w more) [ inl entry ↦ entry_off w entry | inr need ↦ need_off w need ]
  ]

  module _ (bytes : AreOfBytes inputs) where
    kept_stands : HoldsWord (file_byte (segments_of mode inputs)) (site_address mode inputs x) (input_word x)
    unfolding input_word
    kept_stands i lt =
        let own = (section_of_rel inputs x there).0 in
        let s = x.at in
        let k = (x.rel).site in
        let inside = rel_inside inputs clear.sound x there in
        let all : filled_size s.section ≡ (s.section).size = ap (λ b. cond b 0 (s.section).size) inside.bytes in
        let filled = (section_sound inputs clear.sound s own).1.filled' in
        let at = address mode inputs clear x in
        let off : All (IsOffWord (section_place mode inputs s.index + (k + i))) (words_of mode inputs) =
        all_contained (IsOffWord (section_place mode inputs s.index + (k + i))) (words_of mode inputs) (λ w in'. elim (word_off w in') [
          | inl h ↦ inl (omega (arith, h, at, lt))
          | inr h ↦ inr (omega (arith, h, at))
        ]) in
        let place : site_address mode inputs x + i ≡ section_place mode inputs s.index + (k + i) = omega (arith, at) in
        ap (file_byte (segments_of mode inputs)) place
        ∙ words_are_linked.bytes mode inputs s (k + i) clear.sound own (omega (arith, lt, inside.within, all, filled)) off
        ∙ bytes_of_word (s.section).filled k i (All-contains (λ (y : InputSection). HasBytes y.section) (sections_of inputs) s bytes own) lt

    -- in the data of the file
    pub kept_in_data : (o : Object) → IsOutput mode inputs o → is_writable x.at ≡ true → HoldsWord (file_byte o.segments) (site_address mode inputs x) (input_word x)
    kept_in_data o out writable = λ i lt.
        let v = site_address mode inputs x in
        let inside = in_data mode inputs x clear there writable in
        ap (λ ss. file_byte ss (v + i)) out.segments'
        ∙ held_stays (segments_of mode inputs) out.others (v + i) (data_holds mode inputs (v + i) (omega (arith, inside.from)) (omega (arith, inside.to, lt)))
        ∙ kept_stands i lt

    -- where the loader has nothing to fill either, it stays
    pub kept_is_plain : (o : Object) → IsOutput mode inputs o → IsSound o → site_rels mode inputs x ≡ [] → IsPlain o (site_address mode inputs x) (input_word x)
    kept_is_plain o out sound free = by (is_writable x.at) refl
      where
        v : ℕ
        v = site_address mode inputs x

        by : (b : Bool) → is_writable x.at ≡ b → IsPlain o v (input_word x)
        by false unwritten =
            let below = in_text mode inputs x clear there unwritten in
            record {
              word = λ i lt.
                  ap (λ ss. file_byte ss (v + i)) out.segments'
                  ∙ held_stays (segments_of mode inputs) out.others (v + i) (text_holds mode inputs (v + i) (omega (arith, below, lt)))
                  ∙ kept_stands i lt;
              apart = unwritten_apart o 0 (text_segment mode inputs) v sound (text_first mode inputs o out (omega (arith, below))) refl (omega arith) (omega (arith, below));
            }
        by true writable =
            let place = (sections_lie_apart.each mode inputs x.at (section_of_rel inputs x there).0).in_data writable in
            let at = address mode inputs clear x in
            record {
              word = kept_in_data o out writable;
              apart = all_off mode inputs clear x there (omega (arith, at, place.from)) free some o out;
            }
