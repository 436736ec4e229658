-- Whatever the linker writes, at relocations, in the PLT and in the GOT, stands in the file of the linked object.
use Rattle.std.proofs.Common.{◌≡◌, ◌≢◌, ℕ, ◌+◌, ◌-◌, ◌*◌, ◌<◌, ◌≤◌, ◌⊎◌, inl, inr, Bool, true, false, cond, not, ◌||◌, List, [], ◌∷◌, ◌++◌, length, map, filter, Some, None, refl, ap, sym, ◌∙◌, arith, All, AllPairs, slice_index}
use Rattle.std.specs.Prelude.{◌==◌, slice_get, option_map, Contains, max}
use Rattle.std.specs.Int.{w32, to_le_bytes}
use Rattle.std.proofs.lemmas.Bool.{cases_lt, or_cases, eqb-true, false≢true, cond-true, cond-false}
use Rattle.std.proofs.lemmas.Bool.Decides.{nat_tests}
use Rattle.std.proofs.lemmas.List.{map-append}
use Rattle.std.proofs.lemmas.List.Elements.{All-nil, All-cons, All-head, All-tail, Contains-append_cases}
use Rattle.std.proofs.lemmas.List.FromFn.{length-map-range_with_len, get_or-map-range_with_len}
use Rattle.std.proofs.lemmas.List.Kept.{AllPairs-cons}
use Rattle.std.proofs.lemmas.Option.{slice_get_within}
use Rattle.fd_base.proofs.Lists.{pairs_of_one}
use Rattle.fd_base.proofs.Members.{contains_first, contains_later, first_or_later, nothing_in, in_flat_map, filter_in, in_filter, in_filter_map, all_contained}
use Rattle.fd_base.proofs.Options.{one_value, from_map}
use Rattle.fd_base.proofs.Ranges.{is_inside, is_outside}
use Rattle.fd_base.specs.Ranges.{is_in}
use Rattle.elf_model.specs.declared.constants.TheConstants.{R_ARM_NONE, R_ARM_V4BX, R_ARM_GOT_BREL, R_ARM_GOTFUNCDESC, R_ARM_REL32, R_ARM_GOTOFF32, R_ARM_FUNCDESC, R_ARM_GOTOFFFUNCDESC}
use Rattle.elf_model.specs.declared.object.Segment.{Segment}
use Rattle.elf_model.specs.declared.relocatable.RelObject.{RelObject}
use Rattle.elf_model.specs.declared.table.Site.{Site}
use Rattle.elf_model.specs.Places.{file_byte, is_held_in}
use Rattle.elf_model.specs.RelSound.{IsRelSound, filled_size}
use Rattle.elf_model.specs.Sound.{SegmentsApart, RangesApart}
use Rattle.plt_code.specs.Words.{entry_words}
use Rattle.load_model.specs.declared.words.LinkWord.{LinkWord}
use Rattle.load_image.specs.parts.Laws.{HasWord}
use Rattle.load_model.specs.Image.{byte_over, is_in_word}
use Rattle.load_image.proofs.FilledRanges.{InSite}
use Rattle.load_image.proofs.WrittenWords.{is_off}
use Rattle.link_layout.specs.Layout.{end_of}
use Rattle.link_layout.proofs.Lying.{end_from, end_append, from_aligned}
use Rattle.link_model.specs.declared.input.Mode.{Mode}
use Rattle.link_model.specs.declared.limits.TheConstants.{PLT_ENTRY_SIZE}
use Rattle.link_model.specs.declared.need.Need.{Need}
use Rattle.link_model.specs.declared.need.Need.TheVariants.{Word, FuncWord, Descriptor, NoFunction, Slot}
use Rattle.link_model.specs.declared.target.Key.{Key}
use Rattle.link_model.specs.GotLayout.{use_size}
use Rattle.link_model.specs.Inputs.{InputSection, InputRel, numbered, sections_of, all_rels}
use Rattle.link_model.specs.Joined.{greatest}
use Rattle.link_model.specs.Needs.{is_branch, is_idle, all_needs, offset_of, kind_of, slot_keys, is_same_need, target_at}
use Rattle.link_model.specs.Places.{plt_place, plt_entry, text_end, data_place, got_end, need_place, filled_end, zeros_end, data_end, section_place, blocks_of, block_piece}
use Rattle.link_model.specs.Sections.{is_writable, is_nobits, text_sections, writable_sections, filled_sections, piece_of, text_place, text_sections_end}
use Rattle.link_model.specs.Segments.{word_at, site_words, plt_entry_words, plt_words, need_values, need_words, got_words, words_of, linked_byte, linked_bytes, text_filled_end, text_segment, data_segment, segments_of, section_byte}
use Rattle.link_model.specs.Sites.{site_address, site_word, is_address_kind}
use Rattle.link_model.specs.Targets.{is_settled}
use Rattle.link_model.specs.parts.Laws.{AreClear, IsOffWord, IsRoomy, WordsAreLinked, word_range, need_range}
use Rattle.link_model.proofs.Agreeing.{Agree, word_stands, apart_in, of_ranges, row_inside, row_agrees}
use Rattle.link_model.proofs.Needed.{same_need, stands, needs_apart}
use Rattle.link_model.proofs.Numbering.{numbered_at, one_section, section_of_rel, section_sound, rel_inside}
use Rattle.link_model.proofs.Placed.{sections_apart, text_below, data_above, text_between, file_between, place_in_text, text_lies, in_text_sections}
use Rattle.link_model.proofs.Sited.{address, one_or_apart}

-- ---- the greatest of some numbers

pub greatest_from : {X : Type 0} (f : X → ℕ) (least : ℕ) (xs : List X) → least ≤ greatest least f xs
greatest_from f least [] = omega arith
greatest_from f least (x ∷ xs) = let rest = greatest_from f (max least (f x)) xs in omega (arith, rest)

pub greatest_above : {X : Type 0} (f : X → ℕ) (least : ℕ) (xs : List X) (x : X) → Contains xs x → f x ≤ greatest least f xs
greatest_above f least [] x there = absurd (nothing_in x there)
greatest_above f least (y ∷ xs) x there = elim (first_or_later y x xs there) [
  | inl same ↦
      let from = greatest_from f (max least (f y)) xs in
      let here : f y ≡ f x = ap f same in
      omega (arith, from, here)
  | inr later ↦ greatest_above f (max least (f y)) xs x later
]

pub greatest_below : {X : Type 0} (f : X → ℕ) (least most : ℕ) (xs : List X) → least ≤ most → ((x : X) → Contains xs x → f x ≤ most) → greatest least f xs ≤ most
greatest_below f least most [] le each = le
greatest_below {X = X} f least most (x ∷ xs) le each =
    let here = each x (contains_first x x xs refl) in
    greatest_below f (max least (f x)) most xs (omega (arith, le, here)) (λ y there. each y (contains_later x y xs there))

-- ---- relocations that change nothing have no word

none_for : (mode : Mode) (inputs : List RelObject) (x : InputRel) (k : ℕ) → (x.rel).kind ≡ k → is_branch k ≡ false → (k == R_ARM_GOT_BREL) ≡ false → (k == R_ARM_GOTFUNCDESC) ≡ false
    → is_address_kind k ≡ false → (k == R_ARM_REL32) ≡ false → (k == R_ARM_GOTOFF32) ≡ false → (k == R_ARM_FUNCDESC) ≡ false → (k == R_ARM_GOTOFFFUNCDESC) ≡ false
    → site_word mode inputs x ≡ None
unfolding site_word
none_for mode inputs x k is a b c d e f g h = by (is_settled (target_at mode inputs x).reach) refl
  where
    to : (test : ℕ → Bool) → test k ≡ false → test (x.rel).kind ≡ false
    to test off = ap test is ∙ off

    by : (s : Bool) → is_settled (target_at mode inputs x).reach ≡ s → site_word mode inputs x ≡ None
    by true p =
        rw (to is_branch a, to (λ n. n == R_ARM_GOT_BREL) b, to (λ n. n == R_ARM_GOTFUNCDESC) c, p, to is_address_kind d, to (λ n. n == R_ARM_REL32) e, to (λ n. n == R_ARM_GOTOFF32) f, to (λ n. n == R_ARM_FUNCDESC) g, to (λ n. n == R_ARM_GOTOFFFUNCDESC) h) refl
    by false p = rw (to is_branch a, to (λ n. n == R_ARM_GOT_BREL) b, to (λ n. n == R_ARM_GOTFUNCDESC) c, p) refl

pub idle_word : (mode : Mode) (inputs : List RelObject) (x : InputRel) → is_idle (x.rel).kind ≡ true → site_word mode inputs x ≡ None
idle_word mode inputs x idle = elim (or_cases (R_ARM_NONE == (x.rel).kind) (R_ARM_V4BX == (x.rel).kind || false) idle) [
  | inl e ↦ none_for mode inputs x R_ARM_NONE (sym (eqb-true R_ARM_NONE (x.rel).kind e)) refl refl refl refl refl refl refl refl
  | inr more ↦ elim (or_cases (R_ARM_V4BX == (x.rel).kind) false more) [
    | inl e ↦ none_for mode inputs x R_ARM_V4BX (sym (eqb-true R_ARM_V4BX (x.rel).kind e)) refl refl refl refl refl refl refl refl
    | inr no' ↦ absurd (false≢true no')
  ]
]

not_idle : (mode : Mode) (inputs : List RelObject) (x : InputRel) (v : ℕ) → site_word mode inputs x ≡ Some v → is_idle (x.rel).kind ≡ false
not_idle mode inputs x v is = by (is_idle (x.rel).kind) refl
  where
    by : (b : Bool) → is_idle (x.rel).kind ≡ b → is_idle (x.rel).kind ≡ false
    by true idle = let none : None ≡ Some v = sym (idle_word mode inputs x idle) ∙ is in absurd cc
    by false e = e

module _ (mode : Mode) (inputs : List RelObject) where
  -- ---- where sections and words end

  -- a section of the text that isn't one of zeros lies in the file
  pub text_in_file : (x : InputSection) → Contains (sections_of inputs) x → is_writable x ≡ false → is_nobits x ≡ false → section_place mode inputs x.index + (x.section).size ≤ text_filled_end mode inputs
  text_in_file x there text bytes = by (length (slot_keys mode inputs) == 0) refl
    where
      ends : InputSection → ℕ
      ends y = text_place inputs y.index + (y.section).size

      kept : List InputSection
      kept = filter (λ y. not (is_nobits y)) (text_sections inputs)

      by : (b : Bool) → (length (slot_keys mode inputs) == 0) ≡ b → section_place mode inputs x.index + (x.section).size ≤ text_filled_end mode inputs
      by true e =
          let is : text_filled_end mode inputs ≡ greatest 0 ends kept = ap (λ b. cond b (greatest 0 ends kept) (text_end mode inputs)) e in
          let place = place_in_text mode inputs x there text in
          let le = greatest_above ends 0 kept x (filter_in (λ y. not (is_nobits y)) (text_sections inputs) x (in_text_sections inputs x there text) (ap not bytes)) in
          omega (arith, is, place, le)
      by false e =
          let is : text_filled_end mode inputs ≡ text_end mode inputs = ap (λ b. cond b (greatest 0 ends kept) (text_end mode inputs)) e in
          omega (arith, is, (text_between mode inputs x there text).to)

  pub text_filled_below : text_filled_end mode inputs ≤ text_end mode inputs
  text_filled_below = by (length (slot_keys mode inputs) == 0) refl
    where
      ends : InputSection → ℕ
      ends y = text_place inputs y.index + (y.section).size

      kept : List InputSection
      kept = filter (λ y. not (is_nobits y)) (text_sections inputs)

      each : (y : InputSection) → Contains kept y → ends y ≤ text_end mode inputs
      each y there =
          let of = (in_filter (λ z. not (is_nobits z)) (text_sections inputs) y there).0 in
          omega (arith, (text_lies inputs y of).to, text_below mode inputs)

      by : (b : Bool) → (length (slot_keys mode inputs) == 0) ≡ b → text_filled_end mode inputs ≤ text_end mode inputs
      by true e =
          let is : text_filled_end mode inputs ≡ greatest 0 ends kept = ap (λ b. cond b (greatest 0 ends kept) (text_end mode inputs)) e in
          let le = greatest_below ends 0 (text_end mode inputs) kept (omega arith) each in
          omega (arith, is, le)
      by false e =
          let is : text_filled_end mode inputs ≡ text_end mode inputs = ap (λ b. cond b (greatest 0 ends kept) (text_end mode inputs)) e in
          omega (arith, is)

  pub got_in_file : got_end mode inputs ≤ filled_end mode inputs
  got_in_file = end_from (got_end mode inputs) (map piece_of (filled_sections inputs))

  pub filled_below : filled_end mode inputs ≤ data_end mode inputs
  unfolding data_end
  filled_below =
      let parts : zeros_end mode inputs ≡ end_of (filled_end mode inputs) (map piece_of (writable_sections is_nobits inputs)) =
      ap (end_of (got_end mode inputs)) (map-append piece_of (filled_sections inputs) (writable_sections is_nobits inputs)) ∙ end_append (got_end mode inputs) (map piece_of (filled_sections inputs)) (map piece_of (writable_sections is_nobits inputs)) in
      let zeros = end_from (filled_end mode inputs) (map piece_of (writable_sections is_nobits inputs)) in
      let blocks = end_from (zeros_end mode inputs) (map block_piece (blocks_of mode inputs)) in
      omega (arith, parts, zeros, blocks)

  -- ---- words of relocations

  -- a word in the file's bytes of the text, or in those of the data
  pub record InText (w : LinkWord) : Type 0 where
    pub text_to : w.addr + 4 ≤ text_filled_end mode inputs

  pub record InData (w : LinkWord) : Type 0 where
    pub data_from : data_place mode inputs ≤ w.addr
    pub data_to : w.addr + 4 ≤ filled_end mode inputs

  abbrev pub InFile : LinkWord → Type 0
  InFile w = InText w ⊎ InData w

  -- a relocation and its word
  record IsSite (w : LinkWord) : Type 0 where
    pub rel : InputRel
    pub member : Contains (all_rels inputs) rel
    pub value : ℕ
    pub writes : site_word mode inputs rel ≡ Some value
    pub same : word_at (site_address mode inputs rel) value ≡ w

  site_of : (w : LinkWord) → Contains (site_words mode inputs) w → IsSite w
  site_of w there =
      let from = in_filter_map (λ x. option_map (word_at (site_address mode inputs x)) (site_word mode inputs x)) (all_rels inputs) w there in
      let x = from.0 in
      let made = from_map (word_at (site_address mode inputs x)) (site_word mode inputs x) w from.2 in
      record { rel = x; member = from.1; value = made.0; writes = made.1; same = made.2 }

  site_inside : (w : LinkWord) (s : IsSite w) → InSite (word_range mode inputs s.rel) w
  site_inside w s = let at : site_address mode inputs s.rel ≡ w.addr = ap (λ (u : LinkWord). u.addr) s.same in record { above = omega (arith, at); below = omega (arith, at) }

  module _ (clear : AreClear inputs) where
    sites_agree : (u w : LinkWord) → Contains (site_words mode inputs) u → Contains (site_words mode inputs) w → Agree u w
    sites_agree u w one two =
        let a = site_of u one in
        let b = site_of w two in
        elim (one_or_apart mode inputs clear a.rel b.rel a.member b.member (not_idle mode inputs a.rel a.value a.writes) (not_idle mode inputs b.rel b.value b.writes)) [
          | inl same ↦
              let value : a.value ≡ b.value = one_value (site_word mode inputs a.rel) a.value b.value a.writes (ap (site_word mode inputs) same ∙ b.writes) in
              inl (sym a.same ∙ (λ i. word_at (site_address mode inputs (same i)) (value i)) ∙ b.same)
          | inr apart ↦ apart_in (word_range mode inputs a.rel) (word_range mode inputs b.rel) u w apart (site_inside u a) (site_inside w b)
        ]

    -- before the PLT, or behind the GOT
    record SiteLies (w : LinkWord) : Type 0 where
      pub in_file : InFile w
      pub outside : (w.addr + 4 ≤ text_sections_end inputs) ⊎ (got_end mode inputs ≤ w.addr)

    site_lies : (w : LinkWord) → Contains (site_words mode inputs) w → SiteLies w
    site_lies w there =
        let s = site_of w there in
        by s (is_writable (s.rel).at) refl
      where
        by : (s : IsSite w) → (b : Bool) → is_writable (s.rel).at ≡ b → SiteLies w
        by s b e =
            let own = (section_of_rel inputs s.rel s.member).0 in
            let inside = rel_inside inputs clear.sound s.rel s.member in
            let at = address mode inputs clear s.rel in
            let here : site_address mode inputs s.rel ≡ w.addr = ap (λ (u : LinkWord). u.addr) s.same in
            elim b as (λ c. is_writable (s.rel).at ≡ c → SiteLies w) [
              | true ↦ λ data'.
                  let l = file_between mode inputs (s.rel).at own data' inside.bytes in
                  record {
                    in_file = inr (record { data_from = omega (arith, at, here, l.from); data_to = omega (arith, at, here, l.to, inside.within) });
                    outside = inr (omega (arith, at, here, l.from));
                  }
              | false ↦ λ text.
                  let le = text_in_file (s.rel).at own text inside.bytes in
                  let place = place_in_text mode inputs (s.rel).at own text in
                  let l = text_lies inputs (s.rel).at (in_text_sections inputs (s.rel).at own text) in
                  record {
                    in_file = inl (record { text_to = omega (arith, at, here, le, inside.within) });
                    outside = inl (omega (arith, at, here, place, l.to, inside.within));
                  }
            ] e

  -- ---- words of the PLT

  entry_range : ℕ × Key → Site
  entry_range e = record { addr = plt_entry inputs e.0; size = PLT_ENTRY_SIZE }

  entry_inside : (e : ℕ × Key) → Contains (numbered (slot_keys mode inputs)) e → (w : LinkWord) → Contains (plt_entry_words mode inputs e) w → InSite (entry_range e) w
  unfolding entry_range
  entry_inside e in' w there = row_inside (plt_entry inputs e.0) PLT_ENTRY_SIZE (entry_words (offset_of (all_needs mode inputs) (Slot e.1)) (8 * e.0)) (omega arith) w there

  entries_apart : (d e : ℕ × Key) → Contains (numbered (slot_keys mode inputs)) d → Contains (numbered (slot_keys mode inputs)) e → (d ≡ e) ⊎ RangesApart (entry_range d) (entry_range e)
  unfolding entry_range
  entries_apart d e one two = elim (cases_lt d.0 e.0) [
    | inl lt ↦ inr (inl (omega arith))
    | inr le ↦ elim (cases_lt e.0 d.0) [
      | inl lt ↦ inr (inr (omega arith))
      | inr ge ↦
          let number : d.0 ≡ e.0 = omega arith in
          let keys = slot_keys mode inputs in
          let key : d.1 ≡ e.1 = one_value (slice_get keys d.0) d.1 e.1 (numbered_at keys d one) (ap (slice_get keys) number ∙ numbered_at keys e two) in
          inl (λ i. (number i, key i))
    ]
  ]

  plt_agree : (u w : LinkWord) → Contains (plt_words mode inputs) u → Contains (plt_words mode inputs) w → Agree u w
  plt_agree =
      of_ranges (plt_entry_words mode inputs) entry_range (numbered (slot_keys mode inputs)) entry_inside
      (λ e u w one two. row_agrees (plt_entry inputs e.0) (entry_words (offset_of (all_needs mode inputs) (Slot e.1)) (8 * e.0)) u w one two) entries_apart

  record EntryLies (w : LinkWord) : Type 0 where
    pub from : plt_place inputs ≤ w.addr
    pub to : w.addr + 4 ≤ text_end mode inputs
    pub in_file : InText w

  entry_lies : (w : LinkWord) → Contains (plt_words mode inputs) w → EntryLies w
  unfolding text_end entry_range
  entry_lies w there =
      let keys = slot_keys mode inputs in
      let from = in_flat_map (plt_entry_words mode inputs) (numbered keys) w there in
      let e = from.0 in
      let inside = entry_inside e from.1 w from.2 in
      let below = slice_get_within keys e.0 e.1 (numbered_at keys e from.1) in
      let some : (length keys == 0) ≡ false = grind (arith, nat_tests) in
      let end : text_end mode inputs ≡ plt_place inputs + PLT_ENTRY_SIZE * length keys = ap (λ b. cond b (text_sections_end inputs) (plt_place inputs + PLT_ENTRY_SIZE * length keys)) some in
      let ends : InputSection → ℕ = λ y. text_place inputs y.index + (y.section).size in
      let filled : text_filled_end mode inputs ≡ text_end mode inputs = ap (λ b. cond b (greatest 0 ends (filter (λ y. not (is_nobits y)) (text_sections inputs))) (text_end mode inputs)) some in
      record {
        from = omega (arith, inside.above);
        to = omega (arith, inside.below, end, below);
        in_file = record { text_to = omega (arith, inside.below, end, below, filled) };
      }

  -- ---- words of the GOT

  room : (n : Need) → 4 * length (need_values mode inputs n) ≤ use_size (kind_of n)
  room (Word key) = omega arith
  room (FuncWord key) = omega arith
  room (Descriptor function) = omega arith
  room (NoFunction key) = omega arith
  room (Slot key) = omega arith

  need_inside : (n : Need) → Contains (all_needs mode inputs) n → (w : LinkWord) → Contains (need_words mode inputs n) w → InSite (need_range mode inputs n) w
  need_inside n in' w there = row_inside (need_place mode inputs n) (use_size (kind_of n)) (need_values mode inputs n) (room n) w there

  one_or_apart_needs : (a b : Need) → Contains (all_needs mode inputs) a → Contains (all_needs mode inputs) b → (a ≡ b) ⊎ RangesApart (need_range mode inputs a) (need_range mode inputs b)
  one_or_apart_needs a b one two = by (is_same_need a b) refl
    where
      by : (s : Bool) → is_same_need a b ≡ s → (a ≡ b) ⊎ RangesApart (need_range mode inputs a) (need_range mode inputs b)
      by true e = inl ((same_need a b).0 e)
      by false e = inr (needs_apart mode inputs a b one two (λ same. false≢true (sym e ∙ (same_need a b).1 same)))

  got_agree : (u w : LinkWord) → Contains (got_words mode inputs) u → Contains (got_words mode inputs) w → Agree u w
  got_agree =
      of_ranges (need_words mode inputs) (need_range mode inputs) (all_needs mode inputs) need_inside
      (λ n u w one two. row_agrees (need_place mode inputs n) (need_values mode inputs n) u w one two) one_or_apart_needs

  record NeedLies (w : LinkWord) : Type 0 where
    pub from : data_place mode inputs ≤ w.addr
    pub to : w.addr + 4 ≤ got_end mode inputs

  need_lies : (w : LinkWord) → Contains (got_words mode inputs) w → NeedLies w
  need_lies w there =
      let from = in_flat_map (need_words mode inputs) (all_needs mode inputs) w there in
      let inside = need_inside from.0 from.1 w from.2 in
      let s = stands mode inputs from.0 from.1 in
      record { from = omega (arith, inside.above, s.from); to = omega (arith, inside.below, s.to) }

  -- ---- all words

  data Origin (w : LinkWord) : Type 0 where
    site : Contains (site_words mode inputs) w → Origin w
    entry : Contains (plt_words mode inputs) w → Origin w
    need : Contains (got_words mode inputs) w → Origin w

  origin : (w : LinkWord) → Contains (words_of mode inputs) w → Origin w
  origin w there = elim (Contains-append_cases (site_words mode inputs) (plt_words mode inputs ++ got_words mode inputs) w there) [
    | inl a ↦ site a
    | inr more ↦ elim (Contains-append_cases (plt_words mode inputs) (got_words mode inputs) w more) [ inl b ↦ entry b | inr c ↦ need c ]
  ]

  plt_behind : text_sections_end inputs ≤ plt_place inputs
  plt_behind = from_aligned 4 (text_sections_end inputs)

  site_entry : (clear : AreClear inputs) (u w : LinkWord) → SiteLies clear u → EntryLies w → (u.addr + 4 ≤ w.addr) ⊎ (w.addr + 4 ≤ u.addr)
  site_entry clear u w s e =
      let above = data_above mode inputs in
      elim s.outside [ inl h ↦ inl (omega (arith, h, plt_behind, e.from)) | inr h ↦ inr (omega (arith, h, above, e.to)) ]

  site_need : (clear : AreClear inputs) (u w : LinkWord) → SiteLies clear u → NeedLies w → (u.addr + 4 ≤ w.addr) ⊎ (w.addr + 4 ≤ u.addr)
  site_need clear u w s n =
      let above = data_above mode inputs in
      let below = text_below mode inputs in
      elim s.outside [ inl h ↦ inl (omega (arith, h, above, below, n.from)) | inr h ↦ inr (omega (arith, h, n.to)) ]

  entry_need : (u w : LinkWord) → EntryLies u → NeedLies w → u.addr + 4 ≤ w.addr
  entry_need u w e n = let above = data_above mode inputs in omega (arith, above, e.to, n.from)

  turned : (u w : LinkWord) → (u.addr + 4 ≤ w.addr) ⊎ (w.addr + 4 ≤ u.addr) → (w.addr + 4 ≤ u.addr) ⊎ (u.addr + 4 ≤ w.addr)
  turned u w (inl h) = inr h
  turned u w (inr h) = inl h

  agree : (clear : AreClear inputs) (u w : LinkWord) → Origin u → Origin w → Agree u w
  agree clear u w (site a) (site b) = sites_agree clear u w a b
  agree clear u w (site a) (entry b) = inr (site_entry clear u w (site_lies clear u a) (entry_lies w b))
  agree clear u w (site a) (need b) = inr (site_need clear u w (site_lies clear u a) (need_lies w b))
  agree clear u w (entry a) (site b) = inr (turned w u (site_entry clear w u (site_lies clear w b) (entry_lies u a)))
  agree clear u w (entry a) (entry b) = plt_agree u w a b
  agree clear u w (entry a) (need b) = inr (inl (entry_need u w (entry_lies u a) (need_lies w b)))
  agree clear u w (need a) (site b) = inr (turned w u (site_need clear w u (site_lies clear w b) (need_lies u a)))
  agree clear u w (need a) (entry b) = inr (inr (entry_need w u (entry_lies w b) (need_lies u a)))
  agree clear u w (need a) (need b) = got_agree u w a b

  in_file : (clear : AreClear inputs) (w : LinkWord) → Origin w → InFile w
  in_file clear w (site a) = (site_lies clear w a).in_file
  in_file clear w (entry a) = inl (entry_lies w a).in_file
  in_file clear w (need a) = let l = need_lies w a in inr (record { data_from = l.from; data_to = omega (arith, l.to, got_in_file) })

  -- ---- the bytes of segments

  bytes_size : (from to : ℕ) → length (linked_bytes mode inputs from to) ≡ to - from
  bytes_size from to = length-map-range_with_len (linked_byte mode inputs) from (to - from)

  bytes_at : (from to v : ℕ) → from ≤ v → v < to → slice_index (linked_bytes mode inputs from to) (v - from) ≡ linked_byte mode inputs v
  bytes_at from to v ge lt = get_or-map-range_with_len (linked_byte mode inputs) from (to - from) (v - from) v 0 (omega arith) (omega arith)

  data_byte : (v : ℕ) → data_place mode inputs ≤ v → v < filled_end mode inputs → file_byte (segments_of mode inputs) v ≡ linked_byte mode inputs v
  data_byte v ge lt = by (text_end mode inputs == 0) refl
    where
      s : Segment
      s = data_segment mode inputs

      held : is_held_in (data_segment mode inputs) v ≡ true
      held = is_inside (data_place mode inputs) (data_end mode inputs - data_place mode inputs) v ge (omega (arith, filled_below))

      here : file_byte (data_segment mode inputs ∷ []) v ≡ linked_byte mode inputs v
      here =
          ap (λ b. cond b (slice_index (data_segment mode inputs).filled (v - data_place mode inputs)) 0) held
          ∙ bytes_at (data_place mode inputs) (filled_end mode inputs) v ge lt

      off : is_held_in (text_segment mode inputs) v ≡ false
      off = is_outside 0 (text_end mode inputs) v (inr (omega (arith, data_above mode inputs)))

      by : (b : Bool) → (text_end mode inputs == 0) ≡ b → file_byte (segments_of mode inputs) v ≡ linked_byte mode inputs v
      by true e = ap (λ b. file_byte (cond b (data_segment mode inputs ∷ []) (text_segment mode inputs ∷ data_segment mode inputs ∷ [])) v) e ∙ here
      by false e =
          ap (λ b. file_byte (cond b (data_segment mode inputs ∷ []) (text_segment mode inputs ∷ data_segment mode inputs ∷ [])) v) e
          ∙ ap (λ b. cond b (slice_index (text_segment mode inputs).filled (v - 0)) (file_byte (data_segment mode inputs ∷ []) v)) off ∙ here

  text_byte : (v : ℕ) → v < text_filled_end mode inputs → file_byte (segments_of mode inputs) v ≡ linked_byte mode inputs v
  text_byte v lt =
      let up = text_filled_below in
      let some : (text_end mode inputs == 0) ≡ false = grind (arith, nat_tests) in
      let held : is_held_in (text_segment mode inputs) v ≡ true = is_inside 0 (text_end mode inputs) v (omega arith) (omega (arith, up)) in
      ap (λ b. file_byte (cond b (data_segment mode inputs ∷ []) (text_segment mode inputs ∷ data_segment mode inputs ∷ [])) v) some
      ∙ ap (λ b. cond b (slice_index (text_segment mode inputs).filled (v - 0)) (file_byte (data_segment mode inputs ∷ []) v)) held
      ∙ bytes_at 0 (text_filled_end mode inputs) v (omega arith) lt

  -- ---- the law

  word_linked : (clear : AreClear inputs) (w : LinkWord) → Contains (words_of mode inputs) w → HasWord (file_byte (segments_of mode inputs)) w
  word_linked clear w there =
      let o = origin w there in
      let stands' = word_stands (words_of mode inputs) (section_byte mode inputs (sections_of inputs)) w there (λ u in'. agree clear u w (origin u in') o) in
      elim (in_file clear w o) [
        | inl text ↦ λ i lt. text_byte (w.addr + i) (omega (arith, text.text_to)) ∙ stands' i lt
        | inr data' ↦ λ i lt. data_byte (w.addr + i) (omega (arith, data'.data_from)) (omega (arith, data'.data_to)) ∙ stands' i lt
      ]

  -- ---- the bytes of sections

  no_word : (ws : List LinkWord) (f : ℕ → ℕ) (v : ℕ) → All (IsOffWord v) ws → byte_over ws f v ≡ f v
  no_word [] f v off = refl
  no_word (w ∷ ws) f v off =
      cond-false (is_in_word w v) (slice_index (to_le_bytes w32 w.value) (v - w.addr)) (byte_over ws f v) (is_off w v (All-head (IsOffWord v) w ws off))
      ∙ no_word ws f v (All-tail (IsOffWord v) w ws off)

  -- the section that has a byte at a link address, among some of all sections
  section_byte_is : (x : InputSection) (i : ℕ) (xs : List InputSection) → ((y : InputSection) → Contains xs y → Contains (sections_of inputs) y × (length (y.section).filled ≤ (y.section).size)) → Contains xs x
      → i < length (x.section).filled → section_byte mode inputs xs (section_place mode inputs x.index + i) ≡ slice_index (x.section).filled i
  section_byte_is x i [] each there lt = absurd (nothing_in x there)
  section_byte_is x i (y ∷ ys) each there lt =
      by (λ later. section_byte_is x i ys (λ z in'. each z (contains_later y z ys in')) later lt) (first_or_later y x ys there)
    where
      v : ℕ
      v = section_place mode inputs x.index + i

      at : ℕ
      at = section_place mode inputs y.index

      rest : ℕ
      rest = section_byte mode inputs ys (section_place mode inputs x.index + i)

      here : y ≡ x → section_byte mode inputs (y ∷ ys) v ≡ slice_index (x.section).filled i
      here same =
          let place : at ≡ section_place mode inputs x.index = ap (λ (z : InputSection). section_place mode inputs z.index) same in
          let size : length (y.section).filled ≡ length (x.section).filled = ap (λ (z : InputSection). length (z.section).filled) same in
          let held = is_inside at (length (y.section).filled) v (omega (arith, place)) (omega (arith, place, size, lt)) in
          let offset : v - at ≡ i = omega (arith, place) in
          cond-true (is_in at (length (y.section).filled) v) (slice_index (y.section).filled (v - at)) rest held
          ∙ ap (λ (z : InputSection). slice_index (z.section).filled (v - at)) same ∙ ap (slice_index (x.section).filled) offset

      by : (Contains ys x → section_byte mode inputs ys v ≡ slice_index (x.section).filled i) → (y ≡ x) ⊎ Contains ys x → section_byte mode inputs (y ∷ ys) v ≡ slice_index (x.section).filled i
      by more (inl same) = here same
      by more (inr later) = elim (cases_lt y.index x.index) [
        | inl lt' ↦ apart (λ e. absurd (omega arith)) later
        | inr le ↦ elim (cases_lt x.index y.index) [
          | inl lt' ↦ apart (λ e. absurd (omega arith)) later
          | inr ge ↦ here (one_section inputs y x (each y (contains_first y y ys refl)).0 (each x (contains_later y x ys later)).0 (omega arith))
        ]
      ]
        where
          apart : y.index ≢ x.index → Contains ys x → section_byte mode inputs (y ∷ ys) v ≡ slice_index (x.section).filled i
          apart ne later' =
              let own = each y (contains_first y y ys refl) in
              let other = each x (contains_later y x ys later') in
              let off : (v < at) ⊎ (at + length (y.section).filled ≤ v) = elim (sections_apart mode inputs y x own.0 other.0 ne) [ inl h ↦ inr (omega (arith, h, own.1)) | inr h ↦ inl (omega (arith, h, other.1, lt)) ] in
              cond-false (is_in at (length (y.section).filled) v) (slice_index (y.section).filled (v - at)) rest (is_outside at (length (y.section).filled) v off) ∙ more later'

  -- the file has no more bytes of a section than there are, and none of zeros
  record IsFilled (x : InputSection) : Type 0 where
    pub fits : length (x.section).filled ≤ (x.section).size
    pub bytes : 0 < length (x.section).filled → is_nobits x ≡ false

  filled_of : All IsRelSound inputs → (x : InputSection) → Contains (sections_of inputs) x → IsFilled x
  filled_of sound x there = by (is_nobits x) refl
    where
      size : length (x.section).filled ≡ filled_size x.section
      size = (section_sound inputs sound x there).1.filled'

      by : (b : Bool) → is_nobits x ≡ b → IsFilled x
      by true e =
          let none : filled_size x.section ≡ 0 = ap (λ b. cond b 0 (x.section).size) e in
          record { fits = omega (arith, size, none); bytes = λ some. absurd (omega (arith, size, none)) }
      by false e =
          let all : filled_size x.section ≡ (x.section).size = ap (λ b. cond b 0 (x.section).size) e in
          record { fits = omega (arith, size, all); bytes = λ some. e }

  byte_linked : (x : InputSection) (i : ℕ) → All IsRelSound inputs → Contains (sections_of inputs) x → i < length (x.section).filled
      → All (IsOffWord (section_place mode inputs x.index + i)) (words_of mode inputs)
      → file_byte (segments_of mode inputs) (section_place mode inputs x.index + i) ≡ slice_index (x.section).filled i
  byte_linked x i sound there lt off = in_segment (is_writable x) refl ∙ linked
    where
      v : ℕ
      v = section_place mode inputs x.index + i

      own : IsFilled x
      own = filled_of sound x there

      linked : linked_byte mode inputs v ≡ slice_index (x.section).filled i
      linked =
          no_word (words_of mode inputs) (section_byte mode inputs (sections_of inputs)) v off
          ∙ section_byte_is x i (sections_of inputs) (λ y in'. (in', (filled_of sound y in').fits)) there lt

      in_segment : (b : Bool) → is_writable x ≡ b → file_byte (segments_of mode inputs) v ≡ linked_byte mode inputs v
      in_segment true e =
          let l = file_between mode inputs x there e (own.bytes (omega arith)) in
          data_byte v (omega (arith, l.from)) (omega (arith, l.to, own.fits, lt))
      in_segment false e =
          let le = text_in_file x there e (own.bytes (omega arith)) in
          text_byte v (omega (arith, le, own.fits, lt))

  -- ---- the segments

  segments_apart : AllPairs SegmentsApart (segments_of mode inputs)
  segments_apart = by (text_end mode inputs == 0)
    where
      above : SegmentsApart (text_segment mode inputs) (data_segment mode inputs)
      above = inl (omega (arith, data_above mode inputs))

      by : (b : Bool) → AllPairs SegmentsApart (cond b (data_segment mode inputs ∷ []) (text_segment mode inputs ∷ data_segment mode inputs ∷ []))
      by true = pairs_of_one SegmentsApart (data_segment mode inputs)
      by false =
          AllPairs-cons SegmentsApart (text_segment mode inputs) (data_segment mode inputs ∷ [])
          (All-cons (SegmentsApart (text_segment mode inputs)) (data_segment mode inputs) [] above (All-nil (SegmentsApart (text_segment mode inputs))))
          (pairs_of_one SegmentsApart (data_segment mode inputs))

  segments_roomy : All IsRoomy (segments_of mode inputs)
  segments_roomy = by (text_end mode inputs == 0)
    where
      text : IsRoomy (text_segment mode inputs)
      text = omega (arith, bytes_size 0 (text_filled_end mode inputs), text_filled_below)

      last : IsRoomy (data_segment mode inputs)
      last = omega (arith, bytes_size (data_place mode inputs) (filled_end mode inputs), filled_below)

      alone : All IsRoomy (data_segment mode inputs ∷ [])
      alone = All-cons IsRoomy (data_segment mode inputs) [] last (All-nil IsRoomy)

      by : (b : Bool) → All IsRoomy (cond b (data_segment mode inputs ∷ []) (text_segment mode inputs ∷ data_segment mode inputs ∷ []))
      by true = alone
      by false = All-cons IsRoomy (text_segment mode inputs) (data_segment mode inputs ∷ []) text alone

pub words_are_linked : WordsAreLinked
words_are_linked = record {
  apart = segments_apart;
  roomy = segments_roomy;
  bytes = byte_linked;
  words = λ mode inputs clear. all_contained (HasWord (file_byte (segments_of mode inputs))) (words_of mode inputs) (word_linked mode inputs clear);
}
