-- Where sections lie: in their part of their segment, and no two of them share a byte.
use Rattle.std.proofs.Common.{◌≡◌, ◌≢◌, ℕ, ◌+◌, ◌*◌, ◌/◌, ◌%◌, ◌<◌, ◌≤◌, ◌⊎◌, inl, inr, Bool, true, false, cond, not, ◌&&◌, ◌||◌, List, ◌++◌, length, refl, ap, sym, ◌∙◌, arith}
use Rattle.std.specs.Prelude.{◌==◌, max, Contains}
use Rattle.std.specs.Option.{option_map_or}
use Rattle.std.proofs.lemmas.Bool.Decides.{nat_tests}
use Rattle.std.proofs.lemmas.List.Elements.{Contains-append_left, Contains-append_right, Contains-append_cases}
use Rattle.fd_base.proofs.Members.{filter_in, in_filter}
use Rattle.elf_model.specs.declared.constants.TheConstants.{SHT_INIT_ARRAY, SHT_FINI_ARRAY}
use Rattle.elf_model.specs.declared.relocatable.RelObject.{RelObject}
use Rattle.link_layout.proofs.Finding.{Finds, LiesAt, lies, apart, place_in_front}
use Rattle.link_layout.proofs.Lying.{from_aligned}
use Rattle.link_model.specs.declared.input.Mode.{Mode}
use Rattle.link_model.specs.declared.limits.TheConstants.{PLT_ENTRY_SIZE}
use Rattle.link_model.specs.Inputs.{InputSection, sections_of}
use Rattle.link_model.specs.Needs.{slot_keys}
use Rattle.link_model.specs.Places.{plt_place, text_end, data_place, got_end, filled_end, zeros_end, section_place}
use Rattle.link_model.specs.Sections.{is_writable, is_nobits, is_array, text_sections, writable_sections, filled_sections, data_sections, piece_of, place_among, text_place, text_sections_end, is_text_section}
use Rattle.link_model.specs.parts.Laws.{LiesBetween, HasPlace, AreApart, SectionsLieApart}
use Rattle.link_model.proofs.Numbering.{section_at, section_numbered, one_section}

-- ---- parts of the sections

module _ (inputs : List RelObject) where
  pub in_text_sections : (x : InputSection) → Contains (sections_of inputs) x → is_writable x ≡ false → Contains (text_sections inputs) x
  in_text_sections x there is = filter_in (λ y. not (is_writable y)) (sections_of inputs) x there (ap not is)

  in_written : (which : InputSection → Bool) (x : InputSection) → Contains (sections_of inputs) x → is_writable x ≡ true → which x ≡ true → Contains (writable_sections which inputs) x
  in_written which x there is passes = filter_in (λ y. is_writable y && which y) (sections_of inputs) x there (rw (is, passes) refl)

  pub in_filled_sections : (x : InputSection) → Contains (sections_of inputs) x → is_writable x ≡ true → is_nobits x ≡ false → Contains (filled_sections inputs) x
  in_filled_sections x there is bytes = by ((x.section).kind == SHT_INIT_ARRAY) ((x.section).kind == SHT_FINI_ARRAY) refl refl
    where
      starts : List InputSection
      starts = writable_sections (λ y. (y.section).kind == SHT_INIT_ARRAY) inputs

      ends : List InputSection
      ends = writable_sections (λ y. (y.section).kind == SHT_FINI_ARRAY) inputs

      others : List InputSection
      others = writable_sections (λ y. not (is_array y || is_nobits y)) inputs

      by : (a b : Bool) → ((x.section).kind == SHT_INIT_ARRAY) ≡ a → ((x.section).kind == SHT_FINI_ARRAY) ≡ b → Contains (starts ++ (ends ++ others)) x
      by true b e f = Contains-append_left starts (ends ++ others) x (in_written (λ y. (y.section).kind == SHT_INIT_ARRAY) x there is e)
      by false true e f =
          Contains-append_right starts (ends ++ others) x (Contains-append_left ends others x (in_written (λ y. (y.section).kind == SHT_FINI_ARRAY) x there is f))
      by false false e f =
          Contains-append_right starts (ends ++ others) x (Contains-append_right ends others x (in_written (λ y. not (is_array y || is_nobits y)) x there is (rw (e, f, bytes) refl)))

  pub in_data_sections : (x : InputSection) → Contains (sections_of inputs) x → is_writable x ≡ true → Contains (data_sections inputs) x
  in_data_sections x there is = by (is_nobits x) refl
    where
      by : (b : Bool) → is_nobits x ≡ b → Contains (data_sections inputs) x
      by true zeros = Contains-append_right (filled_sections inputs) (writable_sections is_nobits inputs) x (in_written is_nobits x there is zeros)
      by false bytes = Contains-append_left (filled_sections inputs) (writable_sections is_nobits inputs) x (in_filled_sections x there is bytes)

  -- ---- and back

  pub of_text : (x : InputSection) → Contains (text_sections inputs) x → Contains (sections_of inputs) x
  of_text x there = (in_filter (λ y. not (is_writable y)) (sections_of inputs) x there).0

  of_written : (which : InputSection → Bool) (x : InputSection) → Contains (writable_sections which inputs) x → Contains (sections_of inputs) x
  of_written which x there = (in_filter (λ y. is_writable y && which y) (sections_of inputs) x there).0

  of_filled : (x : InputSection) → Contains (filled_sections inputs) x → Contains (sections_of inputs) x
  of_filled x there =
      let starts = writable_sections (λ y. (y.section).kind == SHT_INIT_ARRAY) inputs in
      let ends = writable_sections (λ y. (y.section).kind == SHT_FINI_ARRAY) inputs in
      let others = writable_sections (λ y. not (is_array y || is_nobits y)) inputs in
      elim (Contains-append_cases starts (ends ++ others) x there) [
        | inl a ↦ of_written (λ y. (y.section).kind == SHT_INIT_ARRAY) x a
        | inr more ↦ elim (Contains-append_cases ends others x more) [
          | inl b ↦ of_written (λ y. (y.section).kind == SHT_FINI_ARRAY) x b
          | inr c ↦ of_written (λ y. not (is_array y || is_nobits y)) x c
        ]
      ]

  of_data : (x : InputSection) → Contains (data_sections inputs) x → Contains (sections_of inputs) x
  of_data x there = elim (Contains-append_cases (filled_sections inputs) (writable_sections is_nobits inputs) x there) [ inl a ↦ of_filled x a | inr b ↦ of_written is_nobits x b ]

  -- ---- found by number

  abbrev number_is : ℕ → InputSection → Bool
  number_is k x = x.index == k

  finds : (xs : List InputSection) → ((y : InputSection) → Contains xs y → Contains (sections_of inputs) y) → (x : InputSection) → Contains xs x → Finds (number_is x.index) xs x
  finds xs of x there = record {
    member = there;
    passes = grind (arith, nat_tests);
    only = λ z in' same. one_section inputs z x (of z in') (of x there) (let e : z.index ≡ x.index = grind (arith, nat_tests) in e);
  }

  other_number : (x y : InputSection) → x.index ≢ y.index → (z : InputSection) → number_is x.index z ≡ true → number_is y.index z ≡ false
  other_number x y ne z is = by (number_is y.index z) refl
    where
      by : (b : Bool) → number_is y.index z ≡ b → number_is y.index z ≡ false
      by true e =
          let one : z.index ≡ x.index = grind (arith, nat_tests) in
          let two : z.index ≡ y.index = grind (arith, nat_tests) in
          absurd (ne (sym one ∙ two))
      by false e = e

  -- ---- the text

  pub text_lies : (x : InputSection) → Contains (text_sections inputs) x → LiesAt 0 (text_place inputs x.index) (text_sections_end inputs) (piece_of x)
  unfolding text_place text_sections_end
  text_lies x there = lies piece_of (number_is x.index) 0 (text_sections inputs) x (finds (text_sections inputs) of_text x there)

  text_apart : (x y : InputSection) → Contains (text_sections inputs) x → Contains (text_sections inputs) y → x.index ≢ y.index
      → (text_place inputs x.index + (x.section).size ≤ text_place inputs y.index) ⊎ (text_place inputs y.index + (y.section).size ≤ text_place inputs x.index)
  unfolding text_place
  text_apart x y one two ne =
      apart piece_of (number_is x.index) (number_is y.index) 0 (text_sections inputs) x y (finds (text_sections inputs) of_text x one) (finds (text_sections inputs) of_text y two) (other_number x y ne)

module _ (mode : Mode) (inputs : List RelObject) where
  pub text_below : text_sections_end inputs ≤ text_end mode inputs
  unfolding text_end
  text_below = by (length (slot_keys mode inputs) == 0)
    where
      up : text_sections_end inputs ≤ plt_place inputs
      up = from_aligned 4 (text_sections_end inputs)

      by : (b : Bool) → text_sections_end inputs ≤ cond b (text_sections_end inputs) (plt_place inputs + PLT_ENTRY_SIZE * length (slot_keys mode inputs))
      by true = omega arith
      by false = omega (arith, up)

  pub data_above : text_end mode inputs < data_place mode inputs
  unfolding data_place
  data_above = above (text_end mode inputs)
    where
      above : (n : ℕ) → n < (n / 0x1_0000 + 1) * 0x1_0000
      above n = omega arith

  -- ---- places in their segment

  text_section : (x : InputSection) → Contains (sections_of inputs) x → is_text_section inputs x.index ≡ not (is_writable x)
  text_section x there = ap (λ o. option_map_or (λ y. not (is_writable y)) o false) (section_at inputs x there)

  pub place_in_text : (x : InputSection) → Contains (sections_of inputs) x → is_writable x ≡ false → section_place mode inputs x.index ≡ text_place inputs x.index
  unfolding section_place
  place_in_text x there is =
      ap (λ b. cond b (text_place inputs x.index) (place_among (got_end mode inputs) (data_sections inputs) x.index)) (text_section x there ∙ ap not is)

  place_in_data : (x : InputSection) → Contains (sections_of inputs) x → is_writable x ≡ true → section_place mode inputs x.index ≡ place_among (got_end mode inputs) (data_sections inputs) x.index
  unfolding section_place
  place_in_data x there is =
      ap (λ b. cond b (text_place inputs x.index) (place_among (got_end mode inputs) (data_sections inputs) x.index)) (text_section x there ∙ ap not is)

  data_lies : (x : InputSection) → Contains (data_sections inputs) x → LiesAt (got_end mode inputs) (place_among (got_end mode inputs) (data_sections inputs) x.index) (zeros_end mode inputs) (piece_of x)
  data_lies x there = lies piece_of (number_is inputs x.index) (got_end mode inputs) (data_sections inputs) x (finds inputs (data_sections inputs) (of_data inputs) x there)

  filled_lies : (x : InputSection) → Contains (filled_sections inputs) x → LiesAt (got_end mode inputs) (place_among (got_end mode inputs) (filled_sections inputs) x.index) (filled_end mode inputs) (piece_of x)
  filled_lies x there = lies piece_of (number_is inputs x.index) (got_end mode inputs) (filled_sections inputs) x (finds inputs (filled_sections inputs) (of_filled inputs) x there)

  pub text_between : (x : InputSection) → Contains (sections_of inputs) x → is_writable x ≡ false → LiesBetween mode inputs 0 (text_end mode inputs) x
  text_between x there is =
      let place = place_in_text x there is in
      let l = text_lies inputs x (in_text_sections inputs x there is) in
      let up = text_below in
      record { from = omega arith; to = omega (arith, place, l.to, up) }

  data_between : (x : InputSection) → Contains (sections_of inputs) x → is_writable x ≡ true → LiesBetween mode inputs (got_end mode inputs) (zeros_end mode inputs) x
  data_between x there is =
      let place = place_in_data x there is in
      let l = data_lies x (in_data_sections inputs x there is) in
      record { from = omega (arith, place, l.from); to = omega (arith, place, l.to) }

  pub file_between : (x : InputSection) → Contains (sections_of inputs) x → is_writable x ≡ true → is_nobits x ≡ false → LiesBetween mode inputs (got_end mode inputs) (filled_end mode inputs) x
  file_between x there is bytes =
      let front = in_filled_sections inputs x there is bytes in
      let same : number_is inputs x.index x ≡ true = grind (arith, nat_tests) in
      let place = place_in_data x there is ∙ place_in_front piece_of (number_is inputs x.index) (got_end mode inputs) (filled_sections inputs) (writable_sections is_nobits inputs) x front same in
      let l = filled_lies x front in
      record { from = omega (arith, place, l.from); to = omega (arith, place, l.to) }

  multiple_of_align : (x : InputSection) → Contains (sections_of inputs) x → (b : Bool) → is_writable x ≡ b → section_place mode inputs x.index % max (x.section).align 1 ≡ 0
  multiple_of_align x there true is = ap (λ n. n % max (x.section).align 1) (place_in_data x there is) ∙ (data_lies x (in_data_sections inputs x there is)).multiple
  multiple_of_align x there false is = ap (λ n. n % max (x.section).align 1) (place_in_text x there is) ∙ (text_lies inputs x (in_text_sections inputs x there is)).multiple

  each : (x : InputSection) → Contains (sections_of inputs) x → HasPlace mode inputs x
  each x there = record {
    numbered' = section_at inputs x there;
    multiple = multiple_of_align x there (is_writable x) refl;
    in_text = text_between x there;
    in_data = data_between x there;
    in_file = file_between x there;
  }

  -- ---- two sections

  in_order : (x y : InputSection) → Contains (sections_of inputs) x → Contains (sections_of inputs) y → is_writable x ≡ false → is_writable y ≡ true
      → section_place mode inputs x.index + (x.section).size ≤ section_place mode inputs y.index
  in_order x y one two text data' =
      let a = text_between x one text in
      let b = data_between y two data' in
      let up = data_above in
      omega (arith, a.to, b.from, up)

  pub sections_apart : (x y : InputSection) → Contains (sections_of inputs) x → Contains (sections_of inputs) y → x.index ≢ y.index → AreApart mode inputs x y
  sections_apart x y one two ne = by (is_writable x) (is_writable y) refl refl
    where
      by : (a b : Bool) → is_writable x ≡ a → is_writable y ≡ b → AreApart mode inputs x y
      by false true p q = inl (in_order x y one two p q)
      by true false p q = inr (in_order y x two one q p)
      by false false p q =
          let here = place_in_text x one p in
          let there = place_in_text y two q in
          elim (text_apart inputs x y (in_text_sections inputs x one p) (in_text_sections inputs y two q) ne) [
            | inl h ↦ inl (omega (arith, here, there, h))
            | inr h ↦ inr (omega (arith, here, there, h))
          ]
      by true true p q =
          let here = place_in_data x one p in
          let there = place_in_data y two q in
          elim (apart piece_of (number_is inputs x.index) (number_is inputs y.index) (got_end mode inputs) (data_sections inputs) x y (finds inputs (data_sections inputs) (of_data inputs) x (in_data_sections inputs x one p)) (finds inputs (data_sections inputs) (of_data inputs) y (in_data_sections inputs y two q)) (other_number inputs x y ne)) [
            | inl h ↦ inl (omega (arith, here, there, h))
            | inr h ↦ inr (omega (arith, here, there, h))
          ]

pub sections_lie_apart : SectionsLieApart
sections_lie_apart = record { numbers = section_numbered; each = each; apart = sections_apart }
