-- The greatest of what passes, and of one more.
use Rattle.std.proofs.Common.{◌≡◌, ℕ, ◌+◌, ◌<◌, inl, inr, Bool, true, false, cond, not, ◌&&◌, ◌||◌, List, [], ◌∷◌, ◌++◌, filter, take, length, get_or, refl, ap, sym, ◌∙◌, arith}
use Rattle.std.specs.Prelude.{◌==◌, max, Contains}
use Rattle.std.proofs.lemmas.List.{append-nil}
use Rattle.std.proofs.lemmas.List.Elements.{Contains-append_cases}
use Rattle.std.specs.Ordering.{ord_max, nat_cmp}
use Rattle.std.proofs.lemmas.Bool.{and_parts}
use Rattle.std.proofs.lemmas.Bool.Decides.{nat_tests}
use Rattle.fd_base.proofs.Members.{filter_in, in_filter}
use Rattle.elf_model.specs.declared.constants.TheConstants.{SHT_INIT_ARRAY, SHT_FINI_ARRAY}
use Rattle.elf_model.specs.declared.relocatable.RelObject.{RelObject}
use Rattle.link_model.specs.declared.input.Mode.{Mode}
use Rattle.link_model.specs.Inputs.{InputSection, sections_of}
use Rattle.link_model.specs.Joined.{greatest}
use Rattle.link_model.specs.Needs.{slot_keys}
use Rattle.link_model.specs.Places.{text_end}
use Rattle.link_model.specs.Sections.{is_writable, is_nobits, is_array, text_sections, writable_sections, filled_sections, data_sections}
use Rattle.link_model.specs.Segments.{greatest_align, text_filled_end}
use Rattle.link_model.proofs.Placed.{in_data_sections}
use Rattle.link_places.specs.declared.heads.SectionHead.{SectionHead}
use Rattle.link_places.specs.parts.Heads.{head_of, heads_of}
use Rattle.link_object.specs.parts.Filled.{is_of_part, is_filled_text, text_end_of}
use Rattle.link_object.proofs.Arrays.{filter-filter}
use Rattle.link_object.proofs.Copied.{kept_more}
use Rattle.link_object.proofs.Filed.{greatest_alike}
use Rattle.link_object.proofs.Located.{head_at}

greatest_behind : {X : Type 0} (f : X → ℕ) (least : ℕ) (xs : List X) (x : X) → greatest least f (xs ++ x ∷ []) ≡ max (greatest least f xs) (f x)
greatest_behind f least [] x = refl
greatest_behind f least (y ∷ xs) x = greatest_behind f (max least (f y)) xs x

pub ord_max_is : (a b : ℕ) → ord_max nat_cmp a b ≡ max a b
ord_max_is a b = grind (arith, nat_tests)

-- ---- one more section

module _ (inputs : List RelObject) (f : InputSection → ℕ) (least : ℕ) (p : InputSection → Bool) (hs : List SectionHead) (i : ℕ) (d : SectionHead) (is : hs ≡ heads_of inputs) (lt : i < length hs) (now : ℕ)
    (so_far : now ≡ greatest least f (filter p (take i (sections_of inputs)))) where
  pub head_taken : (n : ℕ) → ((x : InputSection) → get_or hs i d ≡ head_of x → p x ≡ true) → ((x : InputSection) → get_or hs i d ≡ head_of x → n ≡ f x)
      → max now n ≡ greatest least f (filter p (take (i + 1) (sections_of inputs)))
  head_taken n passes value =
      let h = head_at inputs hs i d is lt in
      let x = h.section' in
      (λ j. max (so_far j) (value x h.is j))
      ∙ sym (ap (greatest least f) (kept_more p (sections_of inputs) i x true h.there (passes x h.is)) ∙ greatest_behind f least (filter p (take i (sections_of inputs))) x)

  pub head_passed : ((x : InputSection) → get_or hs i d ≡ head_of x → p x ≡ false) → now ≡ greatest least f (filter p (take (i + 1) (sections_of inputs)))
  head_passed fails =
      let h = head_at inputs hs i d is lt in
      so_far ∙ sym (ap (greatest least f) (kept_more p (sections_of inputs) i h.section' false h.there (fails h.section' h.is) ∙ append-nil (filter p (take i (sections_of inputs)))))

-- ---- alignments

module _ (inputs : List RelObject) where
  abbrev IsWritten : InputSection → Type 0
  IsWritten x = Contains (sections_of inputs) x × (is_writable x ≡ true)

  of_part : (which : InputSection → Bool) (x : InputSection) → Contains (writable_sections which inputs) x → IsWritten x
  of_part which x there = let from = in_filter (λ y. is_writable y && which y) (sections_of inputs) x there in (from.0, (and_parts (is_writable x) (which x) from.1).0)

  of_filled : (x : InputSection) → Contains (filled_sections inputs) x → IsWritten x
  of_filled x there =
      let starts = writable_sections (λ y. (y.section).kind == SHT_INIT_ARRAY) inputs in
      let ends = writable_sections (λ y. (y.section).kind == SHT_FINI_ARRAY) inputs in
      let others = writable_sections (λ y. not (is_array y || is_nobits y)) inputs in
      elim (Contains-append_cases starts (ends ++ others) x there) [
        | inl a ↦ of_part (λ y. (y.section).kind == SHT_INIT_ARRAY) x a
        | inr more ↦ elim (Contains-append_cases ends others x more) [
          | inl b ↦ of_part (λ y. (y.section).kind == SHT_FINI_ARRAY) x b
          | inr c ↦ of_part (λ y. not (is_array y || is_nobits y)) x c
        ]
      ]

  written : (x : InputSection) → Contains (data_sections inputs) x → IsWritten x
  written x there = elim (Contains-append_cases (filled_sections inputs) (writable_sections is_nobits inputs) x there) [ inl a ↦ of_filled x a | inr b ↦ of_part is_nobits x b ]

pub data_align : (inputs : List RelObject) → greatest_align (filter (is_of_part true) (sections_of inputs)) ≡ greatest_align (data_sections inputs)
data_align inputs =
    greatest_alike (λ x. (x.section).align) 16 (filter is_writable (sections_of inputs)) (data_sections inputs)
    (λ x there. let from = in_filter is_writable (sections_of inputs) x there in in_data_sections inputs x from.0 from.1) (λ x there. filter_in is_writable (sections_of inputs) x (written inputs x there).0 (written inputs x there).1)

-- ---- the text

pub filled_text : (inputs : List RelObject) → filter is_filled_text (sections_of inputs) ≡ filter (λ x. not (is_nobits x)) (text_sections inputs)
filled_text inputs = sym (filter-filter (λ x. not (is_writable x)) (λ x. not (is_nobits x)) (sections_of inputs))

pub filled_text_end : (mode : Mode) (inputs : List RelObject) (count : ℕ) → count ≡ length (slot_keys mode inputs) → count ≡ 0
    → greatest 0 (text_end_of inputs) (filter is_filled_text (sections_of inputs)) ≡ text_filled_end mode inputs
filled_text_end mode inputs count is none =
    let test : (length (slot_keys mode inputs) == 0) ≡ true = ap (λ n. n == 0) (sym is ∙ none) in
    ap (greatest 0 (text_end_of inputs)) (filled_text inputs)
    ∙ ap (λ b. cond b (greatest 0 (text_end_of inputs) (filter (λ x. not (is_nobits x)) (text_sections inputs))) (text_end mode inputs)) (sym test)
