-- The sections of arrays of functions, and where these lie.
use Rattle.std.proofs.Common.{◌≡◌, ℕ, ◌+◌, ◌-◌, ◌^◌, ◌<◌, ◌≤◌, ◌≢◌, ◌⊎◌, inl, inr, Bool, true, false, cond, not, ◌&&◌, ◌||◌, List, [], ◌∷◌, ◌++◌, length, map, filter, Option, Some, None, refl, ap, sym, ◌∙◌, arith, All}
use Rattle.std.specs.Prelude.{◌==◌, nat_lt, slice_get, option_map, Contains}
use Rattle.std.specs.Option.{option_map_or}
use Rattle.std.specs.List.{last_or}
use Rattle.std.proofs.lemmas.Bool.Decides.{nat_tests}
use Rattle.std.proofs.lemmas.List.{length-map, map-append, append-nil}
use Rattle.std.proofs.lemmas.List.Elements.{filter-append, filter_agree}
use Rattle.std.proofs.lemmas.Option.{slice_get-map}
use Rattle.fd_base.proofs.Members.{all_contained, in_filter, in_map}
use Rattle.std.proofs.lemmas.List.Elements.{Contains-append_cases}
use Rattle.elf_model.specs.declared.constants.TheConstants.{SHT_INIT_ARRAY, SHT_FINI_ARRAY, SHT_NOBITS}
use Rattle.elf_model.specs.declared.object.Extent.{Extent}
use Rattle.elf_model.specs.declared.relocatable.RelObject.{RelObject}
use Rattle.link_model.specs.declared.input.Mode.{Mode}
use Rattle.link_model.specs.Inputs.{InputSection, sections_of}
use Rattle.link_model.specs.Object.{extent_of, sections_of_kind}
use Rattle.link_model.specs.Places.{section_place, data_end}
use Rattle.link_model.specs.Sections.{is_writable, is_nobits, is_array, text_sections, writable_sections, filled_sections}
use Rattle.link_places.specs.declared.heads.SectionHead.{SectionHead}
use Rattle.link_places.specs.parts.Heads.{head_of, heads_of}
use Rattle.link_places.proofs.Sectioned.{filter-map}
use Rattle.link_object.specs.parts.Arrays.{is_of_kind, EndsLow, IsArrayKind}
use Rattle.link_object.proofs.Filed.{section_below}

-- ---- lists

last_at : {X : Type 0} (x : X) (xs : List X) → last_or (Some x) xs ≡ slice_get (x ∷ xs) (length xs)
last_at x [] = refl
last_at x (y ∷ ys) = last_at y ys

map_or-map : {X Y Z : Type 0} (f : X → Y) (g : Y → Z) (o : Option X) (d : Z) → option_map_or g (option_map f o) d ≡ option_map_or (λ x. g (f x)) o d
map_or-map f g None d = refl
map_or-map f g (Some x) d = refl

pub filter-filter : {X : Type 0} (p q : X → Bool) (xs : List X) → filter q (filter p xs) ≡ filter (λ x. p x && q x) xs
filter-filter p q [] = refl
filter-filter p q (x ∷ xs) = by (p x) (filter-filter p q xs)
  where
    by : (b : Bool) → filter q (filter p xs) ≡ filter (λ y. p y && q y) xs → filter q (cond b (x ∷ filter p xs) (filter p xs)) ≡ cond (b && q x) (x ∷ filter (λ y. p y && q y) xs) (filter (λ y. p y && q y) xs)
    by true rest = ap (λ l. cond (q x) (x ∷ l) l) rest
    by false rest = rest

filter_none : {X : Type 0} (p : X → Bool) → ((x : X) → p x ≡ false) → (xs : List X) → filter p xs ≡ []
filter_none p none [] = refl
filter_none p none (x ∷ xs) = ap (λ b. cond b (x ∷ filter p xs) (filter p xs)) (none x) ∙ filter_none p none xs

-- ---- an extent

module _ (mode : Mode) (inputs : List RelObject) where
  abbrev end_at : SectionHead → ℕ
  end_at h = section_place mode inputs h.index + h.size

  abbrev between : ℕ → ℕ → Option Extent
  between low high = cond (nat_lt low high) (Some (record { addr = low; size = high - low })) None

  extent_between : (xs : List InputSection) (hs : List SectionHead) (first last : SectionHead) → hs ≡ map head_of xs → Some first ≡ slice_get hs 0 → Some last ≡ slice_get hs (length hs - 1)
      → between (section_place mode inputs first.index) (end_at last) ≡ extent_of mode inputs xs
  extent_between [] hs first last is at end = let none : Some first ≡ None = at ∙ ap (λ l. slice_get l 0) is in absurd cc
  extent_between (x ∷ xs) hs first last is at end =
      let front : Some first ≡ Some (head_of x) = at ∙ ap (λ l. slice_get l 0) is in
      let same : first ≡ head_of x = cc in
      let count : length hs - 1 ≡ length xs = let all : length hs ≡ length (x ∷ xs) = ap length is ∙ length-map (x ∷ xs) head_of in omega (arith, all) in
      let back : Some last ≡ option_map head_of (slice_get (x ∷ xs) (length xs)) = end ∙ (λ i. slice_get (is i) (count i)) ∙ slice_get-map head_of (x ∷ xs) (length xs) in
      let high : end_at last ≡ option_map_or (λ y. section_place mode inputs y.index + (y.section).size) (last_or (Some x) xs) 0 =
      ap (λ o. option_map_or end_at o 0) (back ∙ ap (option_map head_of) (sym (last_at x xs))) ∙ map_or-map head_of end_at (last_or (Some x) xs) 0 in
      λ i. between (section_place mode inputs (same i).index) (high i)

  pub no_extent : (xs : List InputSection) (hs : List SectionHead) (first last : SectionHead) (low high : ℕ) → hs ≡ map head_of xs → Some first ≡ slice_get hs 0 → Some last ≡ slice_get hs (length hs - 1)
      → low ≡ section_place mode inputs first.index → high ≡ end_at last → high ≤ low → None ≡ extent_of mode inputs xs
  no_extent xs hs first last low high is at end low' high' le =
      let off : nat_lt low high ≡ false = grind (arith, nat_tests) in
      ap (λ b. cond b (Some (record { addr = low; size = high - low })) None) (sym off) ∙ (λ i. between (low' i) (high' i)) ∙ extent_between xs hs first last is at end

  pub some_extent : (xs : List InputSection) (hs : List SectionHead) (first last : SectionHead) (low high : ℕ) → hs ≡ map head_of xs → Some first ≡ slice_get hs 0 → Some last ≡ slice_get hs (length hs - 1)
      → low ≡ section_place mode inputs first.index → high ≡ end_at last → low < high → Some (record { addr = low; size = high - low }) ≡ extent_of mode inputs xs
  some_extent xs hs first last low high is at end low' high' lt =
      let on : nat_lt low high ≡ true = grind (arith, nat_tests) in
      ap (λ b. cond b (Some (record { addr = low; size = high - low })) None) (sym on) ∙ (λ i. between (low' i) (high' i)) ∙ extent_between xs hs first last is at end

  -- ---- where sections end

  pub head_low : data_end mode inputs < 2 ^ 32 → (h : SectionHead) → Contains (heads_of inputs) h → EndsLow mode inputs h
  head_low small h there =
      let from = in_map head_of (sections_of inputs) h there in
      let low = section_below mode inputs from.0 from.1 in
      let same : end_at (head_of from.0) ≡ end_at h = ap end_at from.2 in
      omega (arith, low, same, small)

  pub heads_low : data_end mode inputs < 2 ^ 32 → (p q : SectionHead → Bool) → All (EndsLow mode inputs) (filter p (heads_of inputs) ++ filter q (heads_of inputs))
  heads_low small p q = all_contained (EndsLow mode inputs) (filter p (heads_of inputs) ++ filter q (heads_of inputs)) (λ h there. head_low small h (of h (Contains-append_cases (filter p (heads_of inputs)) (filter q (heads_of inputs)) h there)))
    where
      of : (h : SectionHead) → Contains (filter p (heads_of inputs)) h ⊎ Contains (filter q (heads_of inputs)) h → Contains (heads_of inputs) h
      of h (inl a) = (in_filter p (heads_of inputs) h a).0
      of h (inr b) = (in_filter q (heads_of inputs) h b).0

-- ---- the sections of an array

module _ (inputs : List RelObject) (kind : ℕ) where
  abbrev has_kind : InputSection → Bool
  has_kind x = (x.section).kind == kind

  abbrev in_array : Bool → InputSection → Bool
  in_array writable x = is_of_kind kind writable (head_of x)

  turned : (a b : Bool) → (a && b) ≡ (b && a)
  turned true true = refl
  turned true false = refl
  turned false true = refl
  turned false false = refl

  in_text : filter has_kind (text_sections inputs) ≡ filter (in_array false) (sections_of inputs)
  in_text =
      filter-filter (λ x. not (is_writable x)) has_kind (sections_of inputs)
      ∙ filter_agree (λ x. not (is_writable x) && has_kind x) (in_array false) (λ x. turned (not (is_writable x)) (has_kind x)) (sections_of inputs)

  of_part : (which : InputSection → Bool) → ((x : InputSection) → ((is_writable x && which x) && has_kind x) ≡ in_array true x) → filter has_kind (writable_sections which inputs) ≡ filter (in_array true) (sections_of inputs)
  of_part which same = filter-filter (λ x. is_writable x && which x) has_kind (sections_of inputs) ∙ filter_agree (λ x. (is_writable x && which x) && has_kind x) (in_array true) same (sections_of inputs)

  no_part : (which : InputSection → Bool) → ((x : InputSection) → ((is_writable x && which x) && has_kind x) ≡ false) → filter has_kind (writable_sections which inputs) ≡ []
  no_part which none = filter-filter (λ x. is_writable x && which x) has_kind (sections_of inputs) ∙ filter_none (λ x. (is_writable x && which x) && has_kind x) none (sections_of inputs)

  pub of_kind_is : IsArrayKind kind → sections_of_kind inputs kind ≡ filter (in_array false) (sections_of inputs) ++ filter (in_array true) (sections_of inputs)
  of_kind_is is =
      let starts = writable_sections (λ x. (x.section).kind == SHT_INIT_ARRAY) inputs in
      let ends = writable_sections (λ x. (x.section).kind == SHT_FINI_ARRAY) inputs in
      let others = writable_sections (λ x. not (is_array x || is_nobits x)) inputs in
      let zeros = writable_sections is_nobits inputs in
      filter-append has_kind (text_sections inputs) (filled_sections inputs ++ zeros)
      ∙ (λ i. in_text i ++ filter-append has_kind (filled_sections inputs) zeros i)
      ∙ ap (λ l. filter (in_array false) (sections_of inputs) ++ (l ++ filter has_kind zeros)) (filter-append has_kind starts (ends ++ others) ∙ ap (λ l. filter has_kind starts ++ l) (filter-append has_kind ends others))
      ∙ ap (λ l. filter (in_array false) (sections_of inputs) ++ l) (data_of is)
    where
      rest_none : filter has_kind (writable_sections (λ x. not (is_array x || is_nobits x)) inputs) ≡ [] → filter has_kind (writable_sections is_nobits inputs) ≡ []
          → (a b : List InputSection) → (a ++ (b ++ filter has_kind (writable_sections (λ x. not (is_array x || is_nobits x)) inputs))) ++ filter has_kind (writable_sections is_nobits inputs) ≡ a ++ b
      rest_none others zeros a b = rw (others, zeros, append-nil, append-nil) refl

      other : (w : Bool) (n : ℕ) → ((w && not (((n == SHT_INIT_ARRAY) || (n == SHT_FINI_ARRAY)) || (n == SHT_NOBITS))) && (n == kind)) ≡ false
      other w n = elim is [ inl a ↦ grind (arith, nat_tests) | inr b ↦ grind (arith, nat_tests) ]

      zero_kind : (w : Bool) (n : ℕ) → ((w && (n == SHT_NOBITS)) && (n == kind)) ≡ false
      zero_kind w n = elim is [ inl a ↦ grind (arith, nat_tests) | inr b ↦ grind (arith, nat_tests) ]

      own : (w : Bool) (n : ℕ) → ((w && (n == kind)) && (n == kind)) ≡ ((n == kind) && w)
      own w n = by w (n == kind)
        where
          by : (a b : Bool) → ((a && b) && b) ≡ (b && a)
          by true true = refl
          by true false = refl
          by false true = refl
          by false false = refl

      apart : (w : Bool) (n k : ℕ) → k ≢ kind → ((w && (n == k)) && (n == kind)) ≡ false
      apart w n k ne = grind (arith, nat_tests)

      data_of : IsArrayKind kind → (filter has_kind (writable_sections (λ x. (x.section).kind == SHT_INIT_ARRAY) inputs) ++ (filter has_kind (writable_sections (λ x. (x.section).kind == SHT_FINI_ARRAY) inputs) ++ filter has_kind (writable_sections (λ x. not (is_array x || is_nobits x)) inputs))) ++ filter has_kind (writable_sections is_nobits inputs)
          ≡ filter (in_array true) (sections_of inputs)
      data_of k =
          rest_none (no_part (λ x. not (is_array x || is_nobits x)) (λ x. other (is_writable x) (x.section).kind)) (no_part is_nobits (λ x. zero_kind (is_writable x) (x.section).kind))
          (filter has_kind (writable_sections (λ x. (x.section).kind == SHT_INIT_ARRAY) inputs)) (filter has_kind (writable_sections (λ x. (x.section).kind == SHT_FINI_ARRAY) inputs))
          ∙ elim k [
            | inl a ↦
                (λ i. of_part (λ x. (x.section).kind == SHT_INIT_ARRAY) (λ x. ap (λ m. (is_writable x && ((x.section).kind == m)) && has_kind x) (sym a) ∙ own (is_writable x) (x.section).kind) i
                ++ no_part (λ x. (x.section).kind == SHT_FINI_ARRAY) (λ x. apart (is_writable x) (x.section).kind SHT_FINI_ARRAY (λ e. absurd (omega (arith, a, e)))) i)
                ∙ append-nil (filter (in_array true) (sections_of inputs))
            | inr b ↦
                (λ i. no_part (λ x. (x.section).kind == SHT_INIT_ARRAY) (λ x. apart (is_writable x) (x.section).kind SHT_INIT_ARRAY (λ e. absurd (omega (arith, b, e)))) i
                ++ of_part (λ x. (x.section).kind == SHT_FINI_ARRAY) (λ x. ap (λ m. (is_writable x && ((x.section).kind == m)) && has_kind x) (sym b) ∙ own (is_writable x) (x.section).kind) i)
          ]

  pub heads_are : IsArrayKind kind → filter (is_of_kind kind false) (heads_of inputs) ++ filter (is_of_kind kind true) (heads_of inputs) ≡ map head_of (sections_of_kind inputs kind)
  heads_are is =
      (λ i. filter-map head_of (is_of_kind kind false) (sections_of inputs) i ++ filter-map head_of (is_of_kind kind true) (sections_of inputs) i)
      ∙ sym (map-append head_of (filter (in_array false) (sections_of inputs)) (filter (in_array true) (sections_of inputs))) ∙ ap (map head_of) (sym (of_kind_is is))
