-- What a symbol is that the linker settles, and the functions that have descriptors.
use Rattle.std.proofs.Common.{◌≡◌, ℕ, suc, zero, ◌+◌, ◌%◌, ◌≤◌, inl, inr, Bool, true, false, cond, not, ◌&&◌, ◌||◌, List, [], ◌∷◌, length, Option, Some, None, refl, sym, ap, ◌∙◌, arith, All}
use Rattle.std.specs.Prelude.{◌==◌, filter, nat_le, option_and_then, slice_get, unwrap_or, flat_map}
use Rattle.std.specs.Option.{option_map_or, option_or}
use Rattle.std.specs.List.{enumerate_from}
use Rattle.std.proofs.lemmas.Bool.{and_parts, false≢true, leb-true, or_parts}
use Rattle.std.proofs.lemmas.List.Elements.{All-contains}
use Rattle.std.proofs.lemmas.Option.{slice_get-map}
use Rattle.fd_base.proofs.Members.{contains_at, in_filter}
use Rattle.fd_base.proofs.Options.{from_map, none_or}
use Rattle.elf_model.specs.declared.constants.TheConstants.{SHF_EXECINSTR, STB_GLOBAL, STB_WEAK}
use Rattle.elf_model.specs.declared.object.Place.{Place}
use Rattle.elf_model.specs.declared.object.Place.TheVariants as place
use Rattle.elf_model.specs.declared.object.Symbol.{Symbol}
use Rattle.elf_model.specs.declared.relocatable.RelObject.{RelObject}
use Rattle.elf_model.specs.declared.relocatable.RelSection.{RelSection}
use Rattle.elf_model.specs.Segments.{has_flag}
use Rattle.elf_model.specs.Symbols.{null_symbol}
use Rattle.elf_model.specs.RelSound.{IsRelSound, IsSymbolSound, is_place_among}
use Rattle.link_model.specs.declared.input.Mode.{Mode}
use Rattle.link_model.specs.declared.target.Reach.TheVariants.{Settled, Nothing, Dynamic}
use Rattle.link_model.specs.declared.target.Spot.{Spot}
use Rattle.link_model.specs.declared.target.Spot.TheVariants.{Nowhere, Absolute, Section, Common}
use Rattle.link_model.specs.Inputs.{InputSection, InputSymbol, sections_in, sections_of, numbered, symbol_of}
use Rattle.link_model.specs.Joined.{commons_of, definition_taken, definitions_of, defines, first_of, is_common, is_joined, of_name, visibility_of}
use Rattle.link_model.specs.Needs.{is_dropped, is_own_undefined, is_undefined, is_unusable}
use Rattle.link_model.specs.Places.{address_of, got_end, section_place, text_end}
use Rattle.link_model.specs.Sections.{data_sections, function_address, has_section, is_code_section, is_function, is_text_section, is_writable, place_among, text_place}
use Rattle.link_model.specs.Targets.{is_absolute, is_closed, is_nowhere, joined_target, name_number, own_target, spot_of, target_of, target_of_name}
use Rattle.link_model.proofs.Placed.{in_text_sections, text_below, text_lies}

-- ---- definitions

abbrev IsDefined : Place → Type 0
IsDefined place = (defines place || is_common place) ≡ true

of_defines : (place : Place) → defines place ≡ true → IsDefined place
of_defines place is = ap (λ b. b || is_common place) is

of_common : (place : Place) → is_common place ≡ true → IsDefined place
of_common place.Common is = refl
of_common place.Undefined is = absurd cc
of_common place.Absolute is = absurd cc
of_common place.Here is = absurd cc
of_common (place.Section i) is = absurd cc
of_common place.Dropped is = absurd cc

first_passes : (p : InputSymbol → Bool) (xs : List InputSymbol) (x : InputSymbol) → first_of (filter p xs) ≡ Some x → p x ≡ true
first_passes p xs x is = (in_filter p xs x (contains_at (filter p xs) 0 x is)).1

taken_is_defined : (xs : List InputSymbol) (x : InputSymbol) → definition_taken xs ≡ Some x → IsDefined (x.symbol).place
taken_is_defined xs x is =
    from (first_of (definitions_of STB_GLOBAL xs)) (first_of (commons_of xs)) (first_of (definitions_of STB_WEAK xs))
    (λ e. of_defines (x.symbol).place (and_parts (defines (x.symbol).place) ((x.symbol).binding == STB_GLOBAL) (first_passes (λ y. defines (y.symbol).place && (y.symbol).binding == STB_GLOBAL) xs x e)).0)
    (λ e. of_common (x.symbol).place (first_passes (λ y. is_common (y.symbol).place) xs x e))
    (λ e. of_defines (x.symbol).place (and_parts (defines (x.symbol).place) ((x.symbol).binding == STB_WEAK) (first_passes (λ y. defines (y.symbol).place && (y.symbol).binding == STB_WEAK) xs x e)).0) is
  where
    from : (a b c : Option InputSymbol) → (a ≡ Some x → IsDefined (x.symbol).place) → (b ≡ Some x → IsDefined (x.symbol).place) → (c ≡ Some x → IsDefined (x.symbol).place)
        → option_or a (option_or b c) ≡ Some x → IsDefined (x.symbol).place
    from (Some y) b c f g h e = f e
    from None (Some y) c f g h e = g e
    from None None c f g h e = h e

-- ---- settled symbols are defined

spot_there : (inputs : List RelObject) (k : ℕ) (x : InputSymbol) (place : Place) → IsDefined place → is_nowhere (cond (is_common place) (Common k) (spot_of inputs x place)) ≡ false
spot_there inputs k x place.Common is = refl
spot_there inputs k x place.Undefined is = absurd cc
spot_there inputs k x place.Absolute is = refl
spot_there inputs k x place.Here is = absurd cc
spot_there inputs k x (place.Section i) is = refl
spot_there inputs k x place.Dropped is = absurd cc

own_there : (inputs : List RelObject) (x : InputSymbol) (n : ℕ) (place : Place) → is_dropped place ≡ false → (is_undefined place || is_common place) ≡ false → is_place_among n place ≡ true
    → is_nowhere (spot_of inputs x place) ≡ false
own_there inputs x n place.Common a b c = absurd cc
own_there inputs x n place.Undefined a b c = absurd cc
own_there inputs x n place.Absolute a b c = refl
own_there inputs x n place.Here a b c = absurd cc
own_there inputs x n (place.Section i) a b c = refl
own_there inputs x n place.Dropped a b c = absurd cc

module _ (mode : Mode) (inputs : List RelObject) where
  named_there : (name : List ℕ) → (target_of_name mode inputs name).reach ≡ Settled → is_nowhere (target_of_name mode inputs name).spot ≡ false
  named_there name = by (definition_taken (of_name inputs name)) refl
    where
      k : ℕ
      k = name_number inputs name

      by : (t : Option InputSymbol) → definition_taken (of_name inputs name) ≡ t → (joined_target mode inputs (name_number inputs name) (of_name inputs name) t).reach ≡ Settled
          → is_nowhere (joined_target mode inputs (name_number inputs name) (of_name inputs name) t).spot ≡ false
      by None e settled = none (is_closed mode (visibility_of (of_name inputs name))) settled
        where
          none : (b : Bool) → cond b Nothing Dynamic ≡ Settled → true ≡ false
          none true is = absurd cc
          none false is = absurd cc
      by (Some taken) e settled = spot_there inputs k taken (taken.symbol).place (taken_is_defined (of_name inputs name) taken e)

  symbol_placed : All IsRelSound inputs → (i n : ℕ) → (s : ℕ) × (is_place_among s (symbol_of inputs i n).place ≡ true)
  symbol_placed sound i n = elim (none_or (slice_get inputs i)) [
    | inl none ↦ (0, ap (λ o. is_place_among 0 (unwrap_or (option_and_then (λ (q : RelObject). slice_get q.symbols n) o) null_symbol).place) none)
    | inr file ↦ elim (none_or (slice_get (file.0).symbols n)) [
      | inl none ↦ (0, ap (λ o. is_place_among 0 (unwrap_or (option_and_then (λ (q : RelObject). slice_get q.symbols n) o) null_symbol).place) file.1 ∙ ap (λ o. is_place_among 0 (unwrap_or o null_symbol).place) none)
      | inr own ↦
          let o = file.0 in
          let size = length o.sections in
          let is = All-contains IsRelSound inputs o sound (contains_at inputs i o file.1) in
          let placed' = (All-contains (IsSymbolSound size) o.symbols own.0 is.sound_symbols (contains_at o.symbols n own.0 own.1)).placed in (
            size,
            ap (λ q. is_place_among size (unwrap_or (option_and_then (λ (r : RelObject). slice_get r.symbols n) q) null_symbol).place) file.1
                ∙ ap (λ q. is_place_among size (unwrap_or q null_symbol).place) own.1 ∙ placed',
          )
    ]
  ]

  pub settled_there : All IsRelSound inputs → (i n : ℕ) → is_unusable (symbol_of inputs i n) ≡ false → (target_of mode inputs i n).reach ≡ Settled → is_nowhere (target_of mode inputs i n).spot ≡ false
  unfolding target_of
  settled_there sound i n usable = by (is_joined s) refl
    where
      s : Symbol
      s = symbol_of inputs i n

      name : List ℕ
      name = unwrap_or (symbol_of inputs i n).name []

      x : InputSymbol
      x = record { input = i; number = n; symbol = symbol_of inputs i n }

      by : (b : Bool) → is_joined (symbol_of inputs i n) ≡ b → (cond b (target_of_name mode inputs name) (own_target inputs x)).reach ≡ Settled
          → is_nowhere (cond b (target_of_name mode inputs name) (own_target inputs x)).spot ≡ false
      by true joined settled = named_there name settled
      by false own settled =
          let parts = or_parts (is_dropped s.place) (is_own_undefined s) usable in
          let place = symbol_placed sound i n in
          own_there inputs x place.0 s.place parts.0 (sym (ap (λ b. not b && (is_undefined s.place || is_common s.place)) own) ∙ parts.1) place.1

-- ---- functions

numbered_place : {X : Type 0} (n k : ℕ) (xs : List X) (e : ℕ × X) → slice_get (enumerate_from n xs) k ≡ Some e → e.0 ≡ n + k
numbered_place n k [] e is = absurd cc
numbered_place n zero (x ∷ xs) e is =
    let same : (n, x) ≡ e = cc in
    let number : n ≡ e.0 = ap (λ q. q.0) same in
    omega (arith, number)
numbered_place n (suc k) (x ∷ xs) e is = let rest = numbered_place (n + 1) k xs e is in omega (arith, rest)

abbrev made : ℕ × (ℕ × ℕ × RelSection) → InputSection
made e = record { index = e.0; input = (e.1).0; number = (e.1).1; section = (e.1).2 }

-- a section stands at its own number
pub number_is : (inputs : List RelObject) (k : ℕ) (x : InputSection) → slice_get (sections_of inputs) k ≡ Some x → x.index ≡ k
number_is inputs k x is =
    let parts = flat_map sections_in (numbered inputs) in
    let from = from_map made (slice_get (numbered parts) k) x (sym (slice_get-map made (numbered parts) k) ∙ is) in
    let number = numbered_place 0 k parts from.0 from.1 in
    ap (λ (y : InputSection). y.index) (sym from.2) ∙ omega (arith, number)

-- a function lies in the text
pub record IsOfText (mode : Mode) (inputs : List RelObject) (spot : Spot) : Type 0 where
  pub off : is_absolute spot ≡ false
  pub address : address_of mode inputs spot ≡ function_address inputs spot
  pub below : function_address inputs spot ≤ text_end mode inputs

pub function_of_text : (mode : Mode) (inputs : List RelObject) (spot : Spot) → is_function inputs spot ≡ true → IsOfText mode inputs spot
unfolding section_place
function_of_text mode inputs Nowhere is = absurd cc
function_of_text mode inputs (Absolute v) is = absurd cc
function_of_text mode inputs (Common k) is = absurd cc
function_of_text mode inputs (Section k offset) is =
    let fits = has_section inputs k (λ x. nat_le offset (x.section).size) in
    let whole = (text_place inputs k + offset) % 4 == 0 in
    let parts = and_parts (is_code_section inputs k) (fits && whole) is in
    let size = (and_parts fits whole parts.1).0 in
    elim (none_or (slice_get (sections_of inputs) k)) [
      | inl none ↦ absurd (false≢true (sym (ap (λ o. option_map_or (λ x. nat_le offset (x.section).size) o false) none) ∙ size))
      | inr at ↦
          let x = at.0 in
          let code : (not (is_writable x) && has_flag (x.section).flags SHF_EXECINSTR) ≡ true =
          sym (ap (λ o. option_map_or (λ y. not (is_writable y) && has_flag (y.section).flags SHF_EXECINSTR) o false) at.1) ∙ parts.0 in
          let text = (and_parts (not (is_writable x)) (has_flag (x.section).flags SHF_EXECINSTR) code).0 in
          let le : nat_le offset (x.section).size ≡ true = sym (ap (λ o. option_map_or (λ y. nat_le offset (y.section).size) o false) at.1) ∙ size in
          let own = contains_at (sections_of inputs) k x at.1 in
          let lies = text_lies inputs x (in_text_sections inputs x own (unwritten (is_writable x) text)) in
          let number = number_is inputs k x at.1 in
          let place : text_place inputs x.index ≡ text_place inputs k = ap (text_place inputs) number in
          let in_text : is_text_section inputs k ≡ true = ap (λ o. option_map_or (λ y. not (is_writable y)) o false) at.1 ∙ text in
          record {
            off = refl;
            address = ap (λ b. cond b (text_place inputs k) (place_among (got_end mode inputs) (data_sections inputs) k) + offset) in_text;
            below = let small = leb-true offset (x.section).size le in omega (arith, lies.to, place, small, text_below mode inputs);
          }
    ]
  where
    unwritten : (b : Bool) → not b ≡ true → b ≡ false
    unwritten true e = absurd cc
    unwritten false e = refl
