-- The symbols of a linked object can be written: names, small numbers, and functions at multiples of 4 in the text.
use Rattle.std.proofs.Common.{◌≡◌, ◌≢◌, refl, ap, sym, subst, ◌∙◌, ℕ, ◌%◌, ◌^◌, ◌<◌, Bool, true, false, cond, not, ◌&&◌, ◌||◌, List, [], ◌∷◌, map, length, arith, All}
use Rattle.std.specs.Prelude.{◌==◌, nat_lt, Contains, find, filter, unwrap_or, Option, Some, None, IfSome}
use Rattle.std.specs.Option.{option_map_or}
use Rattle.std.specs.List.{list_any}
use Rattle.std.specs.Str.{bytes_eq}
use Rattle.std.proofs.lemmas.Bool.{and_parts, eqb-true, false≢true}
use Rattle.std.proofs.lemmas.Bool.Decides.{nat_tests}
use Rattle.std.proofs.lemmas.List.Elements.{All-nil, All-cons, All-contains}
use Rattle.fd_base.proofs.Finding.{find_some}
use Rattle.fd_base.proofs.Members.{all_contained, contains_at, in_filter, in_flat_map, in_map}
use Rattle.fd_base.proofs.Ranges.{is_inside}
use Rattle.elf_model.specs.declared.constants.TheConstants.{STB_LOCAL, STB_GLOBAL, STB_WEAK, STT_NOTYPE, STT_SECTION, STT_FUNC, STT_TLS, STV_DEFAULT, STV_INTERNAL, STV_HIDDEN, STV_PROTECTED}
use Rattle.elf_model.specs.declared.object.Segment.{Segment}
use Rattle.elf_model.specs.declared.object.Symbol.{Symbol}
use Rattle.elf_model.specs.declared.relocatable.RelObject.{RelObject}
use Rattle.elf_model.specs.Places.{is_held_in, is_executable_in}
use Rattle.elf_model.specs.RelSound.{IsNameText, IsSymbolSound, IsRelSound}
use Rattle.elf_model.specs.Symbols.{null_symbol}
use Rattle.elf_write.specs.WritableObject.{IsSymbolWritable, is_object_place, is_function_placed}
use Rattle.symbol_scope.proofs.Growing.{All-with_new}
use Rattle.link_model.specs.declared.input.Mode.{Mode}
use Rattle.link_model.specs.declared.target.Spot.{Spot}
use Rattle.link_model.specs.declared.target.Spot.TheVariants.{Nowhere, Absolute, Section, Common}
use Rattle.link_model.specs.declared.target.Target.{Target}
use Rattle.link_model.specs.DynamicSymbols.{is_shown, shown_targets, shown_place, is_callable, dynamic_symbol, symbols_for}
use Rattle.link_model.specs.Inputs.{InputSymbol, numbered, symbols_in, symbols_of}
use Rattle.link_model.specs.Joined.{is_joined, joined_of, name_of, names_of, of_name, first_of, definition_taken, visibility_of, all_weak}
use Rattle.link_model.specs.Places.{text_end, address_of}
use Rattle.link_model.specs.Segments.{text_segment, data_segment, segments_of}
use Rattle.link_model.specs.Targets.{is_static, is_nowhere, joined_target, name_number, target_of_name, targets_of}
use Rattle.link_model.proofs.Taken.{taken_in}
use Rattle.link_model.proofs.Naming.{names_are_numbered}
use Rattle.link_model.proofs.Numbering.{numbered_at}

-- ---- symbols of the inputs

module _ (inputs : List RelObject) (sound : All IsRelSound inputs) where
  symbol_sound : (x : InputSymbol) → Contains (symbols_of inputs) x → (n : ℕ) × IsSymbolSound n x.symbol
  symbol_sound x there =
      let from = in_flat_map symbols_in (numbered inputs) x there in
      let o = from.0 in
      let own = in_map (λ s. record { input = o.0; number = s.0; symbol = s.1 }) (numbered (o.1).symbols) x from.2 in
      let s = own.0 in
      let file = All-contains IsRelSound inputs o.1 sound (contains_at inputs o.0 o.1 (numbered_at inputs o from.1)) in
      let n = length (o.1).sections in
      let is = All-contains (IsSymbolSound n) (o.1).symbols s.1 file.sound_symbols (contains_at (o.1).symbols s.0 s.1 (numbered_at (o.1).symbols s own.1)) in
      (n, subst (IsSymbolSound n) (ap (λ (y : InputSymbol). y.symbol) own.2) is)

  -- ---- names

  text_of : (s : Symbol) (n : ℕ) → IsSymbolSound n s → is_joined s ≡ true → IsNameText (unwrap_or s.name [])
  text_of s n is joined = by s.name refl is.named is.nameless
    where
      local : s.binding ≡ STB_LOCAL → is_joined s ≡ false
      local e = ap (λ b. not (b == STB_LOCAL) && not (s.kind == STT_SECTION)) e

      by : (o : Option (List ℕ)) → s.name ≡ o → IfSome o IsNameText → (o ≡ None → s.binding ≡ STB_LOCAL) → IsNameText (unwrap_or o [])
      by None e named nameless = absurd (false≢true (sym (local (nameless refl)) ∙ joined))
      by (Some text) e named nameless = named

  pub names_are_texts : All IsNameText (names_of inputs)
  unfolding names_of
  names_are_texts =
      All-with_new bytes_eq IsNameText [] (map name_of (joined_of inputs)) (All-nil IsNameText)
      (all_contained IsNameText (map name_of (joined_of inputs)) (λ name there.
      let from = in_map name_of (joined_of inputs) name there in
      let member = in_filter (λ x. is_joined x.symbol) (symbols_of inputs) from.0 from.1 in
      let is = symbol_sound from.0 member.0 in
      subst IsNameText from.2 (text_of (from.0).symbol is.0 is.1 member.1)))

  -- ---- small numbers

  pub record IsSmall (t : Target) : Type 0 where
    pub binding : t.binding < 16
    pub kind : t.kind < 16
    pub visibility : t.visibility < 4
    pub no_tls : t.kind ≢ STT_TLS

  small_visibility : (xs : List InputSymbol) → visibility_of xs < 4
  small_visibility xs = by (find test kinds) refl
    where
      kinds : List ℕ
      kinds = STV_INTERNAL ∷ STV_HIDDEN ∷ STV_PROTECTED ∷ []

      test : ℕ → Bool
      test v = list_any (λ x. (x.symbol).visibility == v) xs

      P : ℕ → Type 0
      P v = v < 4

      all : All (λ (v : ℕ). v < 4) kinds
      all =
          All-cons (λ (v : ℕ). v < 4) STV_INTERNAL (STV_HIDDEN ∷ STV_PROTECTED ∷ []) (omega arith)
          (All-cons (λ (v : ℕ). v < 4) STV_HIDDEN (STV_PROTECTED ∷ []) (omega arith) (All-cons (λ (v : ℕ). v < 4) STV_PROTECTED [] (omega arith) (All-nil (λ (v : ℕ). v < 4))))

      by : (o : Option ℕ) → find test kinds ≡ o → unwrap_or o STV_DEFAULT < 4
      by None e = omega arith
      by (Some v) e = All-contains (λ (u : ℕ). u < 4) kinds v all (find_some test kinds v e).0

  module _ (mode : Mode) (name : List ℕ) where
    abbrev xs : List InputSymbol
    xs = of_name inputs name

    of_inputs : (x : InputSymbol) → Contains xs x → Contains (symbols_of inputs) x
    of_inputs x there =
        (in_filter (λ y. is_joined y.symbol) (symbols_of inputs) x (in_filter (λ y. bytes_eq (name_of y) name) (joined_of inputs) x there).0).0

    record IsSmallKind (kind : ℕ) : Type 0 where
      pub small : kind < 16
      pub no_tls : kind ≢ STT_TLS

    first_kind : IsSmallKind (option_map_or (λ (x : InputSymbol). (x.symbol).kind) (first_of xs) STT_NOTYPE)
    first_kind = by (first_of xs) refl
      where
        by : (o : Option InputSymbol) → first_of xs ≡ o → IsSmallKind (option_map_or (λ (x : InputSymbol). (x.symbol).kind) o STT_NOTYPE)
        by None e = record { small = omega arith; no_tls = λ is. absurd (omega (arith, is)) }
        by (Some x) e = let is = (symbol_sound x (of_inputs x (contains_at xs 0 x e))).1 in record { small = is.small_kind; no_tls = is.no_tls }

    small_binding : (b : Bool) → cond b STB_WEAK STB_GLOBAL < 16
    small_binding true = omega arith
    small_binding false = omega arith

    pub small : IsSmall (target_of_name mode inputs name)
    small = by (definition_taken xs) refl
      where
        by : (o : Option InputSymbol) → definition_taken xs ≡ o → IsSmall (joined_target mode inputs (name_number inputs name) xs o)
        by None e = record { binding = small_binding (all_weak xs); kind = first_kind.small; visibility = small_visibility xs; no_tls = first_kind.no_tls }
        by (Some x) e =
            let is = (symbol_sound x (of_inputs x (taken_in xs x e))).1 in
            let low = is.known_binding in
            record { binding = omega (arith, low); kind = is.small_kind; visibility = small_visibility xs; no_tls = is.no_tls }

  -- ---- functions

  module _ (mode : Mode) (below : text_end mode inputs < 2 ^ 32) where
    abbrev ss : List Segment
    ss = segments_of mode inputs

    executable : (v : ℕ) → v < text_end mode inputs → is_executable_in ss v ≡ true
    executable v lt = by (text_end mode inputs == 0) refl
      where
        held : is_held_in (text_segment mode inputs) v ≡ true
        held = is_inside 0 (text_end mode inputs) v (omega arith) (omega (arith, lt))

        by : (b : Bool) → (text_end mode inputs == 0) ≡ b → is_executable_in (cond b (data_segment mode inputs ∷ []) (text_segment mode inputs ∷ data_segment mode inputs ∷ [])) v ≡ true
        by true e = let none : text_end mode inputs ≡ 0 = eqb-true (text_end mode inputs) 0 e in absurd (omega (arith, none, lt))
        by false e = ap (λ b. b || is_executable_in (data_segment mode inputs ∷ []) v) held

    not_function : (is : Bool) (kind : ℕ) → (kind == STT_FUNC) ≡ is → cond is STT_NOTYPE kind ≡ STT_FUNC → false ≡ true
    not_function true kind e h = absurd (omega (arith, h))
    not_function false kind e h = let yes' : (kind == STT_FUNC) ≡ true = ap (λ k. k == STT_FUNC) h in sym e ∙ yes'

    callable : (kind : ℕ) (b : Bool) → cond (kind == STT_FUNC && (true && not b)) STT_NOTYPE kind ≡ STT_FUNC → b ≡ true
    callable kind true h = refl
    callable kind false h = by (kind == STT_FUNC) refl h
      where
        by : (c : Bool) → (kind == STT_FUNC) ≡ c → cond (c && (true && true)) STT_NOTYPE kind ≡ STT_FUNC → false ≡ true
        by true e g = not_function true kind e g
        by false e g = not_function false kind e g

    at_function : (s : Symbol) (v : ℕ) → s.value ≡ v % 2 ^ 32 → (v % 4 == 0 && nat_lt v (text_end mode inputs)) ≡ true → (s.value % 4 == 0 && is_executable_in ss s.value) ≡ true
    at_function s v is can =
        let parts = and_parts (v % 4 == 0) (nat_lt v (text_end mode inputs)) can in
        let inside = parts.1 in
        let lt : v < text_end mode inputs = grind (arith, nat_tests) in
        let same : v % 2 ^ 32 ≡ v = omega (arith, lt, below) in
        let value : s.value ≡ v = is ∙ same in
        (λ i. value i % 4 == 0 && is_executable_in ss (value i)) ∙ ap (λ b. b && is_executable_in ss v) parts.0 ∙ executable v lt

    placed_function : (spot : Spot) (s : Symbol) (kind : ℕ) → s.value ≡ address_of mode inputs spot % 2 ^ 32
        → cond (kind == STT_FUNC && (not (is_nowhere spot) && not (is_callable mode inputs spot))) STT_NOTYPE kind ≡ STT_FUNC → is_function_placed ss s (shown_place spot) ≡ true
    placed_function Nowhere s kind is h = refl
    placed_function (Absolute v) s kind is h = callable kind false h
    placed_function (Section k offset) s kind is h = at_function s (address_of mode inputs (Section k offset)) is (callable kind (is_callable mode inputs (Section k offset)) h)
    placed_function (Common k) s kind is h = at_function s (address_of mode inputs (Common k)) is (callable kind (is_callable mode inputs (Common k)) h)

    placed_object : (spot : Spot) → is_object_place (shown_place spot) ≡ true
    placed_object Nowhere = refl
    placed_object (Absolute v) = refl
    placed_object (Section k offset) = refl
    placed_object (Common k) = refl

    -- ---- each symbol

    kind_of_cond : (P : ℕ → Type 0) (b : Bool) (kind : ℕ) → P STT_NOTYPE → P kind → P (cond b STT_NOTYPE kind)
    kind_of_cond P true kind none is = none
    kind_of_cond P false kind none is = is

    named_writable : (name : List ℕ) → Contains (names_of inputs) name → IsSymbolWritable ss (dynamic_symbol mode inputs (target_of_name mode inputs name))
    named_writable name there =
        let t = target_of_name mode inputs name in
        let is = small mode name in
        let lost = t.kind == STT_FUNC && (not (is_nowhere t.spot) && not (is_callable mode inputs t.spot)) in
        record {
          named = subst (λ o. IfSome o IsNameText) (sym (names_are_numbered.names mode inputs name there)) (All-contains IsNameText (names_of inputs) name names_are_texts there);
          small_binding = is.binding;
          small_kind = kind_of_cond (λ k. k < 16) lost t.kind (omega arith) is.kind;
          small_visibility = is.visibility;
          no_tls = kind_of_cond (λ k. k ≢ STT_TLS) lost t.kind (λ e. absurd (omega (arith, e))) is.no_tls;
          placed = placed_object t.spot;
          function = placed_function t.spot (dynamic_symbol mode inputs t) t.kind refl;
        }

    null_writable : IsSymbolWritable ss null_symbol
    null_writable = record {
      named = tt;
      small_binding = omega arith;
      small_kind = omega arith;
      small_visibility = omega arith;
      no_tls = λ e. absurd (omega (arith, e));
      placed = refl;
      function = λ e. refl;
    }

    pub symbols_writable : All (IsSymbolWritable ss) (symbols_for mode inputs)
    unfolding shown_targets
    symbols_writable = by (is_static mode)
      where
        shown : List Target
        shown = filter is_shown (targets_of mode inputs)

        each : (s : Symbol) → Contains (map (dynamic_symbol mode inputs) shown) s → IsSymbolWritable ss s
        each s there =
            let from = in_map (dynamic_symbol mode inputs) shown s there in
            let listed = (in_filter is_shown (targets_of mode inputs) from.0 from.1).0 in
            let name = in_map (target_of_name mode inputs) (names_of inputs) from.0 listed in
            subst (IsSymbolWritable ss) (ap (dynamic_symbol mode inputs) name.2 ∙ from.2) (named_writable name.0 name.1)

        by : (b : Bool) → All (IsSymbolWritable ss) (cond b [] (null_symbol ∷ map (dynamic_symbol mode inputs) (cond b [] shown)))
        by true = All-nil (IsSymbolWritable ss)
        by false =
            All-cons (IsSymbolWritable ss) null_symbol (map (dynamic_symbol mode inputs) shown) null_writable
            (all_contained (IsSymbolWritable ss) (map (dynamic_symbol mode inputs) shown) each)
