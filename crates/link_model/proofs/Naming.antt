-- Names at their numbers, and symbols at theirs.
use Rattle.std.proofs.Common.{◌≡◌, ◌≢◌, ℕ, suc, ◌+◌, inl, inr, Bool, true, false, cond, List, [], ◌∷◌, map, filter, Option, Some, None, refl, ap, sym, subst, ◌∙◌, arith, AllPairs}
use Rattle.std.specs.Prelude.{slice_get, option_map, option_and_then, unwrap_or, position, Contains}
use Rattle.std.specs.Str.{bytes_eq}
use Rattle.std.proofs.lemmas.Bool.{false≢true}
use Rattle.std.proofs.lemmas.Option.{slice_get-map}
use Rattle.std.proofs.lemmas.Slice.Eq.{bytes_eq-Decides}
use Rattle.fd_base.proofs.Members.{contains_at, filter_in, in_filter, flat_map_in, map_in, in_map}
use Rattle.fd_base.proofs.Options.{none_or, one_value}
use Rattle.elf_model.specs.declared.object.Symbol.{Symbol}
use Rattle.elf_model.specs.declared.relocatable.RelObject.{RelObject}
use Rattle.elf_model.specs.Symbols.{null_symbol}
use Rattle.link_model.specs.declared.input.Mode.{Mode}
use Rattle.link_model.specs.declared.target.Key.{Key}
use Rattle.link_model.specs.declared.target.Key.TheVariants.{Name, Own}
use Rattle.link_model.specs.declared.target.Target.{Target}
use Rattle.link_model.specs.DynamicSymbols.{is_shown, shown_targets, symbol_index, dynamic_symbol, symbols_for}
use Rattle.link_model.specs.Inputs.{InputSymbol, numbered, symbols_in, symbols_of, symbol_of}
use Rattle.link_model.specs.Joined.{is_joined, joined_of, name_of, names_of, of_name, definition_taken}
use Rattle.link_model.specs.Targets.{is_static, joined_target, name_number, targets_of, target_of, target_of_name, target_of_key, own_target, name_of_key, is_same_key}
use Rattle.link_model.specs.parts.Laws.{NamesAreNumbered}
use Rattle.link_model.proofs.Needed.{same_key}
use Rattle.link_model.proofs.Numbering.{in_numbered}
use Rattle.link_model.proofs.Positions.{at_position, position_of, in_firsts, firsts_once}

module _ (inputs : List RelObject) where
  once : AllPairs (λ a b. a ≢ b) (names_of inputs)
  unfolding names_of
  once = firsts_once bytes_eq bytes_eq-Decides (map name_of (joined_of inputs))

  -- ---- symbols of the inputs

  in_symbols : (i n : ℕ) (o : RelObject) (s : Symbol) → slice_get inputs i ≡ Some o → slice_get o.symbols n ≡ Some s → Contains (symbols_of inputs) (record { input = i; number = n; symbol = s })
  in_symbols i n o s file is =
      flat_map_in symbols_in (numbered inputs) (i, o) (record { input = i; number = n; symbol = s }) (in_numbered inputs i o file)
      (map_in (λ e. record { input = i; number = e.0; symbol = e.1 }) (numbered o.symbols) (n, s) (in_numbered o.symbols n s is))

  -- a symbol that is none of the inputs' is the null symbol, which has no name
  from_inputs : (i n : ℕ) → is_joined (symbol_of inputs i n) ≡ true → Contains (symbols_of inputs) (record { input = i; number = n; symbol = symbol_of inputs i n })
  from_inputs i n joined = elim (none_or (slice_get inputs i)) [
    | inl none ↦ absurd (no_null (ap (λ o. unwrap_or (option_and_then (λ q. slice_get q.symbols n) o) null_symbol) none))
    | inr file ↦ elim (none_or (slice_get (file.0).symbols n)) [
      | inl none ↦ absurd (no_null (ap (λ o. unwrap_or (option_and_then (λ q. slice_get q.symbols n) o) null_symbol) file.1 ∙ ap (λ o. unwrap_or o null_symbol) none))
      | inr own ↦
          let is : own.0 ≡ symbol_of inputs i n = sym (ap (λ o. unwrap_or (option_and_then (λ q. slice_get q.symbols n) o) null_symbol) file.1 ∙ ap (λ o. unwrap_or o null_symbol) own.1) in
          subst (λ s. Contains (symbols_of inputs) (record { input = i; number = n; symbol = s })) is (in_symbols i n file.0 own.0 file.1 own.1)
    ]
  ]
    where
      no_null : symbol_of inputs i n ≡ null_symbol → ⊥
      no_null is = false≢true (sym (ap is_joined is) ∙ joined)

  listed : (i n : ℕ) → is_joined (symbol_of inputs i n) ≡ true → Contains (names_of inputs) (unwrap_or (symbol_of inputs i n).name [])
  unfolding names_of
  listed i n joined =
      let x : InputSymbol = record { input = i; number = n; symbol = symbol_of inputs i n } in
      in_firsts bytes_eq bytes_eq-Decides (map name_of (joined_of inputs)) (name_of x) (map_in name_of (joined_of inputs) x (filter_in (λ y. is_joined y.symbol) (symbols_of inputs) x (from_inputs i n joined) joined))

  -- ---- names

  pub named : (name : List ℕ) → Contains (names_of inputs) name → slice_get (names_of inputs) (name_number inputs name) ≡ Some name
  named name there = at_position bytes_eq bytes_eq-Decides (names_of inputs) name there

number : Key → ℕ
number (Name k) = k
number (Own i n) = 0

module _ (mode : Mode) (inputs : List RelObject) where
  key_of_name : (name : List ℕ) → (target_of_name mode inputs name).key ≡ Name (name_number inputs name)
  key_of_name name = by (definition_taken (of_name inputs name))
    where
      by : (o : Option InputSymbol) → (joined_target mode inputs (name_number inputs name) (of_name inputs name) o).key ≡ Name (name_number inputs name)
      by None = refl
      by (Some taken) = refl

  back : (name : List ℕ) → Contains (names_of inputs) name → target_of_key mode inputs (target_of_name mode inputs name).key ≡ target_of_name mode inputs name
  back name there = ap (target_of_key mode inputs) (key_of_name name) ∙ ap (λ o. target_of_name mode inputs (unwrap_or o [])) (named inputs name there)

  keys : (i n : ℕ) → target_of_key mode inputs (target_of mode inputs i n).key ≡ target_of mode inputs i n
  unfolding target_of
  keys i n = by (is_joined (symbol_of inputs i n)) refl
    where
      s : Symbol
      s = symbol_of inputs i n

      name : List ℕ
      name = unwrap_or (symbol_of inputs i n).name []

      own : Target
      own = own_target inputs (record { input = i; number = n; symbol = symbol_of inputs i n })

      by : (b : Bool) → is_joined (symbol_of inputs i n) ≡ b → target_of_key mode inputs (target_of mode inputs i n).key ≡ target_of mode inputs i n
      by true e =
          let is : target_of mode inputs i n ≡ target_of_name mode inputs name = ap (λ b. cond b (target_of_name mode inputs name) own) e in
          ap (λ (t : Target). target_of_key mode inputs t.key) is ∙ back name (listed inputs i n e) ∙ sym is
      by false e =
          let is : target_of mode inputs i n ≡ own = ap (λ b. cond b (target_of_name mode inputs name) own) e in
          ap (λ (t : Target). target_of_key mode inputs t.key) is

  -- ---- symbols of the loader

  shown : (name : List ℕ) → is_static mode ≡ false → Contains (names_of inputs) name → is_shown (target_of_name mode inputs name) ≡ true
      → slice_get (symbols_for mode inputs) (symbol_index mode inputs (target_of_name mode inputs name).key) ≡ Some (dynamic_symbol mode inputs (target_of_name mode inputs name))
  unfolding shown_targets number
  shown name dynamic there passes =
      let t = target_of_name mode inputs name in
      let all = filter is_shown (targets_of mode inputs) in
      let list : shown_targets mode inputs ≡ all = ap (λ b. cond b [] all) dynamic in
      let member = filter_in is_shown (targets_of mode inputs) t (map_in (target_of_name mode inputs) (names_of inputs) name there) passes in
      let p = position_of (λ u. is_same_key t.key u.key) all t member ((same_key t.key t.key).1 refl) in
      let one : p.thing ≡ t = only p.thing (in_filter is_shown (targets_of mode inputs) p.thing (contains_at all p.place p.thing p.there)).0 ((same_key t.key (p.thing).key).0 p.passes) in
      let index : symbol_index mode inputs t.key ≡ 1 + p.place = ap (λ ts. 1 + unwrap_or (position (λ u. is_same_key t.key u.key) ts) 0) list ∙ ap (λ k. 1 + k) p.is in
      let place : 1 + p.place ≡ suc p.place = omega arith in
      let table : symbols_for mode inputs ≡ null_symbol ∷ map (dynamic_symbol mode inputs) all =
      ap (λ b. cond b [] (null_symbol ∷ map (dynamic_symbol mode inputs) (shown_targets mode inputs))) dynamic ∙ ap (λ ts. null_symbol ∷ map (dynamic_symbol mode inputs) ts) list in
      (λ i. slice_get (table i) ((index ∙ place) i))
      ∙ slice_get-map (dynamic_symbol mode inputs) all p.place ∙ ap (option_map (dynamic_symbol mode inputs)) p.there ∙ ap (λ u. Some (dynamic_symbol mode inputs u)) one
    where
      only : (u : Target) → Contains (targets_of mode inputs) u → (target_of_name mode inputs name).key ≡ u.key → u ≡ target_of_name mode inputs name
      only u in' same =
          let from = in_map (target_of_name mode inputs) (names_of inputs) u in' in
          let key : Name (name_number inputs name) ≡ Name (name_number inputs from.0) = sym (key_of_name name) ∙ same ∙ ap (λ (v : Target). v.key) (sym from.2) ∙ key_of_name from.0 in
          let place : name_number inputs name ≡ name_number inputs from.0 = ap number key in
          let is : name ≡ from.0 = one_value (slice_get (names_of inputs) (name_number inputs name)) name from.0 (named inputs name there) (ap (slice_get (names_of inputs)) place ∙ named inputs from.0 from.1) in
          sym from.2 ∙ ap (target_of_name mode inputs) (sym is)

  name_shown : (name : List ℕ) → Contains (names_of inputs) name → (dynamic_symbol mode inputs (target_of_name mode inputs name)).name ≡ Some name
  name_shown name there = ap (name_of_key inputs) (key_of_name name) ∙ named inputs name there

pub names_are_numbered : NamesAreNumbered
names_are_numbered = record { once = once; listed = listed; numbers = named; keys = keys; shown = shown; names = name_shown }
