-- The numbers of a linked object fit the fields of its file.
use Rattle.std.proofs.Common.{◌≡◌, refl, ap, sym, ◌∙◌, subst, ℕ, zero, suc, ◌+◌, ◌-◌, ◌%◌, ◌^◌, ◌<◌, ◌≤◌, Bool, true, false, cond, not, ◌&&◌, List, [], ◌∷◌, ◌++◌, map, arith, All}
use Rattle.std.specs.Prelude.{◌==◌, nat_lt, nat_le, slice_get, Contains, filter, Option, Some, None, IfSome}
use Rattle.std.specs.Option.{option_map_or}
use Rattle.std.specs.List.{enumerate_from, flat_map, last_or}
use Rattle.std.proofs.lemmas.Bool.{and_parts}
use Rattle.std.proofs.lemmas.Bool.Decides.{nat_tests}
use Rattle.std.proofs.lemmas.List.Elements.{All-nil, All-cons, All-append, All-contains}
use Rattle.std.proofs.lemmas.Option.{slice_get-map}
use Rattle.fd_base.proofs.Members.{all_contained, contains_at, in_filter, in_map, contains_first, contains_later}
use Rattle.fd_base.proofs.Options.{from_map}
use Rattle.elf_model.specs.declared.constants.TheConstants.{SHT_INIT_ARRAY, SHT_FINI_ARRAY}
use Rattle.elf_model.specs.declared.object.Rel.{Rel}
use Rattle.elf_model.specs.declared.object.Segment.{Segment}
use Rattle.elf_model.specs.declared.object.Symbol.{Symbol}
use Rattle.elf_model.specs.declared.relocatable.RelObject.{RelObject}
use Rattle.elf_model.specs.RelSound.{IsRelSound}
use Rattle.elf_model.specs.Symbols.{null_symbol}
use Rattle.elf_model.specs.Test.{first_failing}
use Rattle.write_laws.specs.ObjectReadBack.{IsWord, IsExtentFit, FitsObjectFields}
use Rattle.link_model.specs.declared.error.LinkRefusal.TheVariants.{NoEntry}
use Rattle.link_model.specs.declared.input.Lib.{Lib}
use Rattle.link_model.specs.declared.input.Mode.{Mode}
use Rattle.link_model.specs.declared.target.Spot.{Spot}
use Rattle.link_model.specs.declared.target.Spot.TheVariants.{Nowhere, Absolute, Section, Common}
use Rattle.link_model.specs.declared.target.Target.{Target}
use Rattle.link_model.specs.DynamicRels.{dynamic_rels, rels_for, jmprels_for, fixups_for}
use Rattle.link_model.specs.DynamicSymbols.{dynamic_symbol, shown_targets, symbols_for}
use Rattle.link_model.specs.Inputs.{InputSection, numbered, sections_in, sections_of, all_rels}
use Rattle.link_model.specs.Object.{object_of, extent_of, sections_of_kind, start_target}
use Rattle.link_model.specs.Places.{data_end, section_place, address_of}
use Rattle.link_model.specs.Refusals.{entry_tests}
use Rattle.link_model.specs.Sections.{text_sections, data_sections, has_section, is_code_section, is_function, text_place}
use Rattle.link_model.specs.Targets.{is_shared, is_static}
use Rattle.link_places.specs.parts.Heads.{made}
use Rattle.link_writes.proofs.Fields.{clear, typed}
use Rattle.link_writes.proofs.Segmented.{of_both, some_data}
use Rattle.link_writes.proofs.Sites.{IsFillable, dynamic_fillable, slots_fillable}
use Rattle.link_writes.proofs.Tested.{IsPassed, head_holds}
use Rattle.link_object.proofs.Filed.{section_below}

-- ---- the section of a number

number_of : {X : Type 0} (n k : ℕ) (xs : List X) (e : ℕ × X) → slice_get (enumerate_from n xs) k ≡ Some e → e.0 ≡ n + k
number_of n k [] e is = absurd cc
number_of {X = X} n zero (x ∷ xs) e is =
    let first : (n, x) ≡ e = cc in
    let number : n ≡ e.0 = ap (λ (p : ℕ × X). p.0) first in
    omega (arith, number)
number_of n (suc k) (x ∷ xs) e is = let rest = number_of (n + 1) k xs e is in omega (arith, rest)

section_number : (inputs : List RelObject) (k : ℕ) (x : InputSection) → slice_get (sections_of inputs) k ≡ Some x → x.index ≡ k
section_number inputs k x is =
    let from = from_map made (slice_get (numbered (flat_map sections_in (numbered inputs))) k) x (sym (slice_get-map made (numbered (flat_map sections_in (numbered inputs))) k) ∙ is) in
    let number = number_of 0 k (flat_map sections_in (numbered inputs)) from.0 from.1 in
    let index : (from.0).0 ≡ x.index = ap (λ (y : InputSection). y.index) from.2 in
    omega (arith, number, index)

module _ (mode : Mode) (inputs : List RelObject) (below : data_end mode inputs < 2 ^ 32) where
  section_low : (x : InputSection) → Contains (sections_of inputs) x → section_place mode inputs x.index + (x.section).size < 2 ^ 32
  section_low x there = let end = section_below mode inputs x there in omega (arith, end, below)

  -- ---- the entry

  function_low : (spot : Spot) → is_function inputs spot ≡ true → IsWord (address_of mode inputs spot)
  function_low Nowhere is = omega arith
  function_low (Absolute v) is = absurd cc
  function_low (Common k) is = absurd cc
  function_low (Section k offset) is =
      let reaches = and_parts (has_section inputs k (λ x. nat_le offset (x.section).size)) ((text_place inputs k + offset) % 4 == 0) (and_parts (is_code_section inputs k) _ is).1 in
      by (slice_get (sections_of inputs) k) refl reaches.0
    where
      by : (o : Option InputSection) → slice_get (sections_of inputs) k ≡ o → option_map_or (λ x. nat_le offset (x.section).size) o false ≡ true → IsWord (section_place mode inputs k + offset)
      by None e h = absurd cc
      by (Some x) e h =
          let low = section_low x (contains_at (sections_of inputs) k x e) in
          let within : offset ≤ (x.section).size = grind (arith, nat_tests) in
          let place : section_place mode inputs x.index ≡ section_place mode inputs k = ap (section_place mode inputs) (section_number inputs k x e) in
          omega (arith, low, within, place)

  pub entry_low : first_failing (entry_tests mode inputs) ≡ None → IsWord (cond (is_shared mode) 0 (option_map_or (λ t. address_of mode inputs t.spot) (start_target mode inputs) 0))
  entry_low passes =
      by (is_shared mode) (start_target mode inputs)
      (head_holds (not (is_shared mode) && not (option_map_or (λ t. is_function inputs t.spot) (start_target mode inputs) false)) NoEntry None passes).0
    where
      function : (b : Bool) → (true && not b) ≡ false → b ≡ true
      function true h = refl
      function false h = absurd cc

      by : (b : Bool) (o : Option Target) → (not b && not (option_map_or (λ t. is_function inputs t.spot) o false)) ≡ false → IsWord (cond b 0 (option_map_or (λ t. address_of mode inputs t.spot) o 0))
      by true o h = omega arith
      by false None h = omega arith
      by false (Some t) h = function_low t.spot (function (is_function inputs t.spot) h)

  -- ---- arrays

  in_sections : (p : InputSection → Bool) → All (Contains (sections_of inputs)) (filter p (sections_of inputs))
  in_sections p = all_contained (Contains (sections_of inputs)) (filter p (sections_of inputs)) (λ x there. (in_filter p (sections_of inputs) x there).0)

  all_there : All (Contains (sections_of inputs)) (text_sections inputs ++ data_sections inputs)
  all_there =
      All-append (Contains (sections_of inputs)) _ _ (in_sections _)
      (All-append (Contains (sections_of inputs)) _ _
      (All-append (Contains (sections_of inputs)) _ _ (in_sections _) (All-append (Contains (sections_of inputs)) _ _ (in_sections _) (in_sections _)))
      (in_sections _))

  kept_there : (kind : ℕ) (x : InputSection) → Contains (sections_of_kind inputs kind) x → Contains (sections_of inputs) x
  kept_there kind x there =
      let all = text_sections inputs ++ data_sections inputs in
      All-contains (Contains (sections_of inputs)) all x all_there (in_filter (λ y. (y.section).kind == kind) all x there).0

  end_low : (x : InputSection) (xs : List InputSection) → ((y : InputSection) → Contains (x ∷ xs) y → Contains (sections_of inputs) y)
      → IsWord (option_map_or (λ y. section_place mode inputs y.index + (y.section).size) (last_or (Some x) xs) 0)
  end_low x [] of = section_low x (of x (contains_first x x [] refl))
  end_low x (y ∷ ys) of = end_low y ys (λ z there. of z (contains_later x z (y ∷ ys) there))

  extent_fit : (xs : List InputSection) → ((y : InputSection) → Contains xs y → Contains (sections_of inputs) y) → IfSome (extent_of mode inputs xs) IsExtentFit
  extent_fit [] of = tt
  extent_fit (x ∷ xs) of =
      by (section_place mode inputs x.index) (option_map_or (λ y. section_place mode inputs y.index + (y.section).size) (last_or (Some x) xs) 0) _ refl (end_low x xs of)
    where
      by : (low high : ℕ) (b : Bool) → nat_lt low high ≡ b → IsWord high → IfSome (cond b (Some (record { addr = low; size = high - low })) None) IsExtentFit
      by low high true e fits = let lt : low < high = grind (arith, nat_tests) in (omega (arith, lt, fits), omega (arith, fits))
      by low high false e fits = tt

  array_fit : (kind : ℕ) → IfSome (extent_of mode inputs (sections_of_kind inputs kind)) IsExtentFit
  array_fit kind = extent_fit (sections_of_kind inputs kind) (kept_there kind)

  -- ---- symbols

  values_fit : All (λ s. IsWord s.value) (symbols_for mode inputs)
  values_fit = by (is_static mode)
    where
      by : (b : Bool) → All (λ (s : Symbol). IsWord s.value) (cond b [] (null_symbol ∷ map (dynamic_symbol mode inputs) (shown_targets mode inputs)))
      by true = All-nil (λ (s : Symbol). IsWord s.value)
      by false =
          All-cons (λ (s : Symbol). IsWord s.value) null_symbol (map (dynamic_symbol mode inputs) (shown_targets mode inputs)) (omega arith)
          (all_contained (λ (s : Symbol). IsWord s.value) (map (dynamic_symbol mode inputs) (shown_targets mode inputs)) (λ s there.
          let from = in_map (dynamic_symbol mode inputs) (shown_targets mode inputs) s there in
          let value : address_of mode inputs (from.0).spot % 2 ^ 32 ≡ s.value = ap (λ (y : Symbol). y.value) from.2 in
          omega (arith, value)))

  -- ---- relocations

  sites_low : (rs : List Rel) → All (IsFillable mode inputs) rs → All (λ r. IsWord r.site) rs
  sites_low rs all =
      all_contained (λ (r : Rel). IsWord r.site) rs (λ r there.
      let end = (All-contains (IsFillable mode inputs) rs r all there).to in
      omega (arith, end, below))

  module _ (sound : All IsRelSound inputs) (sites : All (IsPassed mode inputs) (all_rels inputs)) where
    dynamic_low : All (λ r. IsWord r.site) (dynamic_rels mode inputs)
    dynamic_low = sites_low (dynamic_rels mode inputs) (dynamic_fillable mode inputs (clear mode inputs sound sites) (typed mode inputs sound sites))

    slots_low : All (λ r. IsWord r.site) (jmprels_for mode inputs)
    slots_low = sites_low (jmprels_for mode inputs) (slots_fillable mode inputs (clear mode inputs sound sites) (typed mode inputs sound sites))

    rels_low : All (λ r. IsWord r.site) (rels_for mode inputs)
    rels_low = by (is_static mode)
      where
        by : (b : Bool) → All (λ (r : Rel). IsWord r.site) (cond b [] (dynamic_rels mode inputs))
        by true = All-nil (λ (r : Rel). IsWord r.site)
        by false = dynamic_low

    fixups_low : IfSome (fixups_for mode inputs) (All IsWord)
    fixups_low = by (is_static mode)
      where
        by : (b : Bool) → IfSome (cond b (Some (map (λ r. r.site) (dynamic_rels mode inputs))) None) (All IsWord)
        by true =
            all_contained IsWord (map (λ r. r.site) (dynamic_rels mode inputs)) (λ v there.
            let from = in_map (λ (r : Rel). r.site) (dynamic_rels mode inputs) v there in
            subst IsWord from.2 (All-contains (λ (r : Rel). IsWord r.site) (dynamic_rels mode inputs) from.0 dynamic_low from.1))
        by false = tt

    -- ---- all

    pub fits : (soname : List ℕ) (libs : List Lib) → first_failing (entry_tests mode inputs) ≡ None → All (λ s. IsWord s.size) (symbols_for mode inputs)
        → FitsObjectFields (object_of mode soname inputs libs)
    unfolding object_of
    fits soname libs entry sizes = record {
      entry = entry_low entry;
      got = let some = some_data mode inputs in omega (arith, some, below);
      flags = of_both mode inputs (λ (s : Segment). IsWord s.flags) (λ some. omega arith) (omega arith);
      values = values_fit;
      sizes = sizes;
      sites = rels_low;
      slot_sites = slots_low;
      fixups = fixups_low;
      init = tt;
      fini = tt;
      starts = array_fit SHT_INIT_ARRAY;
      ends = array_fit SHT_FINI_ARRAY;
    }
