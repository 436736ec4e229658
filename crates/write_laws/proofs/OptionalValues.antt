-- The values of tags that not each written object has.
use Rattle.std.proofs.Common.{◌≡◌, ℕ, ◌+◌, ◌*◌, Bool, true, false, cond, List, [], ◌∷◌, ◌++◌, length, get_or, All, Option, Some, None, refl, sym, ap, ◌∙◌, append_assoc}
use Rattle.std.specs.Prelude.{◌==◌, filter, option_map}
use Rattle.std.specs.Option.{option_or, option_map_or}
use Rattle.std.proofs.lemmas.Bool.{ne_eqb, false≢true}
use Rattle.std.proofs.lemmas.List.Elements.{All-head, All-tail, All-nil, All-cons, All-append}
use Rattle.fd_base.proofs.Options.{or_none}
use Rattle.elf_model.specs.declared.constants.TheConstants.{REL_SIZE}
use Rattle.elf_model.specs.declared.object.Extent.{Extent}
use Rattle.elf_model.specs.declared.object.Object.{Object}
use Rattle.elf_model.specs.declared.table.DynEntry.{DynEntry}
use Rattle.elf_model.specs.Header.{is_one_of}
use Rattle.elf_write.specs.declared.entries.Entry.{Entry}
use Rattle.elf_write.specs.Strings.{behind}
use Rattle.elf_write.specs.TableSegment.{entry, entry_if, flag_if, needed_entries, name_entries, needed_place, soname_place, name_strings, rel_entries, slot_entries, table_entries, array_entries, init_entries, other_entries, entries, layout_of}
use Rattle.write_laws.proofs.EntryList.{placed, placed_at, value_in}
use Rattle.write_laws.proofs.EntryValues.{HasTags, absent, value-append, passed, both_tags, behind_names}

-- a part behind without the tag is passed over
kept : (tags : List ℕ) (tag : ℕ) (es fs : List Entry) → HasTags tags fs → is_one_of tags tag ≡ false → value_in tag (es ++ fs) ≡ value_in tag es
kept tags tag es fs has none =
    value-append tag es fs ∙ ap (λ p. option_or (value_in tag es) (option_map (λ (e : Entry). e.value) p)) (absent tags tag fs has none) ∙ or_none (value_in tag es)

none_of : (tags : List ℕ) (tag : ℕ) (es : List Entry) → HasTags tags es → is_one_of tags tag ≡ false → value_in tag es ≡ None
none_of tags tag es has none = ap (option_map (λ (e : Entry). e.value)) (absent tags tag es has none)

-- ---- entries that are there where a value is

abbrev AllOf : List ℕ → Entry → Type 0
AllOf tags e = is_one_of tags e.tag ≡ true

flag_tags : (tags : List ℕ) (tag : ℕ) (b : Bool) → is_one_of tags tag ≡ true → HasTags tags (flag_if tag b)
flag_tags tags tag true is = All-cons (AllOf tags) (entry tag 0) [] is (All-nil (AllOf tags))
flag_tags tags tag false is = All-nil (AllOf tags)

value_tags : (tags : List ℕ) (tag : ℕ) (v : Option ℕ) → is_one_of tags tag ≡ true → HasTags tags (entry_if tag v)
value_tags tags tag None is = All-nil (AllOf tags)
value_tags tags tag (Some v) is = All-cons (AllOf tags) (entry tag v) [] is (All-nil (AllOf tags))

array_tags : (tags : List ℕ) (a b : ℕ) (x : Option Extent) → is_one_of tags a ≡ true → is_one_of tags b ≡ true → HasTags tags (array_entries a b x)
array_tags tags a b None is also = All-nil (AllOf tags)
array_tags tags a b (Some x) is also = All-cons (AllOf tags) (entry a x.addr) (entry b x.size ∷ []) is (All-cons (AllOf tags) (entry b x.size) [] also (All-nil (AllOf tags)))

flag_value : (b : Bool) → value_in 16 (flag_if 16 b) ≡ cond b (Some 0) None
flag_value true = refl
flag_value false = refl

now_value : (b : Bool) → value_in 24 (flag_if 24 b) ≡ cond b (Some 0) None
now_value true = refl
now_value false = refl

init_here : (v : Option ℕ) → value_in 12 (entry_if 12 v) ≡ v
init_here None = refl
init_here (Some v) = refl

fini_here : (v : Option ℕ) → value_in 13 (entry_if 13 v) ≡ v
fini_here None = refl
fini_here (Some v) = refl

starts_here : (x : Option Extent) → value_in 25 (array_entries 25 27 x) ≡ option_map (λ (e : Extent). e.addr) x
starts_here None = refl
starts_here (Some x) = refl

starts_size : (x : Option Extent) → value_in 27 (array_entries 25 27 x) ≡ option_map (λ (e : Extent). e.size) x
starts_size None = refl
starts_size (Some x) = refl

ends_here : (x : Option Extent) → value_in 26 (array_entries 26 28 x) ≡ option_map (λ (e : Extent). e.addr) x
ends_here None = refl
ends_here (Some x) = refl

ends_size : (x : Option Extent) → value_in 28 (array_entries 26 28 x) ≡ option_map (λ (e : Extent). e.size) x
ends_size None = refl
ends_size (Some x) = refl

module _ (o : Object) where
  arrays_have : HasTags (25 ∷ 27 ∷ 26 ∷ 28 ∷ []) (array_entries 25 27 (o.inits).init_array ++ array_entries 26 28 (o.inits).fini_array)
  arrays_have =
      All-append (AllOf (25 ∷ 27 ∷ 26 ∷ 28 ∷ [])) (array_entries 25 27 (o.inits).init_array) (array_entries 26 28 (o.inits).fini_array)
      (array_tags (25 ∷ 27 ∷ 26 ∷ 28 ∷ []) 25 27 (o.inits).init_array refl refl) (array_tags (25 ∷ 27 ∷ 26 ∷ 28 ∷ []) 26 28 (o.inits).fini_array refl refl)

  fini_rest : HasTags (13 ∷ 25 ∷ 27 ∷ 26 ∷ 28 ∷ []) (entry_if 13 (o.inits).fini ++ (array_entries 25 27 (o.inits).init_array ++ array_entries 26 28 (o.inits).fini_array))
  fini_rest =
      All-append (AllOf (13 ∷ 25 ∷ 27 ∷ 26 ∷ 28 ∷ [])) (entry_if 13 (o.inits).fini) (array_entries 25 27 (o.inits).init_array ++ array_entries 26 28 (o.inits).fini_array) (value_tags (13 ∷ 25 ∷ 27 ∷ 26 ∷ 28 ∷ []) 13 (o.inits).fini refl)
      (All-append (AllOf (13 ∷ 25 ∷ 27 ∷ 26 ∷ 28 ∷ [])) (array_entries 25 27 (o.inits).init_array) (array_entries 26 28 (o.inits).fini_array)
      (array_tags (13 ∷ 25 ∷ 27 ∷ 26 ∷ 28 ∷ []) 25 27 (o.inits).init_array refl refl) (array_tags (13 ∷ 25 ∷ 27 ∷ 26 ∷ 28 ∷ []) 26 28 (o.inits).fini_array refl refl))

  inits_have : HasTags (12 ∷ 13 ∷ 25 ∷ 27 ∷ 26 ∷ 28 ∷ []) (init_entries o.inits)
  inits_have =
      All-append (AllOf (12 ∷ 13 ∷ 25 ∷ 27 ∷ 26 ∷ 28 ∷ [])) (entry_if 12 (o.inits).init) (entry_if 13 (o.inits).fini ++ (array_entries 25 27 (o.inits).init_array ++ array_entries 26 28 (o.inits).fini_array))
      (value_tags (12 ∷ 13 ∷ 25 ∷ 27 ∷ 26 ∷ 28 ∷ []) 12 (o.inits).init refl)
      (All-append (AllOf (12 ∷ 13 ∷ 25 ∷ 27 ∷ 26 ∷ 28 ∷ [])) (entry_if 13 (o.inits).fini) (array_entries 25 27 (o.inits).init_array ++ array_entries 26 28 (o.inits).fini_array) (value_tags (12 ∷ 13 ∷ 25 ∷ 27 ∷ 26 ∷ 28 ∷ []) 13 (o.inits).fini refl)
      (All-append (AllOf (12 ∷ 13 ∷ 25 ∷ 27 ∷ 26 ∷ 28 ∷ [])) (array_entries 25 27 (o.inits).init_array) (array_entries 26 28 (o.inits).fini_array)
      (array_tags (12 ∷ 13 ∷ 25 ∷ 27 ∷ 26 ∷ 28 ∷ []) 25 27 (o.inits).init_array refl refl) (array_tags (12 ∷ 13 ∷ 25 ∷ 27 ∷ 26 ∷ 28 ∷ []) 26 28 (o.inits).fini_array refl refl)))

  others_have : HasTags (3 ∷ 16 ∷ 24 ∷ 12 ∷ 13 ∷ 25 ∷ 27 ∷ 26 ∷ 28 ∷ []) (other_entries o)
  others_have =
      All-cons (AllOf (3 ∷ 16 ∷ 24 ∷ 12 ∷ 13 ∷ 25 ∷ 27 ∷ 26 ∷ 28 ∷ [])) (entry 3 o.got) (flag_if 16 o.symbolic ++ (flag_if 24 o.now ++ init_entries o.inits)) refl
      (All-append (AllOf (3 ∷ 16 ∷ 24 ∷ 12 ∷ 13 ∷ 25 ∷ 27 ∷ 26 ∷ 28 ∷ [])) (flag_if 16 o.symbolic) (flag_if 24 o.now ++ init_entries o.inits) (flag_tags (3 ∷ 16 ∷ 24 ∷ 12 ∷ 13 ∷ 25 ∷ 27 ∷ 26 ∷ 28 ∷ []) 16 o.symbolic refl)
      (All-append (AllOf (3 ∷ 16 ∷ 24 ∷ 12 ∷ 13 ∷ 25 ∷ 27 ∷ 26 ∷ 28 ∷ [])) (flag_if 24 o.now) (init_entries o.inits) (flag_tags (3 ∷ 16 ∷ 24 ∷ 12 ∷ 13 ∷ 25 ∷ 27 ∷ 26 ∷ 28 ∷ []) 24 o.now refl)
      (All-append (AllOf (3 ∷ 16 ∷ 24 ∷ 12 ∷ 13 ∷ 25 ∷ 27 ∷ 26 ∷ 28 ∷ [])) (entry_if 12 (o.inits).init) (entry_if 13 (o.inits).fini ++ (array_entries 25 27 (o.inits).init_array ++ array_entries 26 28 (o.inits).fini_array))
      (value_tags (3 ∷ 16 ∷ 24 ∷ 12 ∷ 13 ∷ 25 ∷ 27 ∷ 26 ∷ 28 ∷ []) 12 (o.inits).init refl)
      (All-append (AllOf (3 ∷ 16 ∷ 24 ∷ 12 ∷ 13 ∷ 25 ∷ 27 ∷ 26 ∷ 28 ∷ [])) (entry_if 13 (o.inits).fini) (array_entries 25 27 (o.inits).init_array ++ array_entries 26 28 (o.inits).fini_array)
      (value_tags (3 ∷ 16 ∷ 24 ∷ 12 ∷ 13 ∷ 25 ∷ 27 ∷ 26 ∷ 28 ∷ []) 13 (o.inits).fini refl)
      (All-append (AllOf (3 ∷ 16 ∷ 24 ∷ 12 ∷ 13 ∷ 25 ∷ 27 ∷ 26 ∷ 28 ∷ [])) (array_entries 25 27 (o.inits).init_array) (array_entries 26 28 (o.inits).fini_array)
      (array_tags (3 ∷ 16 ∷ 24 ∷ 12 ∷ 13 ∷ 25 ∷ 27 ∷ 26 ∷ 28 ∷ []) 25 27 (o.inits).init_array refl refl) (array_tags (3 ∷ 16 ∷ 24 ∷ 12 ∷ 13 ∷ 25 ∷ 27 ∷ 26 ∷ 28 ∷ []) 26 28 (o.inits).fini_array refl refl))))))

  -- a tag of the entries behind the tables
  behind_tables : (tag : ℕ) → is_one_of (1 ∷ 14 ∷ []) tag ≡ false → is_one_of (4 ∷ 5 ∷ 10 ∷ 6 ∷ 11 ∷ []) tag ≡ false → is_one_of (17 ∷ 18 ∷ 19 ∷ 23 ∷ 2 ∷ 20 ∷ []) tag ≡ false
      → value_in tag (entries o) ≡ value_in tag (other_entries o)
  behind_tables tag a b c =
      let l = layout_of o in
      behind_names o tag a
      ∙ passed (4 ∷ 5 ∷ 10 ∷ 6 ∷ 11 ∷ []) tag (entry 4 l.hash ∷ entry 5 l.strings ∷ entry 10 (length (name_strings o)) ∷ entry 6 l.symbols ∷ entry 11 16 ∷ []) ((rel_entries l.rels o.rels ++ slot_entries l.jmprels o.jmprels) ++ other_entries o) fixed_have b
      ∙ passed (17 ∷ 18 ∷ 19 ∷ 23 ∷ 2 ∷ 20 ∷ []) tag (rel_entries l.rels o.rels ++ slot_entries l.jmprels o.jmprels) (other_entries o) (both_tags o) c
    where
      fixed_have : HasTags (4 ∷ 5 ∷ 10 ∷ 6 ∷ 11 ∷ []) (entry 4 (layout_of o).hash ∷ entry 5 (layout_of o).strings ∷ entry 10 (length (name_strings o)) ∷ entry 6 (layout_of o).symbols ∷ entry 11 16 ∷ [])
      fixed_have =
          let l = layout_of o in
          All-cons (AllOf (4 ∷ 5 ∷ 10 ∷ 6 ∷ 11 ∷ [])) (entry 4 l.hash) (entry 5 l.strings ∷ entry 10 (length (name_strings o)) ∷ entry 6 l.symbols ∷ entry 11 16 ∷ []) refl
          (All-cons (AllOf (4 ∷ 5 ∷ 10 ∷ 6 ∷ 11 ∷ [])) (entry 5 l.strings) (entry 10 (length (name_strings o)) ∷ entry 6 l.symbols ∷ entry 11 16 ∷ []) refl
          (All-cons (AllOf (4 ∷ 5 ∷ 10 ∷ 6 ∷ 11 ∷ [])) (entry 10 (length (name_strings o))) (entry 6 l.symbols ∷ entry 11 16 ∷ []) refl
          (All-cons (AllOf (4 ∷ 5 ∷ 10 ∷ 6 ∷ 11 ∷ [])) (entry 6 l.symbols) (entry 11 16 ∷ []) refl
          (All-cons (AllOf (4 ∷ 5 ∷ 10 ∷ 6 ∷ 11 ∷ [])) (entry 11 16) [] refl (All-nil (AllOf (4 ∷ 5 ∷ 10 ∷ 6 ∷ 11 ∷ [])))))))

  pub flags_value : value_in 30 (entries o) ≡ None
  flags_value = behind_tables 30 refl refl refl ∙ none_of (3 ∷ 16 ∷ 24 ∷ 12 ∷ 13 ∷ 25 ∷ 27 ∷ 26 ∷ 28 ∷ []) 30 (other_entries o) others_have refl

  pub symbolic_value : value_in 16 (entries o) ≡ cond o.symbolic (Some 0) None
  symbolic_value =
      behind_tables 16 refl refl refl
      ∙ value-append 16 (flag_if 16 o.symbolic) (flag_if 24 o.now ++ init_entries o.inits)
      ∙ ap (λ p. option_or (value_in 16 (flag_if 16 o.symbolic)) p)
      (passed (24 ∷ []) 16 (flag_if 24 o.now) (init_entries o.inits) (flag_tags (24 ∷ []) 24 o.now refl) refl ∙ none_of (12 ∷ 13 ∷ 25 ∷ 27 ∷ 26 ∷ 28 ∷ []) 16 (init_entries o.inits) inits_have refl)
      ∙ or_none (value_in 16 (flag_if 16 o.symbolic)) ∙ flag_value o.symbolic

  -- behind the flag of symbolic objects
  behind_symbolic : (tag : ℕ) → is_one_of (1 ∷ 14 ∷ []) tag ≡ false → is_one_of (4 ∷ 5 ∷ 10 ∷ 6 ∷ 11 ∷ []) tag ≡ false → is_one_of (17 ∷ 18 ∷ 19 ∷ 23 ∷ 2 ∷ 20 ∷ []) tag ≡ false → is_one_of (3 ∷ 16 ∷ []) tag ≡ false
      → value_in tag (entries o) ≡ value_in tag (flag_if 24 o.now ++ init_entries o.inits)
  behind_symbolic tag a b c d =
      behind_tables tag a b c
      ∙ passed (3 ∷ 16 ∷ []) tag (entry 3 o.got ∷ flag_if 16 o.symbolic) (flag_if 24 o.now ++ init_entries o.inits) (All-cons (AllOf (3 ∷ 16 ∷ [])) (entry 3 o.got) (flag_if 16 o.symbolic) refl (flag_tags (3 ∷ 16 ∷ []) 16 o.symbolic refl)) d

  pub now_is : value_in 24 (entries o) ≡ cond o.now (Some 0) None
  now_is = behind_symbolic 24 refl refl refl refl ∙ kept (12 ∷ 13 ∷ 25 ∷ 27 ∷ 26 ∷ 28 ∷ []) 24 (flag_if 24 o.now) (init_entries o.inits) inits_have refl ∙ now_value o.now

  behind_now : (tag : ℕ) → is_one_of (1 ∷ 14 ∷ []) tag ≡ false → is_one_of (4 ∷ 5 ∷ 10 ∷ 6 ∷ 11 ∷ []) tag ≡ false → is_one_of (17 ∷ 18 ∷ 19 ∷ 23 ∷ 2 ∷ 20 ∷ []) tag ≡ false → is_one_of (3 ∷ 16 ∷ []) tag ≡ false → is_one_of (24 ∷ []) tag ≡ false
      → value_in tag (entries o) ≡ value_in tag (init_entries o.inits)
  behind_now tag a b c d e = behind_symbolic tag a b c d ∙ passed (24 ∷ []) tag (flag_if 24 o.now) (init_entries o.inits) (flag_tags (24 ∷ []) 24 o.now refl) e

  pub init_value : value_in 12 (entries o) ≡ (o.inits).init
  init_value =
      behind_now 12 refl refl refl refl refl
      ∙ kept (13 ∷ 25 ∷ 27 ∷ 26 ∷ 28 ∷ []) 12 (entry_if 12 (o.inits).init) (entry_if 13 (o.inits).fini ++ (array_entries 25 27 (o.inits).init_array ++ array_entries 26 28 (o.inits).fini_array)) fini_rest refl
      ∙ init_here (o.inits).init

  behind_init : (tag : ℕ) → value_in tag (entries o) ≡ value_in tag (init_entries o.inits) → is_one_of (12 ∷ []) tag ≡ false
      → value_in tag (entries o) ≡ value_in tag (entry_if 13 (o.inits).fini ++ (array_entries 25 27 (o.inits).init_array ++ array_entries 26 28 (o.inits).fini_array))
  behind_init tag is none = is ∙ passed (12 ∷ []) tag (entry_if 12 (o.inits).init) (entry_if 13 (o.inits).fini ++ (array_entries 25 27 (o.inits).init_array ++ array_entries 26 28 (o.inits).fini_array)) (value_tags (12 ∷ []) 12 (o.inits).init refl) none

  pub fini_value : value_in 13 (entries o) ≡ (o.inits).fini
  fini_value =
      behind_init 13 (behind_now 13 refl refl refl refl refl) refl
      ∙ kept (25 ∷ 27 ∷ 26 ∷ 28 ∷ []) 13 (entry_if 13 (o.inits).fini) (array_entries 25 27 (o.inits).init_array ++ array_entries 26 28 (o.inits).fini_array) arrays_have refl
      ∙ fini_here (o.inits).fini

  -- the entries of arrays
  array_value : (tag : ℕ) → value_in tag (entries o) ≡ value_in tag (init_entries o.inits) → is_one_of (12 ∷ []) tag ≡ false → is_one_of (13 ∷ []) tag ≡ false
      → value_in tag (entries o) ≡ value_in tag (array_entries 25 27 (o.inits).init_array ++ array_entries 26 28 (o.inits).fini_array)
  array_value tag is a b =
      behind_init tag is a ∙ passed (13 ∷ []) tag (entry_if 13 (o.inits).fini) (array_entries 25 27 (o.inits).init_array ++ array_entries 26 28 (o.inits).fini_array) (value_tags (13 ∷ []) 13 (o.inits).fini refl) b

  starts_first : (tag : ℕ) → is_one_of (26 ∷ 28 ∷ []) tag ≡ false → value_in tag (array_entries 25 27 (o.inits).init_array ++ array_entries 26 28 (o.inits).fini_array) ≡ value_in tag (array_entries 25 27 (o.inits).init_array)
  starts_first tag none = kept (26 ∷ 28 ∷ []) tag (array_entries 25 27 (o.inits).init_array) (array_entries 26 28 (o.inits).fini_array) (array_tags (26 ∷ 28 ∷ []) 26 28 (o.inits).fini_array refl refl) none

  ends_last : (tag : ℕ) → is_one_of (25 ∷ 27 ∷ []) tag ≡ false → value_in tag (array_entries 25 27 (o.inits).init_array ++ array_entries 26 28 (o.inits).fini_array) ≡ value_in tag (array_entries 26 28 (o.inits).fini_array)
  ends_last tag none = passed (25 ∷ 27 ∷ []) tag (array_entries 25 27 (o.inits).init_array) (array_entries 26 28 (o.inits).fini_array) (array_tags (25 ∷ 27 ∷ []) 25 27 (o.inits).init_array refl refl) none

  pub starts_value : value_in 25 (entries o) ≡ option_map (λ (e : Extent). e.addr) (o.inits).init_array
  starts_value = array_value 25 (behind_now 25 refl refl refl refl refl) refl refl ∙ starts_first 25 refl ∙ starts_here (o.inits).init_array

  pub starts_size_value : value_in 27 (entries o) ≡ option_map (λ (e : Extent). e.size) (o.inits).init_array
  starts_size_value = array_value 27 (behind_now 27 refl refl refl refl refl) refl refl ∙ starts_first 27 refl ∙ starts_size (o.inits).init_array

  pub ends_value : value_in 26 (entries o) ≡ option_map (λ (e : Extent). e.addr) (o.inits).fini_array
  ends_value = array_value 26 (behind_now 26 refl refl refl refl refl) refl refl ∙ ends_last 26 refl ∙ ends_here (o.inits).fini_array

  pub ends_size_value : value_in 28 (entries o) ≡ option_map (λ (e : Extent). e.size) (o.inits).fini_array
  ends_size_value = array_value 28 (behind_now 28 refl refl refl refl refl) refl refl ∙ ends_last 28 refl ∙ ends_size (o.inits).fini_array

  -- ---- the tables of relocations

  -- a tag of theirs
  of_tables : (tag : ℕ) → value_in tag (entries o) ≡ value_in tag ((rel_entries (layout_of o).rels o.rels ++ slot_entries (layout_of o).jmprels o.jmprels) ++ other_entries o) → is_one_of (3 ∷ 16 ∷ 24 ∷ 12 ∷ 13 ∷ 25 ∷ 27 ∷ 26 ∷ 28 ∷ []) tag ≡ false
      → value_in tag (entries o) ≡ value_in tag (rel_entries (layout_of o).rels o.rels ++ slot_entries (layout_of o).jmprels o.jmprels)
  of_tables tag is none = is ∙ kept (3 ∷ 16 ∷ 24 ∷ 12 ∷ 13 ∷ 25 ∷ 27 ∷ 26 ∷ 28 ∷ []) tag (rel_entries (layout_of o).rels o.rels ++ slot_entries (layout_of o).jmprels o.jmprels) (other_entries o) others_have none

  slots_have : (b : Bool) (at n : ℕ) → HasTags (23 ∷ 2 ∷ 20 ∷ []) (cond b [] (entry 23 at ∷ entry 2 n ∷ entry 20 17 ∷ []))
  slots_have true at n = All-nil (AllOf (23 ∷ 2 ∷ 20 ∷ []))
  slots_have false at n =
      All-cons (AllOf (23 ∷ 2 ∷ 20 ∷ [])) (entry 23 at) (entry 2 n ∷ entry 20 17 ∷ []) refl (All-cons (AllOf (23 ∷ 2 ∷ 20 ∷ [])) (entry 2 n) (entry 20 17 ∷ []) refl (All-cons (AllOf (23 ∷ 2 ∷ 20 ∷ [])) (entry 20 17) [] refl (All-nil (AllOf (23 ∷ 2 ∷ 20 ∷ [])))))

  rels_have : (b : Bool) (at n : ℕ) → HasTags (17 ∷ 18 ∷ 19 ∷ []) (cond b [] (entry 17 at ∷ entry 18 n ∷ entry 19 8 ∷ []))
  rels_have true at n = All-nil (AllOf (17 ∷ 18 ∷ 19 ∷ []))
  rels_have false at n =
      All-cons (AllOf (17 ∷ 18 ∷ 19 ∷ [])) (entry 17 at) (entry 18 n ∷ entry 19 8 ∷ []) refl (All-cons (AllOf (17 ∷ 18 ∷ 19 ∷ [])) (entry 18 n) (entry 19 8 ∷ []) refl (All-cons (AllOf (17 ∷ 18 ∷ 19 ∷ [])) (entry 19 8) [] refl (All-nil (AllOf (17 ∷ 18 ∷ 19 ∷ [])))))

  rel_place : (b : Bool) (at n : ℕ) → value_in 17 (cond b [] (entry 17 at ∷ entry 18 n ∷ entry 19 8 ∷ [])) ≡ cond b None (Some at)
  rel_place true at n = refl
  rel_place false at n = refl

  rel_size' : (b : Bool) (at n : ℕ) → value_in 18 (cond b [] (entry 17 at ∷ entry 18 n ∷ entry 19 8 ∷ [])) ≡ cond b None (Some n)
  rel_size' true at n = refl
  rel_size' false at n = refl

  slot_place : (b : Bool) (at n : ℕ) → value_in 23 (cond b [] (entry 23 at ∷ entry 2 n ∷ entry 20 17 ∷ [])) ≡ cond b None (Some at)
  slot_place true at n = refl
  slot_place false at n = refl

  slot_size : (b : Bool) (at n : ℕ) → value_in 2 (cond b [] (entry 23 at ∷ entry 2 n ∷ entry 20 17 ∷ [])) ≡ cond b None (Some n)
  slot_size true at n = refl
  slot_size false at n = refl

  pub rels_value : value_in 17 (entries o) ≡ cond (length o.rels == 0) None (Some (layout_of o).rels)
  rels_value =
      of_tables 17 (behind_names o 17 refl) refl
      ∙ kept (23 ∷ 2 ∷ 20 ∷ []) 17 (rel_entries (layout_of o).rels o.rels) (slot_entries (layout_of o).jmprels o.jmprels) (slots_have (length o.jmprels == 0) (layout_of o).jmprels (REL_SIZE * length o.jmprels)) refl
      ∙ rel_place (length o.rels == 0) (layout_of o).rels (REL_SIZE * length o.rels)

  pub rels_size_value : value_in 18 (entries o) ≡ cond (length o.rels == 0) None (Some (REL_SIZE * length o.rels))
  rels_size_value =
      of_tables 18 (behind_names o 18 refl) refl
      ∙ kept (23 ∷ 2 ∷ 20 ∷ []) 18 (rel_entries (layout_of o).rels o.rels) (slot_entries (layout_of o).jmprels o.jmprels) (slots_have (length o.jmprels == 0) (layout_of o).jmprels (REL_SIZE * length o.jmprels)) refl
      ∙ rel_size' (length o.rels == 0) (layout_of o).rels (REL_SIZE * length o.rels)

  pub slots_value : value_in 23 (entries o) ≡ cond (length o.jmprels == 0) None (Some (layout_of o).jmprels)
  slots_value =
      of_tables 23 (behind_names o 23 refl) refl
      ∙ passed (17 ∷ 18 ∷ 19 ∷ []) 23 (rel_entries (layout_of o).rels o.rels) (slot_entries (layout_of o).jmprels o.jmprels) (rels_have (length o.rels == 0) (layout_of o).rels (REL_SIZE * length o.rels)) refl
      ∙ slot_place (length o.jmprels == 0) (layout_of o).jmprels (REL_SIZE * length o.jmprels)

  pub slots_size_value : value_in 2 (entries o) ≡ cond (length o.jmprels == 0) None (Some (REL_SIZE * length o.jmprels))
  slots_size_value =
      of_tables 2 (behind_names o 2 refl) refl
      ∙ passed (17 ∷ 18 ∷ 19 ∷ []) 2 (rel_entries (layout_of o).rels o.rels) (slot_entries (layout_of o).jmprels o.jmprels) (rels_have (length o.rels == 0) (layout_of o).rels (REL_SIZE * length o.rels)) refl
      ∙ slot_size (length o.jmprels == 0) (layout_of o).jmprels (REL_SIZE * length o.jmprels)

  -- ---- the object's own name

  needed_have : (at : ℕ) (names : List (List ℕ)) → HasTags (1 ∷ []) (needed_entries at names)
  needed_have at [] = All-nil (AllOf (1 ∷ []))
  needed_have at (name ∷ names) = All-cons (AllOf (1 ∷ [])) (entry 1 at) (needed_entries (behind at (Some name)) names) refl (needed_have (behind at (Some name)) names)

  own_name : (p : Option (List ℕ)) → value_in 14 (option_map_or (λ name. entry 14 (soname_place o) ∷ []) p []) ≡ option_map (λ name. soname_place o) p
  own_name None = refl
  own_name (Some name) = refl

  no_name : value_in 14 (table_entries (layout_of o) o ++ other_entries o) ≡ None
  no_name =
      passed (17 ∷ 18 ∷ 19 ∷ 23 ∷ 2 ∷ 20 ∷ []) 14 (rel_entries (layout_of o).rels o.rels ++ slot_entries (layout_of o).jmprels o.jmprels) (other_entries o) (both_tags o) refl
      ∙ none_of (3 ∷ 16 ∷ 24 ∷ 12 ∷ 13 ∷ 25 ∷ 27 ∷ 26 ∷ 28 ∷ []) 14 (other_entries o) others_have refl

  pub soname_value : value_in 14 (entries o) ≡ option_map (λ name. soname_place o) o.soname
  soname_value =
      value-append 14 (name_entries o) (table_entries (layout_of o) o ++ other_entries o)
      ∙ ap (option_or (value_in 14 (name_entries o))) no_name ∙ or_none (value_in 14 (name_entries o))
      ∙ passed (1 ∷ []) 14 (needed_entries (needed_place o) o.needed) (option_map_or (λ name. entry 14 (soname_place o) ∷ []) o.soname []) (needed_have (needed_place o) o.needed) refl
      ∙ own_name o.soname

  -- ---- which entries are of needed names

  none_needed : (tags : List ℕ) (es : List Entry) → HasTags tags es → is_one_of tags 1 ≡ false → All (λ e. (e.tag == 1) ≡ false) es
  none_needed tags es has none = λ k d lt. ne_eqb (get_or es k d).tag 1 (λ e. false≢true (sym none ∙ sym (ap (is_one_of tags) e) ∙ has k d lt))

  soname_other : (p : Option (List ℕ)) → All (λ e. (e.tag == 1) ≡ false) (option_map_or (λ name. entry 14 (soname_place o) ∷ []) p [])
  soname_other None = All-nil (λ e. (e.tag == 1) ≡ false)
  soname_other (Some name) = All-cons (λ e. (e.tag == 1) ≡ false) (entry 14 (soname_place o)) [] refl (All-nil (λ e. (e.tag == 1) ≡ false))

  table_other : All (λ e. (e.tag == 1) ≡ false) (table_entries (layout_of o) o)
  table_other =
      let l = layout_of o in
      let rest = rel_entries l.rels o.rels ++ slot_entries l.jmprels o.jmprels in
      All-cons (λ e. (e.tag == 1) ≡ false) (entry 4 l.hash) (entry 5 l.strings ∷ entry 10 (length (name_strings o)) ∷ entry 6 l.symbols ∷ entry 11 16 ∷ rest) refl
      (All-cons (λ e. (e.tag == 1) ≡ false) (entry 5 l.strings) (entry 10 (length (name_strings o)) ∷ entry 6 l.symbols ∷ entry 11 16 ∷ rest) refl
      (All-cons (λ e. (e.tag == 1) ≡ false) (entry 10 (length (name_strings o))) (entry 6 l.symbols ∷ entry 11 16 ∷ rest) refl
      (All-cons (λ e. (e.tag == 1) ≡ false) (entry 6 l.symbols) (entry 11 16 ∷ rest) refl
      (All-cons (λ e. (e.tag == 1) ≡ false) (entry 11 16) rest refl (none_needed (17 ∷ 18 ∷ 19 ∷ 23 ∷ 2 ∷ 20 ∷ []) rest (both_tags o) refl)))))

  behind_needed : List Entry
  behind_needed = option_map_or (λ name. entry 14 (soname_place o) ∷ []) o.soname [] ++ (table_entries (layout_of o) o ++ other_entries o)

  others_other : All (λ e. (e.tag == 1) ≡ false) behind_needed
  unfolding behind_needed
  others_other =
      All-append (λ e. (e.tag == 1) ≡ false) (option_map_or (λ name. entry 14 (soname_place o) ∷ []) o.soname []) (table_entries (layout_of o) o ++ other_entries o) (soname_other o.soname)
      (All-append (λ e. (e.tag == 1) ≡ false) (table_entries (layout_of o) o) (other_entries o) table_other (none_needed (3 ∷ 16 ∷ 24 ∷ 12 ∷ 13 ∷ 25 ∷ 27 ∷ 26 ∷ 28 ∷ []) (other_entries o) others_have refl))

  none_placed : (at : ℕ) (es : List Entry) → All (λ e. (e.tag == 1) ≡ false) es → filter (λ (d : DynEntry). d.tag == 1) (placed at es) ≡ []
  none_placed at [] none = refl
  none_placed at (e ∷ es) none =
      let rest = filter (λ (d : DynEntry). d.tag == 1) (placed (at + 8) es) in
      ap (λ b. cond b (placed_at at e ∷ rest) rest) (All-head (λ (e : Entry). (e.tag == 1) ≡ false) e es none) ∙ none_placed (at + 8) es (All-tail (λ (e : Entry). (e.tag == 1) ≡ false) e es none)

  needed_first : (off at : ℕ) (names : List (List ℕ)) (es : List Entry) → All (λ e. (e.tag == 1) ≡ false) es → filter (λ (d : DynEntry). d.tag == 1) (placed off (needed_entries at names ++ es)) ≡ placed off (needed_entries at names)
  needed_first off at [] es none = none_placed off es none
  needed_first off at (name ∷ names) es none = ap (λ ds. placed_at off (entry 1 at) ∷ ds) (needed_first (off + 8) (behind at (Some name)) names es none)

  pub needed_are : (off : ℕ) → filter (λ (d : DynEntry). d.tag == 1) (placed off (entries o)) ≡ placed off (needed_entries (needed_place o) o.needed)
  unfolding behind_needed
  needed_are off =
      ap (λ es. filter (λ (d : DynEntry). d.tag == 1) (placed off es)) (append_assoc (needed_entries (needed_place o) o.needed) (option_map_or (λ name. entry 14 (soname_place o) ∷ []) o.soname []) (table_entries (layout_of o) o ++ other_entries o))
      ∙ needed_first off (needed_place o) o.needed behind_needed others_other
