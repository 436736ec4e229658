-- The values of the tags of a written object's dynamic section.
use Rattle.std.proofs.Common.{◌≡◌, ℕ, ◌*◌, Bool, true, false, cond, List, [], ◌∷◌, ◌++◌, length, get_or, All, Option, Some, None, refl, sym, ap, ◌∙◌}
use Rattle.std.specs.Prelude.{◌==◌, find, option_map}
use Rattle.std.specs.Option.{option_or, option_map_or}
use Rattle.std.proofs.lemmas.Bool.{ne_eqb, false≢true}
use Rattle.std.proofs.lemmas.List.Elements.{All-nil, All-cons, All-append}
use Rattle.std.proofs.lemmas.List.Folds.{find-append}
use Rattle.fd_base.proofs.Finding.{find_none}
use Rattle.elf_model.specs.declared.constants.TheConstants.{REL_SIZE}
use Rattle.elf_model.specs.declared.object.Object.{Object}
use Rattle.elf_model.specs.Header.{is_one_of}
use Rattle.elf_write.specs.declared.entries.Entry.{Entry}
use Rattle.elf_write.specs.Strings.{behind}
use Rattle.elf_write.specs.TableSegment.{entry, needed_entries, name_entries, needed_place, soname_place, name_strings, rel_entries, slot_entries, table_entries, other_entries, entries, layout_of}
use Rattle.write_laws.proofs.EntryList.{value_in}

-- each entry has one of these tags
abbrev pub HasTags : List ℕ → List Entry → Type 0
HasTags tags es = All (λ e. is_one_of tags e.tag ≡ true) es

pub absent : (tags : List ℕ) (tag : ℕ) (es : List Entry) → HasTags tags es → is_one_of tags tag ≡ false → find (λ e. e.tag == tag) es ≡ None
absent tags tag es has none =
    find_none (λ e. e.tag == tag) es (λ k d lt. ne_eqb (get_or es k d).tag tag (λ e. false≢true (sym none ∙ sym (ap (is_one_of tags) e) ∙ has k d lt)))

pub value-append : (tag : ℕ) (es fs : List Entry) → value_in tag (es ++ fs) ≡ option_or (value_in tag es) (value_in tag fs)
value-append tag es fs = ap (option_map (λ (e : Entry). e.value)) (find-append (λ e. e.tag == tag) es fs) ∙ of_or (find (λ e. e.tag == tag) es) (find (λ e. e.tag == tag) fs)
  where
    of_or : (o p : Option Entry) → option_map (λ (e : Entry). e.value) (option_or o p) ≡ option_or (option_map (λ (e : Entry). e.value) o) (option_map (λ (e : Entry). e.value) p)
    of_or None p = refl
    of_or (Some e) p = refl

-- a part without the tag is passed over
pub passed : (tags : List ℕ) (tag : ℕ) (es fs : List Entry) → HasTags tags es → is_one_of tags tag ≡ false → value_in tag (es ++ fs) ≡ value_in tag fs
passed tags tag es fs has none = value-append tag es fs ∙ ap (λ o. option_or (option_map (λ (e : Entry). e.value) o) (value_in tag fs)) (absent tags tag es has none)

-- ---- the names

needed_tags : (at : ℕ) (names : List (List ℕ)) → HasTags (1 ∷ 14 ∷ []) (needed_entries at names)
needed_tags at [] = All-nil (λ e. is_one_of (1 ∷ 14 ∷ []) e.tag ≡ true)
needed_tags at (name ∷ names) = All-cons (λ e. is_one_of (1 ∷ 14 ∷ []) e.tag ≡ true) (entry 1 at) (needed_entries (behind at (Some name)) names) refl (needed_tags (behind at (Some name)) names)

pub soname_tags : (place : ℕ) (o : Option (List ℕ)) → HasTags (1 ∷ 14 ∷ []) (option_map_or (λ name. entry 14 place ∷ []) o [])
soname_tags place None = All-nil (λ e. is_one_of (1 ∷ 14 ∷ []) e.tag ≡ true)
soname_tags place (Some name) = All-cons (λ e. is_one_of (1 ∷ 14 ∷ []) e.tag ≡ true) (entry 14 place) [] refl (All-nil (λ e. is_one_of (1 ∷ 14 ∷ []) e.tag ≡ true))

module _ (o : Object) where
  name_tags : HasTags (1 ∷ 14 ∷ []) (name_entries o)
  name_tags =
      All-append (λ e. is_one_of (1 ∷ 14 ∷ []) e.tag ≡ true) (needed_entries (needed_place o) o.needed) (option_map_or (λ name. entry 14 (soname_place o) ∷ []) o.soname [])
      (needed_tags (needed_place o) o.needed) (soname_tags (soname_place o) o.soname)

  pub behind_names : (tag : ℕ) → is_one_of (1 ∷ 14 ∷ []) tag ≡ false → value_in tag (entries o) ≡ value_in tag (table_entries (layout_of o) o ++ other_entries o)
  behind_names tag none = passed (1 ∷ 14 ∷ []) tag (name_entries o) (table_entries (layout_of o) o ++ other_entries o) name_tags none

  pub hash_value : value_in 4 (entries o) ≡ Some (layout_of o).hash
  hash_value = behind_names 4 refl

  pub strings_value : value_in 5 (entries o) ≡ Some (layout_of o).strings
  strings_value = behind_names 5 refl

  pub strings_size : value_in 10 (entries o) ≡ Some (length (name_strings o))
  strings_size = behind_names 10 refl

  pub symbols_value : value_in 6 (entries o) ≡ Some (layout_of o).symbols
  symbols_value = behind_names 6 refl

  -- ---- the tables of relocations

  pub rel_tags : (b : Bool) (at n : ℕ) → HasTags (17 ∷ 18 ∷ 19 ∷ 23 ∷ 2 ∷ 20 ∷ []) (cond b [] (entry 17 at ∷ entry 18 n ∷ entry 19 8 ∷ []))
  rel_tags true at n = All-nil (λ e. is_one_of (17 ∷ 18 ∷ 19 ∷ 23 ∷ 2 ∷ 20 ∷ []) e.tag ≡ true)
  rel_tags false at n =
      All-cons (λ e. is_one_of (17 ∷ 18 ∷ 19 ∷ 23 ∷ 2 ∷ 20 ∷ []) e.tag ≡ true) (entry 17 at) (entry 18 n ∷ entry 19 8 ∷ []) refl
      (All-cons (λ e. is_one_of (17 ∷ 18 ∷ 19 ∷ 23 ∷ 2 ∷ 20 ∷ []) e.tag ≡ true) (entry 18 n) (entry 19 8 ∷ []) refl
      (All-cons (λ e. is_one_of (17 ∷ 18 ∷ 19 ∷ 23 ∷ 2 ∷ 20 ∷ []) e.tag ≡ true) (entry 19 8) [] refl (All-nil (λ e. is_one_of (17 ∷ 18 ∷ 19 ∷ 23 ∷ 2 ∷ 20 ∷ []) e.tag ≡ true))))

  pub slot_tags : (b : Bool) (at n : ℕ) → HasTags (17 ∷ 18 ∷ 19 ∷ 23 ∷ 2 ∷ 20 ∷ []) (cond b [] (entry 23 at ∷ entry 2 n ∷ entry 20 17 ∷ []))
  slot_tags true at n = All-nil (λ e. is_one_of (17 ∷ 18 ∷ 19 ∷ 23 ∷ 2 ∷ 20 ∷ []) e.tag ≡ true)
  slot_tags false at n =
      All-cons (λ e. is_one_of (17 ∷ 18 ∷ 19 ∷ 23 ∷ 2 ∷ 20 ∷ []) e.tag ≡ true) (entry 23 at) (entry 2 n ∷ entry 20 17 ∷ []) refl
      (All-cons (λ e. is_one_of (17 ∷ 18 ∷ 19 ∷ 23 ∷ 2 ∷ 20 ∷ []) e.tag ≡ true) (entry 2 n) (entry 20 17 ∷ []) refl
      (All-cons (λ e. is_one_of (17 ∷ 18 ∷ 19 ∷ 23 ∷ 2 ∷ 20 ∷ []) e.tag ≡ true) (entry 20 17) [] refl (All-nil (λ e. is_one_of (17 ∷ 18 ∷ 19 ∷ 23 ∷ 2 ∷ 20 ∷ []) e.tag ≡ true))))

  pub both_tags : HasTags (17 ∷ 18 ∷ 19 ∷ 23 ∷ 2 ∷ 20 ∷ []) (rel_entries (layout_of o).rels o.rels ++ slot_entries (layout_of o).jmprels o.jmprels)
  both_tags =
      All-append (λ e. is_one_of (17 ∷ 18 ∷ 19 ∷ 23 ∷ 2 ∷ 20 ∷ []) e.tag ≡ true) (rel_entries (layout_of o).rels o.rels) (slot_entries (layout_of o).jmprels o.jmprels)
      (rel_tags (length o.rels == 0) (layout_of o).rels (REL_SIZE * length o.rels)) (slot_tags (length o.jmprels == 0) (layout_of o).jmprels (REL_SIZE * length o.jmprels))

  pub got_value : value_in 3 (entries o) ≡ Some o.got
  got_value = behind_names 3 refl ∙ passed (17 ∷ 18 ∷ 19 ∷ 23 ∷ 2 ∷ 20 ∷ []) 3 (rel_entries (layout_of o).rels o.rels ++ slot_entries (layout_of o).jmprels o.jmprels) (other_entries o) both_tags refl
