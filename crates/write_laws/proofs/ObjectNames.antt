-- The names, the flags and the calls of a written object are read.
use Rattle.std.proofs.Common.{◌≡◌, ℕ, ◌+◌, ◌<◌, ◌≤◌, suc, Bool, true, false, cond, ◌||◌, List, [], ◌∷◌, length, map, All, Option, Some, None, refl, sym, ap, ◌∙◌, subst, arith, inl, inr}
use Rattle.std.specs.Prelude.{nat_lt, nat_le, option_map, option_and_then, is_some, is_none, unwrap_or, IfSome}
use Rattle.std.specs.Option.{option_map_or}
use Rattle.std.specs.List.{flat_map}
use Rattle.std.proofs.lemmas.Bool.{lt-leb, lt-ltb}
use Rattle.std.proofs.lemmas.List.Elements.{All-head, All-tail}
use Rattle.fd_base.proofs.Options.{none_or}
use Rattle.elf_model.specs.declared.constants.TheConstants.{MAX_NEEDED, DT_SONAME, DT_SYMBOLIC, DT_BIND_NOW, DT_FLAGS, DF_SYMBOLIC, DF_BIND_NOW, DT_INIT_ARRAY, DT_INIT_ARRAYSZ, DT_FINI_ARRAY, DT_FINI_ARRAYSZ, DT_INIT, DT_FINI}
use Rattle.elf_model.specs.declared.refusal.ElfKind.TheVariants as refusal
use Rattle.elf_model.specs.declared.object.Extent.{Extent}
use Rattle.elf_model.specs.declared.object.Object.{Object}
use Rattle.elf_model.specs.declared.table.DynEntry.{DynEntry}
use Rattle.elf_model.specs.Test.{refuses, of_some, each_from, first_failing}
use Rattle.elf_model.specs.Segments.{has_flag}
use Rattle.elf_model.specs.Strings.{name_at}
use Rattle.elf_model.specs.RelSound.{IsNameText}
use Rattle.elf_model.specs.Dynamic as dynamic
use Rattle.elf_model.specs.Dynamic.{first_of, value_of, needed_entry_tests, needed_tests, needed_name, needed_of, soname_tests, soname_of}
use Rattle.elf_model.specs.Fields as field
use Rattle.elf_model.specs.Fields.{has_dynamic_flag, is_symbolic, is_now, extent_of, inits_of}
use Rattle.elf_model.proofs.Passing.{both}
use Rattle.elf_write.specs.declared.limits.TheConstants.{MAX_FILE_BYTES}
use Rattle.elf_write.specs.Strings.{name_bytes, behind}
use Rattle.elf_write.specs.TableSegment.{entry, needed_entries, needed_place, soname_place, name_strings, layout_of}
use Rattle.elf_write.specs.ObjectFile.{table_offset, object_file}
use Rattle.elf_write.specs.WritableObject.{IsWritableObject}
use Rattle.write_laws.specs.ObjectReadBack.{FitsObjectFields}
use Rattle.write_laws.proofs.Holding as held
use Rattle.write_laws.proofs.Holding.{Holds, front}
use Rattle.write_laws.proofs.Naming.{name_read}
use Rattle.write_laws.proofs.EntryList.{placed, placed_at}
use Rattle.write_laws.proofs.OptionalValues.{needed_are, soname_value, symbolic_value, now_is, flags_value, init_value, fini_value, starts_value, starts_size_value, ends_value, ends_size_value}
use Rattle.write_laws.proofs.DynamicSection.{entries_read}
use Rattle.write_laws.proofs.ObjectStrings.{value_is, first_is, strings_read}
use Rattle.write_laws.proofs.ObjectSymbols.{names_first, soname_stands, needed_stand}

-- ---- what a name's place gives

some_name : (strings : List ℕ) (at : ℕ) (name : List ℕ) → Holds strings 0 (0 ∷ []) → Holds strings at (name_bytes (Some name)) → IsNameText name → name_at strings at ≡ Some name
some_name strings at name first h n = (name_read strings at (Some name) first h n).is_name

names_read : (strings : List ℕ) (off at : ℕ) (names : List (List ℕ)) → Holds strings 0 (0 ∷ []) → Holds strings at (flat_map name_bytes (map Some names)) → All IsNameText names → map (needed_name strings) (placed off (needed_entries at names)) ≡ names
names_read strings off at [] first h texts = refl
names_read strings off at (name ∷ names) first h texts =
    let rest = flat_map name_bytes (map Some names) in
    let here = some_name strings at name first (front strings at (name_bytes (Some name)) rest h) (All-head IsNameText name names texts) in
    ap (λ p. unwrap_or p [] ∷ map (needed_name strings) (placed (off + 8) (needed_entries (behind at (Some name)) names))) here
    ∙ ap (λ ns. name ∷ ns) (names_read strings (off + 8) (behind at (Some name)) names first (held.behind strings at (name_bytes (Some name)) rest h) (All-tail IsNameText name names texts))

names_pass : (strings : List ℕ) (off at k : ℕ) (names : List (List ℕ)) → Holds strings 0 (0 ∷ []) → Holds strings at (flat_map name_bytes (map Some names)) → All IsNameText names → k + length names ≤ MAX_NEEDED
    → first_failing (each_from k (needed_entry_tests strings) (placed off (needed_entries at names))) ≡ None
unfolding each_from needed_entry_tests
names_pass strings off at k [] first h texts few = refl
names_pass strings off at k (name ∷ names) first h texts few =
    let rest = flat_map name_bytes (map Some names) in
    let here = some_name strings at name first (front strings at (name_bytes (Some name)) rest h) (All-head IsNameText name names texts) in
    let many : nat_le MAX_NEEDED k ≡ false = lt-leb _ _ (omega (arith, few)) in
    let one : first_failing (needed_entry_tests strings k (placed_at off (entry 1 at))) ≡ None
    = ap (λ p. first_failing (refuses refusal.TooMany off (nat_le MAX_NEEDED k) ∷ refuses refusal.NameRange off (is_none p) ∷ [])) here
    ∙ ap (λ b. first_failing (refuses refusal.TooMany off b ∷ refuses refusal.NameRange off false ∷ [])) many in
    both (needed_entry_tests strings k (placed_at off (entry 1 at))) (each_from (suc k) (needed_entry_tests strings) (placed (off + 8) (needed_entries (behind at (Some name)) names))) one
    (names_pass strings (off + 8) (behind at (Some name)) (suc k) names first (held.behind strings at (name_bytes (Some name)) rest h) (All-tail IsNameText name names texts) (omega (arith, few)))

is_some_map : {X Y : Type 0} (f : X → Y) (p : Option X) → is_some p ≡ is_some (option_map f p)
is_some_map f None = refl
is_some_map f (Some x) = refl

none_mapped : {X Y : Type 0} (f : X → Y) (p : Option X) → option_map f p ≡ None → p ≡ None
none_mapped f None e = refl
none_mapped f (Some x) e = absurd cc

there : (b : Bool) → (is_some {T = ℕ} (cond b (Some 0) None) || false) ≡ b
there true = refl
there false = refl

extent_is : (x : Option Extent) → IfSome x (λ (e : Extent). 0 < e.size)
    → option_and_then (λ addr. option_and_then (λ size. cond (nat_lt 0 size) (Some (record { addr = addr; size = size })) None) (option_map (λ (e : Extent). e.size) x)) (option_map (λ (e : Extent). e.addr) x) ≡ x
extent_is None some = refl
extent_is (Some e) some = ap (λ b. cond b (Some e) None) (lt-ltb 0 e.size some)

module _ (o : Object) (w : IsWritableObject o) (f : FitsObjectFields o) (short : length (object_file o) ≤ MAX_FILE_BYTES) where
  needed_there : dynamic.needed_entries (field.entries (object_file o)) ≡ placed (table_offset o (layout_of o).dynamic) (needed_entries (needed_place o) o.needed)
  needed_there = ap dynamic.needed_entries (entries_read o w f short) ∙ needed_are o (table_offset o (layout_of o).dynamic)

  pub needed_are_read : needed_of (field.strings (object_file o)) (field.entries (object_file o)) ≡ o.needed
  unfolding needed_of
  needed_are_read =
      let file = object_file o in
      ap (map (needed_name (field.strings file))) needed_there
      ∙ ap (λ names. map (needed_name names) (placed (table_offset o (layout_of o).dynamic) (needed_entries (needed_place o) o.needed))) (strings_read o w f short)
      ∙ names_read (name_strings o) (table_offset o (layout_of o).dynamic) (needed_place o) o.needed (names_first o) (needed_stand o) w.needed_named

  pub needed_pass : first_failing (needed_tests (field.strings (object_file o)) (field.entries (object_file o))) ≡ None
  unfolding needed_tests
  needed_pass =
      let file = object_file o in
      let few = w.few_needed in
      ap (λ es. first_failing (each_from 0 (needed_entry_tests (field.strings file)) es)) needed_there
      ∙ ap (λ names. first_failing (each_from 0 (needed_entry_tests names) (placed (table_offset o (layout_of o).dynamic) (needed_entries (needed_place o) o.needed)))) (strings_read o w f short)
      ∙ names_pass (name_strings o) (table_offset o (layout_of o).dynamic) (needed_place o) 0 o.needed (names_first o) (needed_stand o) w.needed_named (omega (arith, few))

  -- ---- the object's own name

  name_there : (name : List ℕ) → o.soname ≡ Some name → name_at (name_strings o) (soname_place o) ≡ Some name
  name_there name is =
      some_name (name_strings o) (soname_place o) name (names_first o) (subst (λ p. Holds (name_strings o) (soname_place o) (name_bytes p)) is (soname_stands o)) (subst (λ p. IfSome p IsNameText) is w.soname_named)

  pub soname_is_read : soname_of (field.strings (object_file o)) (field.entries (object_file o)) ≡ o.soname
  unfolding soname_of
  soname_is_read =
      let file = object_file o in
      ap (λ names. option_and_then (name_at names) (value_of DT_SONAME (field.entries file))) (strings_read o w f short)
      ∙ ap (option_and_then (name_at (name_strings o))) (value_is o w f short DT_SONAME ∙ soname_value o)
      ∙ elim (none_or o.soname) [
        | inl none ↦ ap (λ p. option_and_then (name_at (name_strings o)) (option_map (λ (name : List ℕ). soname_place o) p)) none ∙ sym none
        | inr one ↦ ap (λ p. option_and_then (name_at (name_strings o)) (option_map (λ (name : List ℕ). soname_place o) p)) one.1 ∙ name_there one.0 one.1 ∙ sym one.1
      ]

  pub soname_passes : first_failing (soname_tests (field.strings (object_file o)) (field.entries (object_file o))) ≡ None
  unfolding soname_tests
  soname_passes =
      let file = object_file o in
      let test = λ (e : DynEntry). refuses refusal.NameRange e.offset (is_none (name_at (field.strings file) e.value)) ∷ [] in
      elim (none_or o.soname) [
        | inl none ↦
            ap (λ p. first_failing (of_some p test))
            (none_mapped (λ (e : DynEntry). e.value) (first_of DT_SONAME (field.entries file)) (value_is o w f short DT_SONAME ∙ soname_value o ∙ ap (option_map (λ (name : List ℕ). soname_place o)) none))
        | inr one ↦
            let found = first_is o w f short DT_SONAME (soname_place o) (soname_value o ∙ ap (option_map (λ (name : List ℕ). soname_place o)) one.1) in
            ap (λ p. first_failing (of_some p test)) found.1
            ∙ ap (λ v. first_failing (refuses refusal.NameRange (found.0).offset (is_none (name_at (field.strings file) v)) ∷ [])) found.2
            ∙ ap (λ names. first_failing (refuses refusal.NameRange (found.0).offset (is_none (name_at names (soname_place o))) ∷ [])) (strings_read o w f short)
            ∙ ap (λ p. first_failing (refuses refusal.NameRange (found.0).offset (is_none p) ∷ [])) (name_there one.0 one.1)
      ]

  -- ---- flags

  no_flags : (flag : ℕ) → has_dynamic_flag flag (field.entries (object_file o)) ≡ false
  no_flags flag = ap (λ p. option_map_or (λ flags. has_flag flags flag) p false) (value_is o w f short DT_FLAGS ∙ flags_value o)

  has : (tag : ℕ) (p : Option ℕ) → value_of tag (field.entries (object_file o)) ≡ p → is_some (first_of tag (field.entries (object_file o))) ≡ is_some p
  has tag p is = is_some_map (λ (e : DynEntry). e.value) (first_of tag (field.entries (object_file o))) ∙ ap is_some is

  pub symbolic_is_read : is_symbolic (field.entries (object_file o)) ≡ o.symbolic
  unfolding is_symbolic
  symbolic_is_read =
      let es = field.entries (object_file o) in
      ap (λ b. b || has_dynamic_flag DF_SYMBOLIC es) (has DT_SYMBOLIC (cond o.symbolic (Some 0) None) (value_is o w f short DT_SYMBOLIC ∙ symbolic_value o))
      ∙ ap (λ b. is_some {T = ℕ} (cond o.symbolic (Some 0) None) || b) (no_flags DF_SYMBOLIC) ∙ there o.symbolic

  pub now_is_read : is_now (field.entries (object_file o)) ≡ o.now
  unfolding is_now
  now_is_read =
      let es = field.entries (object_file o) in
      ap (λ b. b || has_dynamic_flag DF_BIND_NOW es) (has DT_BIND_NOW (cond o.now (Some 0) None) (value_is o w f short DT_BIND_NOW ∙ now_is o))
      ∙ ap (λ b. is_some {T = ℕ} (cond o.now (Some 0) None) || b) (no_flags DF_BIND_NOW) ∙ there o.now

  -- ---- what is to be called

  array_read : (a b : ℕ) (x : Option Extent) → value_of a (field.entries (object_file o)) ≡ option_map (λ (e : Extent). e.addr) x → value_of b (field.entries (object_file o)) ≡ option_map (λ (e : Extent). e.size) x → IfSome x (λ (e : Extent). 0 < e.size)
      → extent_of (field.entries (object_file o)) a b ≡ x
  unfolding extent_of
  array_read a b x addr size some =
      ap (option_and_then (λ addr. option_and_then (λ size. cond (nat_lt 0 size) (Some (record { addr = addr; size = size })) None) (value_of b (field.entries (object_file o))))) addr
      ∙ ap (λ s. option_and_then (λ addr. option_and_then (λ size. cond (nat_lt 0 size) (Some (record { addr = addr; size = size })) None) s) (option_map (λ (e : Extent). e.addr) x)) size
      ∙ extent_is x some

  pub inits_are_read : inits_of (field.entries (object_file o)) ≡ o.inits
  unfolding inits_of
  inits_are_read =
      let a : value_of DT_INIT (field.entries (object_file o)) ≡ (o.inits).init = value_is o w f short DT_INIT ∙ init_value o in
      let b : value_of DT_FINI (field.entries (object_file o)) ≡ (o.inits).fini = value_is o w f short DT_FINI ∙ fini_value o in
      let c = array_read DT_INIT_ARRAY DT_INIT_ARRAYSZ (o.inits).init_array (value_is o w f short DT_INIT_ARRAY ∙ starts_value o) (value_is o w f short DT_INIT_ARRAYSZ ∙ starts_size_value o) w.some_starts in
      let d = array_read DT_FINI_ARRAY DT_FINI_ARRAYSZ (o.inits).fini_array (value_is o w f short DT_FINI_ARRAY ∙ ends_value o) (value_is o w f short DT_FINI_ARRAYSZ ∙ ends_size_value o) w.some_ends in
      rw (a, b, c, d) refl
