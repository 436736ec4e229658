-- The fields of IsSound and IsWritableObject, each of a link whose tests hold.
use Rattle.std.proofs.Common.{◌≡◌, refl, ap, sym, ◌∙◌, ℕ, ◌+◌, ◌-◌, ◌<◌, Bool, true, false, cond, List, [], ◌∷◌, ◌++◌, map, length, arith, All}
use Rattle.std.specs.Prelude.{nat_lt, Contains, unwrap_or, Some, None, IfSome}
use Rattle.std.specs.Option.{option_map_or}
use Rattle.std.specs.List.{last_or}
use Rattle.std.proofs.lemmas.Bool.{false≢true}
use Rattle.std.proofs.lemmas.Bool.Decides.{nat_tests}
use Rattle.std.proofs.lemmas.List.{append-nil}
use Rattle.std.proofs.lemmas.List.Elements.{All-nil, All-head, All-tail, All-contains}
use Rattle.fd_base.proofs.Members.{all_contained, contains_first, in_map}
use Rattle.elf_model.specs.declared.constants.TheConstants.{R_ARM_FUNCDESC_VALUE}
use Rattle.elf_model.specs.declared.object.Extent.{Extent}
use Rattle.elf_model.specs.declared.object.Rel.{Rel}
use Rattle.elf_model.specs.declared.relocatable.RelObject.{RelObject}
use Rattle.elf_model.specs.declared.table.Site.{Site}
use Rattle.elf_model.specs.Places.{site_of_rel}
use Rattle.elf_model.specs.RelSound.{IsRelSound}
use Rattle.elf_model.specs.Relocations.{word_site}
use Rattle.elf_write.specs.WritableObject.{IsRelWritable}
use Rattle.link_model.specs.declared.input.Mode.{Mode}
use Rattle.link_model.specs.DynamicRels.{dynamic_rels, rels_for, jmprels_for, fixups_for}
use Rattle.link_model.specs.DynamicSymbols.{symbols_for}
use Rattle.link_model.specs.Inputs.{InputSection, InputRel, all_rels}
use Rattle.link_model.specs.Needs.{slot_keys}
use Rattle.link_model.specs.Object.{extent_of}
use Rattle.link_model.specs.Places.{section_place}
use Rattle.link_model.specs.SiteTests.{meets_earlier}
use Rattle.link_model.specs.Targets.{is_static}
use Rattle.link_model.specs.parts.Laws.{AreClear, IsWellTyped}
use Rattle.link_model.proofs.Passed.{passing_is_fitting}
use Rattle.link_writes.proofs.Relocated.{IsRelocation, IsSlot, dynamic_relocations, slots_written}
use Rattle.link_writes.proofs.Sites.{slot_rel, dynamic_apart, dynamic_fillable, slots_apart, slots_fillable, dynamic_or_slot}
use Rattle.link_writes.proofs.Sounding.{AreFillable, of_rels}
use Rattle.link_writes.proofs.Tested.{IsPassed}

module _ (mode : Mode) (inputs : List RelObject) (sound : All IsRelSound inputs) (sites : All (IsPassed mode inputs) (all_rels inputs)) where
  pub typed : (x : InputRel) → Contains (all_rels inputs) x → IsWellTyped mode inputs x
  typed x there = passing_is_fitting.types mode inputs x (All-contains (IsPassed mode inputs) (all_rels inputs) x sites there).typed

  pub clear : AreClear inputs
  clear = record { sound = sound; clear = all_contained (λ x. meets_earlier x ≡ false) (all_rels inputs) (λ x there. (typed x there).clear) }

  -- ---- what loading fills

  abbrev pub filled : List Site
  filled = map site_of_rel (rels_for mode inputs) ++ map site_of_rel (jmprels_for mode inputs) ++ map word_site (unwrap_or (fixups_for mode inputs) [])

  abbrev pub named : List Site
  named = map site_of_rel (dynamic_rels mode inputs) ++ map site_of_rel (jmprels_for mode inputs)

  pub named_fillable : AreFillable mode inputs named
  named_fillable =
      of_rels mode inputs (dynamic_rels mode inputs) (jmprels_for mode inputs) (dynamic_fillable mode inputs clear typed) (slots_fillable mode inputs clear typed)
      (dynamic_apart mode inputs clear typed) (slots_apart mode inputs clear typed) (dynamic_or_slot mode inputs clear typed)

  -- none where the program stands alone
  no_slots : is_static mode ≡ true → jmprels_for mode inputs ≡ []
  no_slots alone = by (jmprels_for mode inputs) (slots_written mode inputs typed)
    where
      by : (rs : List Rel) → All (IsSlot mode inputs typed) rs → rs ≡ []
      by [] all = refl
      by (r ∷ rs) all =
          let s = All-contains (IsSlot mode inputs typed) (r ∷ rs) r all (contains_first r r rs refl) in
          absurd (false≢true (sym s.linked ∙ alone))

  words_of_sites : is_static mode ≡ true → map word_site (map (λ r. r.site) (dynamic_rels mode inputs)) ≡ map site_of_rel (dynamic_rels mode inputs)
  words_of_sites alone = each (dynamic_rels mode inputs) (dynamic_relocations mode inputs typed)
    where
      each : (rs : List Rel) → All (IsRelocation mode inputs) rs → map word_site (map (λ r. r.site) rs) ≡ map site_of_rel rs
      each [] all = refl
      each (r ∷ rs) all =
          let size = (All-head (IsRelocation mode inputs) r rs all).small alone in
          let rest = each rs (All-tail (IsRelocation mode inputs) r rs all) in
          λ i. record { addr = r.site; size = (sym size) i } ∷ rest i

  pub filled_is : filled ≡ named
  filled_is = by (is_static mode) refl
    where
      slots : List Site
      slots = map site_of_rel (jmprels_for mode inputs)

      by : (b : Bool) → is_static mode ≡ b
          → map site_of_rel (cond b [] (dynamic_rels mode inputs)) ++ slots ++ map word_site (unwrap_or (cond b (Some (map (λ r. r.site) (dynamic_rels mode inputs))) None) []) ≡ named
      by false e = append-nil named
      by true e =
          let none : slots ≡ [] = ap (map site_of_rel) (no_slots e) in
          (λ i. none i ++ words_of_sites e i) ∙ sym (append-nil (map site_of_rel (dynamic_rels mode inputs))) ∙ ap (λ xs. map site_of_rel (dynamic_rels mode inputs) ++ xs) (sym none)

  -- ---- tables

  pub rels_written : All (IsRelWritable (length (symbols_for mode inputs))) (rels_for mode inputs)
  rels_written = by (is_static mode)
    where
      each : All (IsRelWritable (length (symbols_for mode inputs))) (dynamic_rels mode inputs)
      each = all_contained (IsRelWritable (length (symbols_for mode inputs))) (dynamic_rels mode inputs) (λ r there. (All-contains (IsRelocation mode inputs) (dynamic_rels mode inputs) r (dynamic_relocations mode inputs typed) there).writable)

      by : (b : Bool) → All (IsRelWritable (length (symbols_for mode inputs))) (cond b [] (dynamic_rels mode inputs))
      by true = All-nil (IsRelWritable (length (symbols_for mode inputs)))
      by false = each

  pub all_slots_written : All (IsRelWritable (length (symbols_for mode inputs))) (jmprels_for mode inputs)
  all_slots_written =
      all_contained (IsRelWritable (length (symbols_for mode inputs))) (jmprels_for mode inputs) (λ r there. (All-contains (IsSlot mode inputs typed) (jmprels_for mode inputs) r (slots_written mode inputs typed) there).writable)

  pub slot_kinds : All (λ r. r.kind ≡ R_ARM_FUNCDESC_VALUE) (jmprels_for mode inputs)
  slot_kinds = all_contained (λ (r : Rel). r.kind ≡ R_ARM_FUNCDESC_VALUE) (jmprels_for mode inputs) (λ r there.
      let from = in_map (slot_rel mode inputs) (slot_keys mode inputs) r there in
      ap (λ (q : Rel). q.kind) (sym from.2))

-- ---- arrays

pub some_extent : (mode : Mode) (inputs : List RelObject) (xs : List InputSection) → IfSome (extent_of mode inputs xs) (λ (e : Extent). 0 < e.size)
some_extent mode inputs [] = tt
some_extent mode inputs (x ∷ xs) =
    by (section_place mode inputs x.index) (option_map_or (λ y. section_place mode inputs y.index + (y.section).size) (last_or (Some x) xs) 0) (nat_lt (section_place mode inputs x.index) (option_map_or (λ y. section_place mode inputs y.index + (y.section).size) (last_or (Some x) xs) 0)) refl
  where
    by : (low high : ℕ) (b : Bool) → nat_lt low high ≡ b → IfSome (cond b (Some (record { addr = low; size = high - low })) None) (λ (e : Extent). 0 < e.size)
    by low high true e = let lt : low < high = grind (arith, nat_tests) in omega (arith, lt)
    by low high false e = tt
