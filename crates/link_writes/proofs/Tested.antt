-- Of a link each test of which holds, each thing that they ask.
use Rattle.std.proofs.Common.{◌≡◌, ◌∙◌, sym, refl, ap, ℕ, ◌^◌, ◌<◌, ◌≤◌, inl, inr, Bool, true, false, cond, not, ◌&&◌, ◌||◌, List, [], ◌∷◌, ◌++◌, length, None, Some, Option, arith}
use Rattle.std.specs.Prelude.{nat_lt, nat_le, All, Contains, flat_map}
use Rattle.std.proofs.lemmas.Bool.{or_parts}
use Rattle.std.proofs.lemmas.Bool.Decides.{nat_tests}
use Rattle.fd_base.proofs.Members.{all_contained, first_or_later, nothing_in}
use Rattle.fd_base.specs.declared.store.TheConstants.{MAX_FILE}
use Rattle.elf_model.specs.declared.constants.TheConstants.{MAX_ENTRIES, MAX_NEEDED}
use Rattle.elf_model.specs.declared.object.Object.{Object}
use Rattle.elf_model.specs.declared.relocatable.RelObject.{RelObject}
use Rattle.elf_model.specs.Test.{first_failing}
use Rattle.elf_model.proofs.Tests.{both_pass}
use Rattle.elf_write.specs.TableSegment.{table_end}
use Rattle.link_model.specs.declared.input.Lib.{Lib}
use Rattle.link_model.specs.declared.input.Mode.{Mode}
use Rattle.link_model.specs.declared.error.LinkRefusal.{LinkRefusal}
use Rattle.link_model.specs.declared.error.LinkRefusal.TheVariants.{CrossSegment, RelocType, ThumbBranch, TooLarge}
use Rattle.link_model.specs.Inputs.{InputRel, all_rels}
use Rattle.link_model.specs.Needs.{need_tests}
use Rattle.link_model.specs.Object.{object_of}
use Rattle.link_model.specs.Refusals.{entry_tests, is_crowded, size_tests, tests}
use Rattle.link_model.specs.SiteTests.{is_thumb, site_of, is_wrong_type, is_cross, site_tests}
use Rattle.link_model.specs.Targets.{is_static, all_name_tests, LinkTest, refuses}
use Rattle.link_writes.specs.Linked.{sizes_with}

-- ---- any tests

pub head_holds : (b : Bool) (r : LinkRefusal) (o : Option LinkRefusal) → cond b (Some r) o ≡ None → (b ≡ false) × (o ≡ None)
head_holds true r o h = absurd cc
head_holds false r o h = (refl, h)

each_holds : {X : Type 0} (made : X → List LinkTest) (xs : List X) → first_failing (flat_map made xs) ≡ None → (x : X) → Contains xs x → first_failing (made x) ≡ None
each_holds made [] h x there = absurd (nothing_in x there)
each_holds made (y ∷ xs) h x there =
    let parts = both_pass (made y) (flat_map made xs) h in
    elim (first_or_later y x xs there) [
      | inl same ↦ ap (λ z. first_failing (made z)) (sym same) ∙ parts.0
      | inr later ↦ each_holds made xs parts.1 x later
    ]

-- ---- those of a link

module _ (mode : Mode) (inputs : List RelObject) where
  -- a relocation passes
  pub record IsPassed (x : InputRel) : Type 0 where
    pub typed : is_wrong_type mode inputs x ≡ false
    pub near : is_cross mode inputs x ≡ false

  passed : (x : InputRel) → first_failing (site_tests mode inputs x) ≡ None → IsPassed x
  unfolding site_tests
  passed x h =
      let third = refuses (CrossSegment (site_of x)) (is_cross mode inputs x) ∷ [] in
      let second = refuses (RelocType (site_of x)) (is_wrong_type mode inputs x) ∷ third in
      let one = head_holds (is_thumb x) (ThumbBranch (site_of x)) (first_failing second) h in
      let two = head_holds (is_wrong_type mode inputs x) (RelocType (site_of x)) (first_failing third) one.1 in
      let three = head_holds (is_cross mode inputs x) (CrossSegment (site_of x)) None two.1 in
      record { typed = two.0; near = three.0 }

  -- an object has room
  pub record HasRoom (libs : List Lib) (o : Object) : Type 0 where
    pub few_needed : is_static mode ≡ false → length libs ≤ MAX_NEEDED
    pub few_symbols : length o.symbols ≤ MAX_ENTRIES
    pub few_rels : length o.rels ≤ MAX_ENTRIES
    pub few_slots : length o.jmprels ≤ MAX_ENTRIES
    pub below : table_end o < 2 ^ 32

  pub few : (b : Bool) (n : ℕ) → (not b && nat_lt MAX_NEEDED n) ≡ false → b ≡ false → n ≤ MAX_NEEDED
  few true n h e = absurd cc
  few false n h e = grind (arith, nat_tests)

  has_room : (file_size : Object → ℕ) (libs : List Lib) (o : Object) → first_failing (size_tests (sizes_with file_size) mode o libs) ≡ None → HasRoom libs o
  has_room file_size libs o h =
      let last = refuses TooLarge (nat_lt MAX_FILE (file_size o)) ∷ [] in
      let third = refuses TooLarge (nat_le (2 ^ 32) (table_end o)) ∷ last in
      let second = refuses TooLarge (is_crowded o) ∷ third in
      let one = head_holds (not (is_static mode) && nat_lt MAX_NEEDED (length libs)) TooLarge (first_failing second) h in
      let two = head_holds (is_crowded o) TooLarge (first_failing third) one.1 in
      let three = head_holds (nat_le (2 ^ 32) (table_end o)) TooLarge (first_failing last) two.1 in
      let crowds = or_parts (nat_lt MAX_ENTRIES (length o.symbols)) (nat_lt MAX_ENTRIES (length o.rels) || nat_lt MAX_ENTRIES (length o.jmprels)) two.0 in
      let tables = or_parts (nat_lt MAX_ENTRIES (length o.rels)) (nat_lt MAX_ENTRIES (length o.jmprels)) crowds.1 in
      record {
        few_needed = few (is_static mode) (length libs) one.0;
        few_symbols = let e = crowds.0 in grind (arith, nat_tests);
        few_rels = let e = tables.0 in grind (arith, nat_tests);
        few_slots = let e = tables.1 in grind (arith, nat_tests);
        below = let e : nat_le (2 ^ 32) (table_end o) ≡ false = three.0 in grind (arith, nat_tests);
      }

  pub record ArePassed (soname : List ℕ) (libs : List Lib) : Type 0 where
    pub sites : All IsPassed (all_rels inputs)
    pub room : HasRoom libs (object_of mode soname inputs libs)

  pub all_passed : (file_size : Object → ℕ) (soname : List ℕ) (libs : List Lib) → first_failing (tests (sizes_with file_size) mode soname inputs libs) ≡ None
      → ArePassed soname libs
  unfolding tests
  all_passed file_size soname libs h =
      let sizes = size_tests (sizes_with file_size) mode (object_of mode soname inputs libs) libs in
      let last = entry_tests mode inputs ++ sizes in
      let behind_needs = flat_map (site_tests mode inputs) (all_rels inputs) ++ last in
      let names = both_pass (all_name_tests mode inputs) (need_tests mode inputs ++ behind_needs) h in
      let needs = both_pass (need_tests mode inputs) behind_needs names.1 in
      let sites = both_pass (flat_map (site_tests mode inputs) (all_rels inputs)) last needs.1 in
      let entry = both_pass (entry_tests mode inputs) sizes sites.1 in
      record {
        sites = all_contained IsPassed (all_rels inputs) (λ x there. passed x (each_holds (site_tests mode inputs) (all_rels inputs) sites.0 x there));
        room = has_room file_size libs (object_of mode soname inputs libs) entry.1;
      }
