-- What the stages of a link come to.
use Rattle.std.proofs.Common.{◌≡◌, sym, subst, refl, ℕ, ◌^◌, ◌<◌, ◌≤◌, List, ◌++◌, length, All, false, None, Result, Ok, Err, IfOk, arith}
use Rattle.std.specs.Prelude.{flat_map, nat_lt}
use Rattle.std.proofs.lemmas.Bool.Decides.{nat_tests}
use Rattle.fd_base.specs.declared.store.TheConstants.{MAX_FILE}
use Rattle.elf_model.specs.declared.relocatable.RelObject.{RelObject}
use Rattle.elf_model.specs.Object.{IsObject}
use Rattle.elf_model.specs.Test.{first_failing}
use Rattle.elf_model.proofs.Tests.{both_pass}
use Rattle.elf_write.specs.ObjectFile.{object_file}
use Rattle.elf_write.specs.TableSegment.{with_tables}
use Rattle.link_model.specs.declared.error.LinkErr.{LinkErr}
use Rattle.link_model.specs.declared.input.Lib.{Lib}
use Rattle.link_model.specs.declared.input.Mode.{Mode}
use Rattle.link_model.specs.DynamicSymbols.{symbols_for}
use Rattle.link_model.specs.Inputs.{all_rels}
use Rattle.link_model.specs.Needs.{need_tests}
use Rattle.link_model.specs.Object.{object_of}
use Rattle.link_model.specs.Places.{data_end}
use Rattle.link_model.specs.Refusals.{entry_tests, size_tests, tests}
use Rattle.link_model.specs.SiteTests.{site_tests}
use Rattle.link_model.specs.Targets.{all_name_tests}
use Rattle.link_checks.specs.parts.Entry.{entry_of}
use Rattle.link_writes.specs.Linked.{AreInputs, written_sizes}
use Rattle.link_writes.proofs.Tested.{all_passed, head_holds}
use Rattle.link_writes.proofs.Writable.{linked_is_writable}
use Rattle.write_laws.specs.ObjectReadBack.{IsWord, FitsObjectFields}
use Rattle.write_laws.proofs.ObjectLaw.{written_object_is_read}
use Rattle.elf_write.specs.declared.limits.TheConstants.{MAX_FILE_BYTES}
use Rattle.link_model.specs.declared.error.LinkRefusal.TheVariants.{TooLarge}
use Rattle.fdpic_link.specs.parts.Links.{Links}
use Rattle.fdpic_link.specs.parts.Large.{needed_tests, table_tests, file_tests}
use Rattle.fdpic_link.specs.parts.Stages.{early_tests}
use Rattle.fdpic_link.proofs.Fitting.{entry_low, fits}

module _ (mode : Mode) (inputs : List RelObject) where
  entered : first_failing (early_tests mode inputs) ≡ None → first_failing (entry_tests mode inputs) ≡ None
  entered early =
      let sites = flat_map (site_tests mode inputs) (all_rels inputs) in
      (both_pass sites (entry_tests mode inputs)
      (both_pass (all_name_tests mode inputs ++ need_tests mode inputs) (sites ++ entry_tests mode inputs) early).1).1

  -- a program begins below 2^32
  pub begins_low : data_end mode inputs < 2 ^ 32 → first_failing (early_tests mode inputs) ≡ None → IsWord (entry_of mode inputs)
  begins_low below early = entry_low mode inputs below (entered early)

  module _ (soname : List ℕ) (libs : List Lib) where
    pub symbols_are : (object_of mode soname inputs libs).symbols ≡ symbols_for mode inputs
    unfolding object_of
    symbols_are = refl

    entry_passes : first_failing (tests written_sizes mode soname inputs libs) ≡ None → first_failing (entry_tests mode inputs) ≡ None
    unfolding tests
    entry_passes h =
        let sizes = size_tests written_sizes mode (object_of mode soname inputs libs) libs in
        let last = entry_tests mode inputs ++ sizes in
        let behind_needs = flat_map (site_tests mode inputs) (all_rels inputs) ++ last in
        let names = both_pass (all_name_tests mode inputs) (need_tests mode inputs ++ behind_needs) h in
        let needs = both_pass (need_tests mode inputs) behind_needs names.1 in
        let sites = both_pass (flat_map (site_tests mode inputs) (all_rels inputs)) last needs.1 in
        (both_pass (entry_tests mode inputs) sizes sites.1).0

    file_short : first_failing (tests written_sizes mode soname inputs libs) ≡ None → length (object_file (object_of mode soname inputs libs)) ≤ MAX_FILE_BYTES
    unfolding tests
    file_short h =
        let o = object_of mode soname inputs libs in
        let sizes = size_tests written_sizes mode o libs in
        let last = entry_tests mode inputs ++ sizes in
        let behind_needs = flat_map (site_tests mode inputs) (all_rels inputs) ++ last in
        let names = both_pass (all_name_tests mode inputs) (need_tests mode inputs ++ behind_needs) h in
        let needs = both_pass (need_tests mode inputs) behind_needs names.1 in
        let sites = both_pass (flat_map (site_tests mode inputs) (all_rels inputs)) last needs.1 in
        let all = (both_pass (entry_tests mode inputs) sizes sites.1).1 in
        let file = (both_pass (needed_tests mode libs) (table_tests o ++ file_tests o) all).1 in
        let test = head_holds (nat_lt MAX_FILE (length (object_file o))) TooLarge None (both_pass (table_tests o) (file_tests o) file).1 in
        let e : nat_lt MAX_FILE (length (object_file o)) ≡ false = test.0 in
        grind (arith, nat_tests)

    -- the numbers of what is linked fit their fields
    pub fits_of : (r : Result (List ℕ) LinkErr) → AreInputs soname inputs libs → data_end mode inputs < 2 ^ 32
        → All (λ s. IsWord s.size) (object_of mode soname inputs libs).symbols → Links mode soname inputs libs r
        → IfOk r (λ _. FitsObjectFields (object_of mode soname inputs libs))
    fits_of (Ok bytes) given below sizes is =
        let passed = all_passed mode inputs (λ o. length (object_file o)) soname libs is.0 in
        fits mode inputs below given.sound passed.sites soname libs (entry_passes is.0) (subst (All (λ s. IsWord s.size)) symbols_are sizes)
    fits_of (Err e) given below sizes is = tt

    -- what is linked is read back
    pub reads_of : (r : Result (List ℕ) LinkErr) → AreInputs soname inputs libs → Links mode soname inputs libs r
        → IfOk r (λ _. FitsObjectFields (object_of mode soname inputs libs)) → IfOk r (λ bytes. IsObject bytes (with_tables (object_of mode soname inputs libs)))
    reads_of (Ok bytes) given is fits' =
        let o = object_of mode soname inputs libs in
        let short = file_short is.0 in
        subst (λ b. IsObject b (with_tables o)) (sym is.1)
        (written_object_is_read o (linked_is_writable (λ o. length (object_file o)) mode soname inputs libs given is.0) fits' short)
    reads_of (Err e) given is fits' = tt
