-- The linked object of a link whose tests have held so far: its names can be written, and the object where its tables have
-- room.
use Rattle.std.proofs.Common.{◌≡◌, ap, sym, ◌∙◌, ℕ, ◌^◌, ◌<◌, List, [], ◌∷◌, ◌++◌, None, arith}
use Rattle.std.specs.Prelude.{IfSome, length, not, ◌&&◌, nat_lt}
use Rattle.std.proofs.lemmas.List.Elements.{All-contains}
use Rattle.fd_base.proofs.Members.{all_contained}
use Rattle.fd_base.specs.declared.store.TheConstants.{MAX_FILE}
use Rattle.elf_model.specs.declared.constants.TheConstants.{MAX_NEEDED}
use Rattle.elf_model.specs.declared.object.Symbol.{Symbol}
use Rattle.elf_model.specs.declared.relocatable.RelObject.{RelObject}
use Rattle.elf_model.specs.RelSound.{IsNameText}
use Rattle.elf_model.specs.Test.{first_failing}
use Rattle.elf_model.proofs.Tests.{passed_over}
use Rattle.elf_write.specs.WritableObject.{IsSymbolWritable, IsWritableObject}
use Rattle.link_model.specs.declared.error.LinkRefusal.TheVariants.{TooLarge}
use Rattle.link_model.specs.declared.input.Lib.{Lib}
use Rattle.link_model.specs.declared.input.Mode.{Mode}
use Rattle.link_model.specs.DynamicSymbols.{symbols_for}
use Rattle.link_model.specs.Object.{object_of}
use Rattle.link_model.specs.Places.{text_end, data_place, data_end}
use Rattle.link_model.specs.Refusals.{size_tests}
use Rattle.link_model.specs.Segments.{segments_of}
use Rattle.link_model.specs.Targets.{is_static, refuses}
use Rattle.link_writes.specs.Linked.{AreInputs, sizes_with}
use Rattle.link_writes.proofs.Segmented.{some_data}
use Rattle.link_writes.proofs.Symbols.{symbols_writable}
use Rattle.link_writes.proofs.Tested.{few, head_holds}
use Rattle.link_writes.proofs.Texts.{needed_count, needed_texts, soname_text}
use Rattle.link_writes.proofs.Writable.{linked_is_writable}
use Rattle.fdpic_link.specs.parts.Large.{AreNamed, needed_tests, table_tests}
use Rattle.fdpic_link.specs.parts.Stages.{early_tests}
use Rattle.fdpic_link.proofs.Stages.{early_first}

module _ (mode : Mode) (soname : List ℕ) (inputs : List RelObject) (libs : List Lib) (given : AreInputs soname inputs libs) (needed : first_failing (needed_tests mode libs) ≡ None) where
  text_below : data_end mode inputs < 2 ^ 32 → text_end mode inputs < 2 ^ 32
  unfolding data_place
  text_below below = let some = some_data mode inputs in omega (arith, some, below)

  pub are_named : data_end mode inputs < 2 ^ 32 → AreNamed (object_of mode soname inputs libs)
  unfolding object_of
  are_named below =
      let writable = symbols_writable inputs given.sound mode (text_below below) in
      let test = head_holds (not (is_static mode) && nat_lt MAX_NEEDED (length libs)) TooLarge None needed in
      record {
        symbols =
            all_contained (λ (s : Symbol). IfSome s.name IsNameText) (symbols_for mode inputs)
            (λ s there. (All-contains (IsSymbolWritable (segments_of mode inputs)) (symbols_for mode inputs) s writable there).named);
        own_name = soname_text mode soname inputs libs given;
        few_needed = needed_count mode libs (few mode inputs (is_static mode) (length libs) test.0);
        needed_names = needed_texts mode soname inputs libs given;
      }

  -- whatever size the file would have
  pub is_writable : first_failing (early_tests mode inputs) ≡ None → first_failing (table_tests (object_of mode soname inputs libs)) ≡ None → IsWritableObject (object_of mode soname inputs libs)
  is_writable early tables =
      let o = object_of mode soname inputs libs in
      let any = sizes_with (λ _. 0) in
      let file = refuses TooLarge (nat_lt MAX_FILE 0) ∷ [] in
      linked_is_writable (λ _. 0) mode soname inputs libs given
      (ap first_failing (sym (early_first mode soname inputs libs any)) ∙ passed_over (early_tests mode inputs) (size_tests any mode o libs) early
      ∙ passed_over (needed_tests mode libs) (table_tests o ++ file) needed ∙ passed_over (table_tests o) file tables)
