-- Where each test of a link holds, the linked object can be written.
use Rattle.std.proofs.Common.{◌≡◌, refl, sym, subst, ℕ, ◌+◌, ◌^◌, ◌<◌, Bool, true, false, cond, List, [], ◌∷◌, map, arith, All, AllPairs}
use Rattle.std.specs.Prelude.{◌==◌, Contains, take}
use Rattle.std.proofs.lemmas.Bool.{eqb-true}
use Rattle.std.proofs.lemmas.List.Elements.{All-nil, All-cons}
use Rattle.fd_base.proofs.Members.{contains_first}
use Rattle.elf_model.specs.declared.constants.TheConstants.{SHT_INIT_ARRAY, SHT_FINI_ARRAY}
use Rattle.elf_model.specs.declared.object.Object.{Object}
use Rattle.elf_model.specs.declared.object.Segment.{Segment}
use Rattle.elf_model.specs.declared.object.Symbol.{Symbol}
use Rattle.elf_model.specs.declared.relocatable.RelObject.{RelObject}
use Rattle.elf_model.specs.declared.table.Site.{Site}
use Rattle.elf_model.specs.Sound.{IsSound, RangesApart}
use Rattle.elf_model.specs.Symbols.{null_symbol}
use Rattle.elf_write.specs.WritableObject.{IsSymbolWritable, IsWritableObject}
use Rattle.link_model.specs.declared.input.Lib.{Lib}
use Rattle.link_model.specs.declared.input.Mode.{Mode}
use Rattle.link_model.specs.DynamicSymbols.{dynamic_symbol, shown_targets, symbols_for}
use Rattle.link_model.specs.Object.{object_of, sections_of_kind}
use Rattle.link_model.specs.Places.{text_end}
use Rattle.link_model.specs.Segments.{text_segment, data_segment, segments_of}
use Rattle.link_model.specs.Targets.{is_static}
use Rattle.link_model.proofs.Written.{words_are_linked}
use Rattle.link_writes.specs.Linked.{AreInputs, LinkedIsWritable}
use Rattle.link_writes.proofs.Fields.{filled, named, filled_is, named_fillable, rels_written, all_slots_written, slot_kinds, some_extent}
use Rattle.link_writes.proofs.Segmented.{one_or_two, segments_aligned, segments_sized, ends_below}
use Rattle.link_writes.proofs.Sounding.{IsInData, header, with_header, all_in_place, all_whole}
use Rattle.link_writes.proofs.Symbols.{symbols_writable}
use Rattle.link_writes.proofs.Tested.{ArePassed, all_passed}
use Rattle.link_writes.proofs.Texts.{needed_count, needed_texts, soname_text}

module _ (mode : Mode) (soname : List ℕ) (inputs : List RelObject) (libs : List Lib) (given : AreInputs soname inputs libs) (passed : ArePassed mode inputs soname libs) where
  abbrev o : Object
  o = object_of mode soname inputs libs

  abbrev ss : List Segment
  ss = segments_of mode inputs

  -- ---- what loading fills

  ranges : List Site
  ranges = header mode inputs ∷ filled mode inputs given.sound passed.sites

  in_data : All (IsInData mode inputs) ranges × AllPairs RangesApart ranges
  unfolding ranges
  in_data =
      let is = filled_is mode inputs given.sound passed.sites in
      subst (λ rs. All (IsInData mode inputs) (header mode inputs ∷ rs) × AllPairs RangesApart (header mode inputs ∷ rs)) (sym is)
      (with_header mode inputs (named mode inputs given.sound passed.sites) (named_fillable mode inputs given.sound passed.sites))

  pub below : (s : Segment) → Contains ss s → s.vaddr + s.memsz < 2 ^ 32
  unfolding object_of
  below s there = ends_below o s (passed.room).below there

  pub is_sound : IsSound o
  unfolding object_of ranges
  is_sound =
      let count = one_or_two mode inputs in
      record {
        few = omega (arith, count.1);
        apart = words_are_linked.apart mode inputs;
        sized = segments_sized mode inputs given.sound (words_are_linked.roomy mode inputs) below;
        in_place = all_in_place mode inputs ranges in_data.0;
        whole = all_whole mode inputs ranges in_data.0;
        distinct = in_data.1;
        slot_kinds = slot_kinds mode inputs given.sound passed.sites;
        few_rels = (passed.room).few_rels;
        few_slots = (passed.room).few_slots;
      }

  -- ---- all

  null_first : All (λ s. s ≡ null_symbol) (take 1 (symbols_for mode inputs))
  null_first = by (is_static mode)
    where
      by : (b : Bool) → All (λ s. s ≡ null_symbol) (take 1 (cond b [] (null_symbol ∷ map (dynamic_symbol mode inputs) (shown_targets mode inputs))))
      by true = All-nil (λ (s : Symbol). s ≡ null_symbol)
      by false = All-cons (λ (s : Symbol). s ≡ null_symbol) null_symbol [] refl (All-nil (λ (s : Symbol). s ≡ null_symbol))

  pub is_writable : All (IsSymbolWritable ss) (symbols_for mode inputs) → IsWritableObject o
  unfolding object_of
  is_writable symbols =
      let count = one_or_two mode inputs in
      record {
        sound = is_sound;
        some_segment = omega (arith, count.0);
        room = omega (arith, count.1);
        alignments = segments_aligned mode inputs given.sound;
        null_first = null_first;
        few_symbols = (passed.room).few_symbols;
        writable_symbols = symbols;
        few_needed = needed_count mode libs (passed.room).few_needed;
        needed_named = needed_texts mode soname inputs libs given;
        soname_named = soname_text mode soname inputs libs given;
        writable_rels = rels_written mode inputs given.sound passed.sites;
        writable_slots = all_slots_written mode inputs given.sound passed.sites;
        some_starts = some_extent mode inputs (sections_of_kind inputs SHT_INIT_ARRAY);
        some_ends = some_extent mode inputs (sections_of_kind inputs SHT_FINI_ARRAY);
        below = (passed.room).below;
      }

  -- the text ends below the tables
  text_below : text_end mode inputs < 2 ^ 32
  text_below = by (text_end mode inputs == 0) refl
    where
      there : (text_end mode inputs == 0) ≡ false → Contains ss (text_segment mode inputs)
      there e =
          subst (λ b. Contains (cond b (data_segment mode inputs ∷ []) (text_segment mode inputs ∷ data_segment mode inputs ∷ [])) (text_segment mode inputs)) (sym e)
          (contains_first (text_segment mode inputs) (text_segment mode inputs) (data_segment mode inputs ∷ []) refl)

      by : (b : Bool) → (text_end mode inputs == 0) ≡ b → text_end mode inputs < 2 ^ 32
      by true e = let none : text_end mode inputs ≡ 0 = eqb-true (text_end mode inputs) 0 e in omega (arith, none)
      by false e = let end = below (text_segment mode inputs) (there e) in omega (arith, end)

pub linked_is_writable : LinkedIsWritable
linked_is_writable file_size mode soname inputs libs given h =
    let passed = all_passed mode inputs file_size soname libs h in
    is_writable mode soname inputs libs given passed (symbols_writable inputs given.sound mode (text_below mode soname inputs libs given passed))
