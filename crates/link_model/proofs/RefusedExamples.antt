-- Links that are refused, one for each cause, and next to some what is just not refused.
use Rattle.std.proofs.Common.{◌≡◌, ℕ, false, List, [], ◌∷◌, Some, None, refl}
use Rattle.std.specs.Prelude.{codes, replicate}
use Rattle.fd_base.specs.Words.{word_in}
use Rattle.elf_model.specs.declared.constants.TheConstants.{STB_LOCAL, STB_GLOBAL, STT_NOTYPE, STT_FILE, STV_DEFAULT, STV_HIDDEN, R_ARM_NONE, R_ARM_PC24, R_ARM_ABS32, R_ARM_REL32, R_ARM_GLOB_DAT, R_ARM_GOTOFF32, R_ARM_GOT_BREL, R_ARM_CALL, R_ARM_JUMP24, R_ARM_GOTFUNCDESC, R_ARM_GOTOFFFUNCDESC, R_ARM_FUNCDESC}
use Rattle.elf_model.specs.declared.object.Kind.TheVariants.{Dyn}
use Rattle.elf_model.specs.declared.object.Place.TheVariants.{Undefined, Section, Dropped}
use Rattle.elf_model.specs.declared.relocatable.RelObject.{RelObject}
use Rattle.link_model.specs.declared.error.LinkRefusal.{LinkRefusal}
use Rattle.link_model.specs.declared.error.LinkRefusal.TheVariants.{Twice, Undefined as IsUndefined, CrossSegment, RelocType, ThumbBranch, NoEntry, TooLarge}
use Rattle.link_model.specs.declared.error.Site.{Site}
use Rattle.link_model.specs.declared.input.Lib.{Lib}
use Rattle.link_model.specs.declared.input.Mode.TheVariants.{Program, Shared, Static}
use Rattle.link_model.specs.DynamicSymbols.{shown_targets}
use Rattle.link_model.specs.Joined.{names_of}
use Rattle.link_model.specs.Needs.{target_at, all_needs, need_tests}
use Rattle.link_model.specs.Object.{object_of}
use Rattle.link_model.specs.Places.{text_end, data_place, section_place, data_end}
use Rattle.link_model.specs.Refusals.{tests, refusal_of}
use Rattle.link_model.specs.Sections.{text_place, text_sections_end}
use Rattle.link_model.specs.Sites.{site_address, input_word, site_word, site_rels}
use Rattle.link_model.specs.SiteTests.{is_wrong_type, is_cross, site_tests}
use Rattle.link_model.specs.Targets.{target_of, all_name_tests}
use Rattle.link_model.proofs.ExampleInputs.{refused, text, constants, variables, rel, symbol, local, global, weak, undefined, weak_undefined, absolute, common, file, start}

-- ---- names

abbrev defines_a : RelObject
defines_a = file (text (0 ∷ []) [] ∷ []) (global (codes "a") 0 0 ∷ [])

names : (refused Shared (defines_a ∷ defines_a ∷ []) [] ≡ Some (Twice (codes "a")))
    -- by first appearance, and no name twice where one is weak
    × (refused Shared (file [] (undefined (codes "b") ∷ []) ∷ defines_a ∷ file (text (0 ∷ []) [] ∷ []) (weak (codes "a") 0 0 ∷ []) ∷ []) [] ≡ None)
    × (refused Static (file [] (undefined (codes "b") ∷ []) ∷ defines_a ∷ defines_a ∷ []) [] ≡ Some (IsUndefined (codes "b")))
    -- nothing but its own object can define a hidden name
    × (refused Shared (file [] (symbol STB_GLOBAL STT_NOTYPE STV_HIDDEN (codes "h") Undefined 0 ∷ []) ∷ []) [] ≡ Some (IsUndefined (codes "h")))
    × (refused Static (file (text (0 ∷ []) [] ∷ []) (global start 0 0 ∷ weak_undefined (codes "w") ∷ common (codes "c") 4 4 ∷ []) ∷ []) [] ≡ None)
unfolding names_of target_of all_name_tests text_place text_sections_end target_at all_needs need_tests text_end data_place section_place data_end shown_targets site_address input_word site_word site_rels is_wrong_type is_cross site_tests object_of tests word_in
names = (refl, refl, refl, refl, refl)

-- ---- the entry

entries : (refused Program (defines_a ∷ []) [] ≡ Some NoEntry)
    × (refused Shared (defines_a ∷ []) [] ≡ None)
    × (refused Static (file (text (0 ∷ 0 ∷ []) [] ∷ []) (global start 0 2 ∷ []) ∷ []) [] ≡ Some NoEntry)
    × (refused Static (file (constants (0 ∷ []) [] ∷ []) (global start 0 0 ∷ []) ∷ []) [] ≡ Some NoEntry)
    × (refused Static (file (variables (0 ∷ []) [] ∷ []) (global start 0 0 ∷ []) ∷ []) [] ≡ Some NoEntry)
    × (refused Program (file [] (undefined start ∷ []) ∷ []) [] ≡ Some NoEntry)
unfolding names_of target_of all_name_tests text_place text_sections_end target_at all_needs need_tests text_end data_place section_place data_end shown_targets site_address input_word site_word site_rels is_wrong_type is_cross site_tests object_of tests word_in
entries = (refl, refl, refl, refl, refl, refl)

-- ---- sizes

abbrev library : Lib
library = record {
  name = codes "l";
  object = record { kind = Dyn; entry = 0; segments = []; got = 0; needed = []; soname = None; symbols = []; rels = []; jmprels = []; fixups = None; symbolic = false; now = false; inits = record { init = None; fini = None; init_array = None; fini_array = None } };
}

sizes : (refusal_of (record { file_size = λ o. 4194304; tables_end = λ o. 4294967295 }) Shared (codes "o") (defines_a ∷ []) [] ≡ None)
    × (refusal_of (record { file_size = λ o. 4194305; tables_end = λ o. 0 }) Shared (codes "o") (defines_a ∷ []) [] ≡ Some TooLarge)
    × (refusal_of (record { file_size = λ o. 0; tables_end = λ o. 4294967296 }) Shared (codes "o") (defines_a ∷ []) [] ≡ Some TooLarge)
    -- of libraries, which a program that stands alone doesn't count
    × (refused Shared (defines_a ∷ []) (replicate 64 library) ≡ None)
    × (refused Shared (defines_a ∷ []) (replicate 65 library) ≡ Some TooLarge)
    × (refused Static (file (text (0 ∷ []) [] ∷ []) (global start 0 0 ∷ []) ∷ []) (replicate 65 library) ≡ None)
unfolding names_of target_of all_name_tests text_place text_sections_end target_at all_needs need_tests text_end data_place section_place data_end shown_targets site_address input_word site_word site_rels is_wrong_type is_cross site_tests object_of tests word_in
sizes = (refl, refl, refl, refl, refl, refl)

-- ---- relocations of the first section, of _start at its begin and d in the second section

abbrev first_site : ℕ → Site
first_site offset = record { input = 0; section = 0; offset = offset }

abbrev of_text : List ℕ → ℕ → ℕ → ℕ → List RelObject
of_text ws site kind n =
    file (text ws (rel site kind n ∷ []) ∷ variables (0 ∷ 0 ∷ []) [] ∷ [])
    (global start 0 0 ∷ local (codes "d") 1 0 ∷ undefined (codes "foo") ∷ weak_undefined (codes "none") ∷ absolute (codes "n") 16 ∷ []) ∷ []

abbrev of_variables : List ℕ → ℕ → ℕ → ℕ → List RelObject
of_variables ws site kind n =
    file (variables ws (rel site kind n ∷ []) ∷ text (0 ∷ 0 ∷ []) [] ∷ [])
    (global start 1 0 ∷ local (codes "d") 0 0 ∷ undefined (codes "foo") ∷ weak_undefined (codes "none") ∷ absolute (codes "n") 16 ∷ []) ∷ []

abbrev branches : List ℕ → ℕ → LinkRefusal → Type 0
branches ws n refusal = refused Program (of_text ws 0 R_ARM_CALL n) [] ≡ Some refusal

thumb : branches (0xfaff_fffe ∷ 0 ∷ []) 1 (ThumbBranch (first_site 0))
    × branches (0xfaff_fffe ∷ 0 ∷ []) 0 (ThumbBranch (first_site 0))
    × (refused Program (of_text (0xebff_fffe ∷ 0 ∷ []) 0 R_ARM_PC24 1) [] ≡ None)
unfolding names_of target_of all_name_tests text_place text_sections_end target_at all_needs need_tests text_end data_place section_place data_end shown_targets site_address input_word site_word site_rels is_wrong_type is_cross site_tests object_of tests word_in
thumb = (refl, refl, refl)

types : (refused Program (of_variables (0 ∷ []) 0 R_ARM_GLOB_DAT 1) [] ≡ Some (RelocType (first_site 0)))
    -- an addend where there is to be none, or another than a call's
    × (refused Program (of_variables (4 ∷ []) 0 R_ARM_GOT_BREL 2) [] ≡ Some (RelocType (first_site 0)))
    × (refused Program (of_text (0xebff_ffff ∷ 0 ∷ []) 0 R_ARM_CALL 3) [] ≡ Some (RelocType (first_site 0)))
    -- offsets of what the loader settles, or of nothing
    × (refused Program (of_variables (0 ∷ []) 0 R_ARM_REL32 3) [] ≡ Some (RelocType (first_site 0)))
    × (refused Program (of_variables (0 ∷ []) 0 R_ARM_GOTOFF32 3) [] ≡ Some (RelocType (first_site 0)))
    × (refused Program (of_variables (0 ∷ []) 0 R_ARM_GOTOFFFUNCDESC 3) [] ≡ Some (RelocType (first_site 0)))
    × (refused Static (file (variables (0 ∷ []) (rel 0 R_ARM_GOTOFFFUNCDESC 1 ∷ []) ∷ []) (weak_undefined (codes "none") ∷ []) ∷ []) [] ≡ Some (RelocType (first_site 0)))
    -- an address in the text, or not at a multiple of 4
    × (refused Program (of_text (0 ∷ 0 ∷ []) 4 R_ARM_ABS32 2) [] ≡ Some (RelocType (first_site 4)))
    × (refused Program (of_variables (0 ∷ 0 ∷ []) 2 R_ARM_ABS32 2) [] ≡ Some (RelocType (first_site 2)))
unfolding names_of target_of all_name_tests text_place text_sections_end target_at all_needs need_tests text_end data_place section_place data_end shown_targets site_address input_word site_word site_rels is_wrong_type is_cross site_tests object_of tests word_in
types = (refl, refl, refl, refl, refl, refl, refl, refl, refl)

symbols : (refused Program (of_variables (0 ∷ []) 0 R_ARM_ABS32 0) [] ≡ Some (RelocType (first_site 0)))
    × (refused Program (of_variables (0 ∷ []) 0 R_ARM_NONE 0) [] ≡ None)
    × (refused Shared (file (variables (0 ∷ []) (rel 0 R_ARM_NONE 1 ∷ []) ∷ []) (symbol STB_LOCAL STT_NOTYPE STV_DEFAULT (codes "x") Dropped 0 ∷ []) ∷ []) [] ≡ Some (RelocType (first_site 0)))
    -- the descriptor of a variable
    × (refused Program (of_variables (0 ∷ []) 0 R_ARM_FUNCDESC 2) [] ≡ Some (RelocType (first_site 0)))
    × (refused Program (of_variables (0 ∷ []) 0 R_ARM_GOTFUNCDESC 5) [] ≡ Some (RelocType (first_site 0)))
    -- a name that the loader is to settle and doesn't see
    × (refused Shared (file (variables (0 ∷ []) (rel 0 R_ARM_ABS32 1 ∷ []) ∷ []) (symbol STB_GLOBAL STT_FILE STV_DEFAULT (codes "x") (Section 0) 0 ∷ []) ∷ []) [] ≡ Some (RelocType (first_site 0)))
    -- a word that meets an earlier one's, and one that doesn't
    × (refused Shared (file (variables (0 ∷ 0 ∷ []) (rel 0 R_ARM_GOTOFF32 1 ∷ rel 3 R_ARM_GOTOFF32 1 ∷ []) ∷ []) (local (codes "d") 0 0 ∷ []) ∷ []) [] ≡ Some (RelocType (first_site 3)))
    × (refused Shared (file (variables (0 ∷ 0 ∷ []) (rel 0 R_ARM_GOTOFF32 1 ∷ rel 4 R_ARM_GOTOFF32 1 ∷ rel 3 R_ARM_NONE 0 ∷ []) ∷ []) (local (codes "d") 0 0 ∷ []) ∷ []) [] ≡ None)
unfolding names_of target_of all_name_tests text_place text_sections_end target_at all_needs need_tests text_end data_place section_place data_end shown_targets site_address input_word site_word site_rels is_wrong_type is_cross site_tests object_of tests word_in
symbols = (refl, refl, refl, refl, refl, refl, refl, refl)

crosses : branches (0xebff_fffe ∷ 0 ∷ []) 2 (CrossSegment (first_site 0))
    -- a branch to a number, also where its addend is a call's
    × branches (0xebff_fffe ∷ 0 ∷ []) 5 (CrossSegment (first_site 0))
    -- before the text, and behind it
    × branches (0xebff_fffd ∷ 0 ∷ []) 1 (CrossSegment (first_site 0))
    × branches (0xeb00_0000 ∷ 0 ∷ []) 1 (CrossSegment (first_site 0))
    -- from the data
    × (refused Program (of_variables (0xebff_fffe ∷ []) 0 R_ARM_JUMP24 1) [] ≡ Some (CrossSegment (first_site 0)))
    -- a distance to the other segment, and to the same one
    × (refused Program (of_variables (0 ∷ []) 0 R_ARM_REL32 1) [] ≡ Some (CrossSegment (first_site 0)))
    × (refused Program (of_variables (0 ∷ []) 0 R_ARM_REL32 2) [] ≡ None)
    × (refused Program (of_text (0 ∷ 0 ∷ 0 ∷ []) 8 R_ARM_GOTOFF32 1) [] ≡ Some (CrossSegment (first_site 8)))
    × (refused Program (of_variables (0 ∷ []) 0 R_ARM_GOTOFF32 5) [] ≡ Some (CrossSegment (first_site 0)))
    -- at the end of the segment of the symbol, and past it
    × (refused Program (of_variables (8 ∷ []) 0 R_ARM_ABS32 1) [] ≡ None)
    × (refused Program (of_variables (9 ∷ []) 0 R_ARM_ABS32 1) [] ≡ Some (CrossSegment (first_site 0)))
    × (refused Program (of_variables (0xffff_ffff ∷ []) 0 R_ARM_ABS32 1) [] ≡ Some (CrossSegment (first_site 0)))
    × (refused Program (of_variables (0xffff_ffff ∷ []) 0 R_ARM_ABS32 5) [] ≡ None)
unfolding names_of target_of all_name_tests text_place text_sections_end target_at all_needs need_tests text_end data_place section_place data_end shown_targets site_address input_word site_word site_rels is_wrong_type is_cross site_tests object_of tests word_in
crosses = (refl, refl, refl, refl, refl, refl, refl, refl, refl, refl, refl, refl, refl)

-- ---- which comes first

-- a name before a relocation, a relocation before a later one whatever its cause, and the entry after all of them
in_order : (refused Static (file (variables (0 ∷ []) (rel 0 R_ARM_GLOB_DAT 1 ∷ []) ∷ []) (undefined (codes "u") ∷ []) ∷ []) [] ≡ Some (IsUndefined (codes "u")))
    × (refused Shared (file (variables (9 ∷ 0 ∷ []) (rel 0 R_ARM_ABS32 1 ∷ rel 4 R_ARM_GLOB_DAT 1 ∷ []) ∷ []) (local (codes "d") 0 0 ∷ []) ∷ []) [] ≡ Some (CrossSegment (first_site 0)))
    × (refused Shared (file (variables (9 ∷ 0 ∷ []) (rel 4 R_ARM_GLOB_DAT 1 ∷ rel 0 R_ARM_ABS32 1 ∷ []) ∷ []) (local (codes "d") 0 0 ∷ []) ∷ []) [] ≡ Some (RelocType (first_site 4)))
    × (refused Program (file (variables (0 ∷ []) (rel 0 R_ARM_GLOB_DAT 1 ∷ []) ∷ []) (local (codes "d") 0 0 ∷ []) ∷ []) [] ≡ Some (RelocType (first_site 0)))
    -- of one relocation the type before the segment
    × (refused Program (of_variables (0 ∷ 0 ∷ []) 2 R_ARM_ABS32 1) [] ≡ Some (RelocType (first_site 2)))
    × (refused Program (of_text (0xebff_fffd ∷ 0 ∷ []) 0 R_ARM_CALL 3) [] ≡ Some (RelocType (first_site 0)))
unfolding names_of target_of all_name_tests text_place text_sections_end target_at all_needs need_tests text_end data_place section_place data_end shown_targets site_address input_word site_word site_rels is_wrong_type is_cross site_tests object_of tests word_in
in_order = (refl, refl, refl, refl, refl, refl)
