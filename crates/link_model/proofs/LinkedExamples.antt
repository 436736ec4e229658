-- Linked objects of small inputs, worked by hand.
use Rattle.std.proofs.Common.{◌≡◌, ℕ, ◌+◌, false, List, [], ◌∷◌, length, Some, None, refl}
use Rattle.std.specs.Prelude.{codes}
use Rattle.fd_base.specs.Words.{word_in, word_bytes}
use Rattle.elf_model.specs.declared.constants.TheConstants.{STB_GLOBAL, STB_WEAK, STT_NOTYPE, STT_FUNC, STT_OBJECT, STV_DEFAULT, STV_HIDDEN, PF_R, PF_W, PF_X, R_ARM_ABS32, R_ARM_REL32, R_ARM_GLOB_DAT, R_ARM_RELATIVE, R_ARM_GOTOFF32, R_ARM_GOT_BREL, R_ARM_CALL, R_ARM_JUMP24, R_ARM_TARGET1, R_ARM_V4BX, R_ARM_GOTFUNCDESC, R_ARM_GOTOFFFUNCDESC, R_ARM_FUNCDESC, R_ARM_FUNCDESC_VALUE, SHT_INIT_ARRAY, SHT_FINI_ARRAY}
use Rattle.elf_model.specs.declared.object.Inits.{Inits}
use Rattle.elf_model.specs.declared.object.Kind.TheVariants.{Exec, Dyn}
use Rattle.elf_model.specs.declared.object.Object.{Object}
use Rattle.elf_model.specs.declared.object.Place.TheVariants.{Undefined, Here}
use Rattle.elf_model.specs.declared.object.Rel.{Rel}
use Rattle.elf_model.specs.declared.object.Segment.{Segment}
use Rattle.elf_model.specs.declared.object.Symbol.{Symbol}
use Rattle.elf_model.specs.declared.relocatable.RelObject.{RelObject}
use Rattle.elf_model.specs.declared.relocatable.RelSection.{RelSection}
use Rattle.elf_model.specs.Symbols.{null_symbol}
use Rattle.plt_code.specs.Words.{entry_words}
use Rattle.link_model.specs.declared.input.Lib.{Lib}
use Rattle.link_model.specs.declared.input.Mode.TheVariants.{Program, Shared, Static}
use Rattle.link_model.specs.DynamicSymbols.{shown_targets}
use Rattle.link_model.specs.Joined.{names_of}
use Rattle.link_model.specs.Needs.{target_at, all_needs, need_tests}
use Rattle.link_model.specs.Object.{object_of}
use Rattle.link_model.specs.Places.{text_end, data_place, section_place, data_end}
use Rattle.link_model.specs.Refusals.{tests}
use Rattle.link_model.specs.Sections.{text_place, text_sections_end}
use Rattle.link_model.specs.Sites.{site_address, input_word, site_word, site_rels}
use Rattle.link_model.specs.SiteTests.{is_wrong_type, is_cross, site_tests}
use Rattle.link_model.specs.Targets.{target_of, all_name_tests}
use Rattle.link_model.proofs.ExampleInputs.{refused, text, constants, variables, zeros, rel, symbol, local, global, function, weak, undefined, weak_undefined, common, file, start}

-- ---- objects

abbrev no_inits : Inits
no_inits = record { init = None; fini = None; init_array = None; fini_array = None }

abbrev text_at : List ℕ → Segment
text_at ws = record { vaddr = 0; memsz = length (word_bytes ws); flags = PF_R + PF_X; align = 16; filled = word_bytes ws }

abbrev data_at : List ℕ → ℕ → Segment
data_at ws zeros = record { vaddr = 0x1_0000; memsz = length (word_bytes ws) + zeros; flags = PF_R + PF_W; align = 16; filled = word_bytes ws }

abbrev shown : ℕ → ℕ → List ℕ → ℕ → Symbol
shown binding kind name value = record { name = Some name; value = value; size = 0; binding = binding; kind = kind; visibility = STV_DEFAULT; place = Here }

abbrev needed_symbol : ℕ → List ℕ → Symbol
needed_symbol binding name = record { name = Some name; value = 0; size = 0; binding = binding; kind = STT_NOTYPE; visibility = STV_DEFAULT; place = Undefined }

-- a program of a text and a data segment, which begins at 0
abbrev program_of : List ℕ → List ℕ → ℕ → List (List ℕ) → List Symbol → List Rel → List Rel → Object
program_of code words zeros needed symbols rels jmprels = record {
  kind = Exec;
  entry = 0;
  segments = text_at code ∷ data_at words zeros ∷ [];
  got = 0x1_0000;
  needed = needed;
  soname = None;
  symbols = symbols;
  rels = rels;
  jmprels = jmprels;
  fixups = None;
  symbolic = false;
  now = false;
  inits = no_inits;
}

abbrev static_of : List ℕ → List ℕ → ℕ → List ℕ → Object
static_of code words zeros fixups = record {
  kind = Exec;
  entry = 0;
  segments = text_at code ∷ data_at words zeros ∷ [];
  got = 0x1_0000;
  needed = [];
  soname = None;
  symbols = [];
  rels = [];
  jmprels = [];
  fixups = Some fixups;
  symbolic = false;
  now = false;
  inits = no_inits;
}

-- ---- a library of one function: foo returns 7

abbrev foo_inputs : List RelObject
foo_inputs = file (text (0xe3a0_0007 ∷ 0xe12f_ff1e ∷ []) [] ∷ []) (function (codes "foo") 0 0 ∷ []) ∷ []

abbrev foo_object : Object
foo_object = record {
  kind = Dyn;
  entry = 0;
  segments = text_at (0xe3a0_0007 ∷ 0xe12f_ff1e ∷ []) ∷ data_at (0 ∷ 0 ∷ 0 ∷ []) 0 ∷ [];
  got = 0x1_0000;
  needed = [];
  soname = Some (codes "foo.so");
  symbols = null_symbol ∷ shown STB_GLOBAL STT_FUNC (codes "foo") 0 ∷ [];
  rels = [];
  jmprels = [];
  fixups = None;
  symbolic = false;
  now = false;
  inits = no_inits;
}

library : (refused Shared foo_inputs [] ≡ None) × (object_of Shared (codes "foo.so") foo_inputs [] ≡ foo_object)
unfolding names_of target_of all_name_tests text_place text_sections_end target_at all_needs need_tests text_end data_place section_place data_end shown_targets site_address input_word site_word site_rels is_wrong_type is_cross site_tests object_of tests word_in
library = (refl, refl)

-- ---- a program that calls it: its PLT entry stands behind the two instructions

abbrev call_inputs : List RelObject
call_inputs = file (text (0xebff_fffe ∷ 0xef00_0000 ∷ []) (rel 0 R_ARM_CALL 2 ∷ []) ∷ []) (global start 0 0 ∷ undefined (codes "foo") ∷ []) ∷ []

abbrev foo_libs : List Lib
foo_libs = record { name = codes "lib"; object = foo_object } ∷ []

call : (refused Program call_inputs foo_libs ≡ None)
    × (object_of Program (codes "prog") call_inputs foo_libs
    ≡ program_of (0xeb00_0000 ∷ 0xef00_0000 ∷ entry_words 12 0) (0 ∷ 0 ∷ 0 ∷ 0x20 ∷ 0 ∷ []) 0 (codes "foo.so" ∷ [])
    (null_symbol ∷ shown STB_GLOBAL STT_NOTYPE start 0 ∷ needed_symbol STB_GLOBAL (codes "foo") ∷ []) [] (rel 0x1_000c R_ARM_FUNCDESC_VALUE 2 ∷ []))
unfolding names_of target_of all_name_tests text_place text_sections_end target_at all_needs need_tests text_end data_place section_place data_end shown_targets site_address input_word site_word site_rels is_wrong_type is_cross site_tests object_of tests word_in
call = (refl, refl)

-- ---- one that holds the addresses of foo's descriptor

abbrev pointer_inputs : List RelObject
pointer_inputs =
    file (text (0xef00_0000 ∷ []) [] ∷ variables (0 ∷ 0 ∷ []) (rel 0 R_ARM_FUNCDESC 1 ∷ rel 4 R_ARM_FUNCDESC 1 ∷ []) ∷ []) (undefined (codes "foo") ∷ global start 0 0 ∷ []) ∷ []

pointers : (refused Program pointer_inputs foo_libs ≡ None)
    × (object_of Program (codes "q") pointer_inputs foo_libs
    ≡ program_of (0xef00_0000 ∷ []) (0 ∷ 0 ∷ 0 ∷ 0 ∷ 0 ∷ []) 0 (codes "foo.so" ∷ [])
    (null_symbol ∷ needed_symbol STB_GLOBAL (codes "foo") ∷ shown STB_GLOBAL STT_NOTYPE start 0 ∷ [])
    (rel 0x1_000c R_ARM_FUNCDESC 1 ∷ rel 0x1_0010 R_ARM_FUNCDESC 1 ∷ []) [])
unfolding names_of target_of all_name_tests text_place text_sections_end target_at all_needs need_tests text_end data_place section_place data_end shown_targets site_address input_word site_word site_rels is_wrong_type is_cross site_tests object_of tests word_in
pointers = (refl, refl)

-- ---- a program that stands alone: no relocation, and a list of fixups all the same

abbrev alone_inputs : List RelObject
alone_inputs = file (text (0xe3a0_4000 ∷ 0xe59f_0000 ∷ 0xef00_0000 ∷ 5 ∷ []) [] ∷ []) (global start 0 0 ∷ []) ∷ []

alone : (refused Static alone_inputs [] ≡ None)
    × (object_of Static (codes "s") alone_inputs [] ≡ static_of (0xe3a0_4000 ∷ 0xe59f_0000 ∷ 0xef00_0000 ∷ 5 ∷ []) (0 ∷ 0 ∷ 0 ∷ []) 0 [])
unfolding names_of target_of all_name_tests text_place text_sections_end target_at all_needs need_tests text_end data_place section_place data_end shown_targets site_address input_word site_word site_rels is_wrong_type is_cross site_tests object_of tests word_in
alone = (refl, refl)

-- ---- one with each kind of a program that stands alone

-- Symbol 1 is the second word of the variables, 2 _start, 3 a function at 16, 4 a weak name without a definition. In the
-- text the call of the function at 0 leads 8 bytes behind the address that it reads, and that of none at 4 goes on; the
-- jump at 8 goes back to _start, 16 bytes before the address that it reads. The constants at 0x14 are the distance to
-- _start, the offset of the second word, and that with addend -4.
abbrev kinds_inputs : List RelObject
kinds_inputs =
    file (
    text (0xebff_fffe ∷ 0xebff_fffe ∷ 0x0aff_fffe ∷ 0xef00_0000 ∷ 0xe12f_ff1e ∷ []) (rel 0 R_ARM_CALL 3 ∷ rel 4 R_ARM_CALL 4 ∷ rel 8 R_ARM_JUMP24 2 ∷ rel 16 R_ARM_V4BX 0 ∷ [])
    ∷ constants (0 ∷ 0 ∷ 0xffff_fffc ∷ []) (rel 0 R_ARM_REL32 2 ∷ rel 4 R_ARM_GOTOFF32 1 ∷ rel 8 R_ARM_GOTOFF32 1 ∷ [])
    ∷ variables (4 ∷ 0xffff_fffc ∷ 7 ∷ 0 ∷ []) (rel 0 R_ARM_ABS32 3 ∷ rel 4 R_ARM_TARGET1 1 ∷ rel 8 R_ARM_ABS32 4 ∷ rel 12 R_ARM_ABS32 2 ∷ [])
    ∷ []) (local (codes "d") 2 4 ∷ global start 0 0 ∷ function (codes "f") 0 16 ∷ weak_undefined (codes "none") ∷ []) ∷ []

kinds : (refused Static kinds_inputs [] ≡ None)
    × (object_of Static (codes "k") kinds_inputs []
    ≡ static_of (0xeb00_0002 ∷ 0xebff_ffff ∷ 0x0aff_fffc ∷ 0xef00_0000 ∷ 0xe12f_ff1e ∷ 0xffff_ffec ∷ 0x10 ∷ 0xc ∷ [])
    (0 ∷ 0 ∷ 0 ∷ 0x14 ∷ 0x1_000c ∷ 7 ∷ 0 ∷ []) 0 (0x1_000c ∷ 0x1_0010 ∷ 0x1_0018 ∷ []))
unfolding names_of target_of all_name_tests text_place text_sections_end target_at all_needs need_tests text_end data_place section_place data_end shown_targets site_address input_word site_word site_rels is_wrong_type is_cross site_tests object_of tests word_in
kinds = (refl, refl)

-- ---- one with each kind that the loader settles, and the same kinds settled

-- Symbol 1 is the first of the variables, 2 _start, 3 and 4 are of other objects, 5 is weak and maybe of none. The GOT
-- has words at 12 for 3, 16 for 1, 20 for the descriptor of _start and 24 for that of 4; the descriptor of _start at
-- 28; and the slot of 3 at 36.
abbrev loaded_inputs : List RelObject
loaded_inputs =
    file (
    text (0xebff_fffe ∷ 0xe12f_ff1e ∷ 0 ∷ 0 ∷ 0 ∷ 0 ∷ 0 ∷ 0 ∷ 0 ∷ []) (
    rel 0 R_ARM_CALL 3 ∷ rel 12 R_ARM_GOTOFF32 1 ∷ rel 16 R_ARM_GOT_BREL 3 ∷ rel 20 R_ARM_GOT_BREL 1
    ∷ rel 24 R_ARM_GOTFUNCDESC 2 ∷ rel 28 R_ARM_GOTOFFFUNCDESC 2 ∷ rel 32 R_ARM_GOTFUNCDESC 4 ∷ [])
    ∷ variables (4 ∷ 8 ∷ 0 ∷ 0 ∷ []) (rel 0 R_ARM_ABS32 1 ∷ rel 4 R_ARM_ABS32 3 ∷ rel 8 R_ARM_FUNCDESC 2 ∷ rel 12 R_ARM_ABS32 5 ∷ [])
    ∷ zeros 4 8
    ∷ []) (local (codes "d") 1 0 ∷ function start 0 0 ∷ undefined (codes "x") ∷ undefined (codes "y") ∷ weak_undefined (codes "z") ∷ []) ∷ []

loaded : (refused Program loaded_inputs [] ≡ None)
    × (object_of Program (codes "p") loaded_inputs []
    ≡ program_of (0xeb00_0007 ∷ 0xe12f_ff1e ∷ 0 ∷ 0x2c ∷ 12 ∷ 16 ∷ 20 ∷ 28 ∷ 24 ∷ entry_words 36 0)
    (0 ∷ 0 ∷ 0 ∷ 0 ∷ 0x1_002c ∷ 0x1_001c ∷ 0 ∷ 0 ∷ 0 ∷ 0x3c ∷ 0 ∷ 0x1_0030 ∷ 8 ∷ 0x1_001c ∷ 0 ∷ []) 8 []
    (null_symbol ∷ shown STB_GLOBAL STT_FUNC start 0 ∷ needed_symbol STB_GLOBAL (codes "x") ∷ needed_symbol STB_GLOBAL (codes "y") ∷ needed_symbol STB_WEAK (codes "z") ∷ [])
    (rel 0x1_000c R_ARM_GLOB_DAT 2 ∷ rel 0x1_0010 R_ARM_RELATIVE 0 ∷ rel 0x1_0014 R_ARM_RELATIVE 0 ∷ rel 0x1_0018 R_ARM_FUNCDESC 3
    ∷ rel 0x1_001c R_ARM_FUNCDESC_VALUE 0 ∷ rel 0x1_002c R_ARM_RELATIVE 0 ∷ rel 0x1_0030 R_ARM_ABS32 2 ∷ rel 0x1_0034 R_ARM_RELATIVE 0 ∷ rel 0x1_0038 R_ARM_ABS32 4 ∷ [])
    (rel 0x1_0024 R_ARM_FUNCDESC_VALUE 2 ∷ []))
unfolding names_of target_of all_name_tests text_place text_sections_end target_at all_needs need_tests text_end data_place section_place data_end shown_targets site_address input_word site_word site_rels is_wrong_type is_cross site_tests object_of tests word_in
loaded = (refl, refl)

-- ---- a program that stands alone, with a GOT

-- Two symbols of one function have one descriptor, at 24, both of whose words are fixed up. The words at 12, 16 and 20
-- are those of the descriptor, of the variable and of a weak name without a definition.
abbrev got_inputs : List RelObject
got_inputs =
    file (
    text (0xe12f_ff1e ∷ 0 ∷ 0 ∷ 0 ∷ 0 ∷ []) (rel 4 R_ARM_GOTFUNCDESC 2 ∷ rel 8 R_ARM_GOTOFFFUNCDESC 3 ∷ rel 12 R_ARM_GOT_BREL 1 ∷ rel 16 R_ARM_GOT_BREL 4 ∷ [])
    ∷ variables (0 ∷ []) (rel 0 R_ARM_FUNCDESC 3 ∷ [])
    ∷ []) (local (codes "d") 1 0 ∷ function (codes "f") 0 0 ∷ function start 0 0 ∷ weak_undefined (codes "none") ∷ []) ∷ []

got : (refused Static got_inputs [] ≡ None)
    × (object_of Static (codes "g") got_inputs []
    ≡ static_of (0xe12f_ff1e ∷ 12 ∷ 24 ∷ 16 ∷ 20 ∷ []) (0 ∷ 0 ∷ 0 ∷ 0x1_0018 ∷ 0x1_0020 ∷ 0 ∷ 0 ∷ 0x1_0000 ∷ 0x1_0018 ∷ []) 0
    (0x1_000c ∷ 0x1_0010 ∷ 0x1_0018 ∷ 0x1_001c ∷ 0x1_0020 ∷ []))
unfolding names_of target_of all_name_tests text_place text_sections_end target_at all_needs need_tests text_end data_place section_place data_end shown_targets site_address input_word site_word site_rels is_wrong_type is_cross site_tests object_of tests word_in
got = (refl, refl)

-- ---- names of several inputs

-- A common block is taken before a weak definition, as large and as aligned as the largest of its name. One hidden mention
-- hides b, whose address the linker settles; that of a is the loader's, with addend 1.
abbrev joined_inputs : List RelObject
joined_inputs =
    file (variables (1 ∷ 0 ∷ []) (rel 0 R_ARM_ABS32 1 ∷ rel 4 R_ARM_ABS32 2 ∷ []) ∷ []) (weak (codes "a") 0 0 ∷ global (codes "b") 0 4 ∷ [])
    ∷ file [] (common (codes "a") 3 5 ∷ common (codes "c") 0 2 ∷ [])
    ∷ file [] (common (codes "a") 8 12 ∷ symbol STB_GLOBAL STT_NOTYPE STV_HIDDEN (codes "b") Undefined 0 ∷ [])
    ∷ []

abbrev block : List ℕ → ℕ → ℕ → Symbol
block name value size = record { name = Some name; value = value; size = size; binding = STB_GLOBAL; kind = STT_OBJECT; visibility = STV_DEFAULT; place = Here }

joined : (refused Shared joined_inputs [] ≡ None)
    × (object_of Shared (codes "j") joined_inputs []
    ≡ record {
      kind = Dyn;
      entry = 0;
      segments = data_at (0 ∷ 0 ∷ 0 ∷ 1 ∷ 0x1_0010 ∷ []) 18 ∷ [];
      got = 0x1_0000;
      needed = [];
      soname = Some (codes "j");
      symbols = null_symbol ∷ block (codes "a") 0x1_0018 12 ∷ block (codes "c") 0x1_0024 2 ∷ [];
      rels = rel 0x1_000c R_ARM_ABS32 1 ∷ rel 0x1_0010 R_ARM_RELATIVE 0 ∷ [];
      jmprels = [];
      fixups = None;
      symbolic = false;
      now = false;
      inits = no_inits;
    })
unfolding names_of target_of all_name_tests text_place text_sections_end target_at all_needs need_tests text_end data_place section_place data_end shown_targets site_address input_word site_word site_rels is_wrong_type is_cross site_tests object_of tests word_in
joined = (refl, refl)

-- ---- the order of the data

abbrev of_kind : ℕ → RelSection → RelSection
of_kind kind s = record s { kind = kind }

-- arrays of start functions, arrays of end functions, other sections with bytes, and zeros
abbrev array_inputs : List RelObject
array_inputs =
    file (variables (7 ∷ []) [] ∷ of_kind SHT_INIT_ARRAY (variables (1 ∷ []) []) ∷ of_kind SHT_FINI_ARRAY (variables (3 ∷ 4 ∷ []) []) ∷ []) []
    ∷ file (zeros 16 4 ∷ of_kind SHT_INIT_ARRAY (variables (2 ∷ []) []) ∷ []) []
    ∷ []

arrays : object_of Shared (codes "i") array_inputs []
    ≡ record {
      kind = Dyn;
      entry = 0;
      segments = data_at (0 ∷ 0 ∷ 0 ∷ 1 ∷ 2 ∷ 3 ∷ 4 ∷ 7 ∷ []) 4 ∷ [];
      got = 0x1_0000;
      needed = [];
      soname = Some (codes "i");
      symbols = null_symbol ∷ [];
      rels = [];
      jmprels = [];
      fixups = None;
      symbolic = false;
      now = false;
      inits = record { init = None; fini = None; init_array = Some (record { addr = 0x1_000c; size = 8 }); fini_array = Some (record { addr = 0x1_0014; size = 8 }) };
    }
unfolding names_of target_of all_name_tests text_place text_sections_end target_at all_needs need_tests text_end data_place section_place data_end shown_targets site_address input_word site_word site_rels is_wrong_type is_cross site_tests object_of tests word_in
arrays = refl
