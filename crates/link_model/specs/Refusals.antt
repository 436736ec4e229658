-- Why a link is refused: the refusal of the first test that fails. What the writer of objects makes of a linked object,
-- the size of its file and the end of its segment of tables, comes from the writer's own definitions.
use Rattle.std.specs.Prelude.{ℕ, ◌^◌, Bool, false, not, ◌&&◌, ◌||◌, nat_le, nat_lt, List, [], ◌∷◌, ◌++◌, length, flat_map, Option}
use Rattle.std.specs.Option.{option_map_or}
use Rattle.fd_base.specs.declared.store.TheConstants.{MAX_FILE}
use Rattle.elf_model.specs.declared.constants.TheConstants.{MAX_ENTRIES, MAX_NEEDED}
use Rattle.elf_model.specs.declared.object.Object.{Object}
use Rattle.elf_model.specs.declared.relocatable.RelObject.{RelObject}
use Rattle.elf_model.specs.Test.{first_failing}
use Rattle.link_model.specs.declared.error.LinkRefusal.{LinkRefusal}
use Rattle.link_model.specs.declared.error.LinkRefusal.TheVariants.{NoEntry, TooLarge}
use Rattle.link_model.specs.declared.input.Lib.{Lib}
use Rattle.link_model.specs.declared.input.Mode.{Mode}
use Rattle.link_model.specs.Inputs.{all_rels}
use Rattle.link_model.specs.Needs.{need_tests}
use Rattle.link_model.specs.Object.{object_of, start_target}
use Rattle.link_model.specs.Sections.{is_function}
use Rattle.link_model.specs.SiteTests.{site_tests}
use Rattle.link_model.specs.Targets.{is_shared, is_static, all_name_tests, LinkTest, refuses}

-- what a written object comes to
pub record WrittenSizes : Type 0 where
  pub file_size : Object → ℕ
  pub tables_end : Object → ℕ

-- a program begins at a function
abbrev pub entry_tests : Mode → List RelObject → List LinkTest
entry_tests mode inputs = refuses NoEntry (not (is_shared mode) && not (option_map_or (λ t. is_function inputs t.spot) (start_target mode inputs) false)) ∷ []

-- whether a table of an object is too long to be read again
abbrev pub is_crowded : Object → Bool
is_crowded o = nat_lt MAX_ENTRIES (length o.symbols) || (nat_lt MAX_ENTRIES (length o.rels) || nat_lt MAX_ENTRIES (length o.jmprels))

abbrev pub size_tests : WrittenSizes → Mode → Object → List Lib → List LinkTest
size_tests sizes mode o libs =
    refuses TooLarge (not (is_static mode) && nat_lt MAX_NEEDED (length libs))
    ∷ refuses TooLarge (is_crowded o)
    ∷ refuses TooLarge (nat_le (2 ^ 32) (sizes.tables_end o))
    ∷ refuses TooLarge (nat_lt MAX_FILE (sizes.file_size o))
    ∷ []

-- names, the GOT, each relocation in order, the entry, and the sizes
unfoldable pub tests : WrittenSizes → Mode → List ℕ → List RelObject → List Lib → List LinkTest
tests sizes mode soname inputs libs =
    all_name_tests mode inputs
    ++ (need_tests mode inputs
    ++ (flat_map (site_tests mode inputs) (all_rels inputs)
    ++ (entry_tests mode inputs
    ++ size_tests sizes mode (object_of mode soname inputs libs) libs)))

abbrev pub refusal_of : WrittenSizes → Mode → List ℕ → List RelObject → List Lib → Option LinkRefusal
refusal_of sizes mode soname inputs libs = first_failing (tests sizes mode soname inputs libs)
