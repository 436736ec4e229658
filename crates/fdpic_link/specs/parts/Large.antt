-- The tests of sizes, by what has to be there when they are made.
use Rattle.std.specs.Prelude.{ℕ, ◌^◌, ◌<◌, ◌≤◌, Bool, false, not, ◌&&◌, nat_le, nat_lt, List, [], ◌∷◌, length, All, IfSome, Result, Ok, Err}
use Rattle.std.specs.Option.{option_map_or}
use Rattle.fd_base.specs.declared.store.TheConstants.{MAX_FILE}
use Rattle.elf_model.specs.declared.constants.TheConstants.{MAX_NEEDED}
use Rattle.elf_model.specs.declared.object.Object.{Object}
use Rattle.elf_model.specs.declared.relocatable.RelObject.{RelObject}
use Rattle.elf_model.specs.RelSound.{IsNameText}
use Rattle.elf_write.specs.ObjectFile.{object_file}
use Rattle.elf_write.specs.TableSegment.{table_end}
use Rattle.link_model.specs.declared.error.LinkErr.{LinkErr}
use Rattle.link_model.specs.declared.error.LinkRefusal.TheVariants.{TooLarge}
use Rattle.link_model.specs.declared.input.Lib.{Lib}
use Rattle.link_model.specs.declared.input.Mode.{Mode}
use Rattle.link_model.specs.Object.{object_of}
use Rattle.link_model.specs.Places.{data_end}
use Rattle.link_model.specs.Refusals.{is_crowded, size_tests}
use Rattle.link_model.specs.Targets.{is_static, LinkTest, refuses}
use Rattle.link_model.specs.parts.Passes.{IsRefusal}
use Rattle.link_writes.specs.Linked.{written_sizes}

-- that of libraries
abbrev pub needed_tests : Mode → List Lib → List LinkTest
needed_tests mode libs = refuses TooLarge (not (is_static mode) && nat_lt MAX_NEEDED (length libs)) ∷ []

-- those of tables, before they are written
abbrev pub table_tests : Object → List LinkTest
table_tests o = refuses TooLarge (is_crowded o) ∷ refuses TooLarge (nat_le (2 ^ 32) (table_end o)) ∷ []

-- that of the file
abbrev pub file_tests : Object → List LinkTest
file_tests o = refuses TooLarge (nat_lt MAX_FILE (length (object_file o))) ∷ []

-- whether an object's list of fixups is as long as a memory of 32 bits
abbrev pub has_many_fixups : Object → Bool
has_many_fixups o = option_map_or (λ fixups. nat_le (2 ^ 32) (length fixups)) o.fixups false

-- the names of an object can be written, and it needs few objects
pub record AreNamed (o : Object) : Type 0 where
  pub symbols : All (λ s. IfSome s.name IsNameText) o.symbols
  pub own_name : IfSome o.soname IsNameText
  pub few_needed : length o.needed ≤ MAX_NEEDED
  pub needed_names : All IsNameText o.needed

-- Memory that ends below 2^32; or the refusal of the object, whatever it is called and needs.
abbrev pub EndsBelow : Result (Unit {0}) LinkErr → Mode → List RelObject → Type 0
EndsBelow (Ok u) mode inputs = data_end mode inputs < 2 ^ 32
EndsBelow (Err e) mode inputs = (soname : List ℕ) (libs : List Lib) → IsRefusal e (size_tests written_sizes mode (object_of mode soname inputs libs) libs)
