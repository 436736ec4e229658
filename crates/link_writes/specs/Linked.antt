-- Where each test of a link holds, the linked object can be written.
use Rattle.std.specs.Prelude.{◌≡◌, ℕ, List, length, None, All}
use Rattle.elf_model.specs.declared.object.Object.{Object}
use Rattle.elf_model.specs.declared.relocatable.RelObject.{RelObject}
use Rattle.elf_model.specs.RelSound.{IsNameText, IsRelSound}
use Rattle.elf_model.specs.Test.{first_failing}
use Rattle.elf_write.specs.ObjectFile.{object_file}
use Rattle.elf_write.specs.TableSegment.{table_end}
use Rattle.elf_write.specs.WritableObject.{IsWritableObject}
use Rattle.link_model.specs.declared.input.Lib.{Lib}
use Rattle.link_model.specs.declared.input.Mode.{Mode}
use Rattle.link_model.specs.Object.{needed_of, object_of}
use Rattle.link_model.specs.Refusals.{WrittenSizes, tests}

-- what the writer of objects makes of one, with any size of its file
abbrev pub sizes_with : (Object → ℕ) → WrittenSizes
sizes_with file_size = record { file_size = file_size; tables_end = table_end }

-- what the writer of objects makes of one
abbrev pub written_sizes : WrittenSizes
written_sizes = sizes_with (λ o. length (object_file o))

-- what a link is made of: accepted files, and names that can be written
pub record AreInputs (soname : List ℕ) (inputs : List RelObject) (libs : List Lib) : Type 0 where
  pub sound : All IsRelSound inputs
  pub own_name : IsNameText soname
  pub needed_names : All IsNameText (needed_of libs)

-- the law, whatever size the file has
abbrev pub LinkedIsWritable : Type 0
LinkedIsWritable = (file_size : Object → ℕ) (mode : Mode) (soname : List ℕ) (inputs : List RelObject) (libs : List Lib) → AreInputs soname inputs libs
    → first_failing (tests (sizes_with file_size) mode soname inputs libs) ≡ None → IsWritableObject (object_of mode soname inputs libs)
