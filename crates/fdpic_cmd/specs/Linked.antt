-- The file that a link puts, and what it holds.
use Rattle.std.specs.Prelude.{◌≡◌, ℕ, List, Option, Some, Ok}
use Rattle.fd_base.specs.Fetched.{Files, with_file}
use Rattle.elf_model.specs.declared.relocatable.RelObject.{RelObject}
use Rattle.elf_model.specs.Object.{IsObject}
use Rattle.elf_write.specs.ObjectFile.{object_file}
use Rattle.elf_write.specs.TableSegment.{with_tables}
use Rattle.link_model.specs.declared.input.Lib.{Lib}
use Rattle.link_model.specs.declared.input.Mode.{Mode}
use Rattle.link_model.specs.Object.{object_of}
use Rattle.link_means.specs.Linked.{IsLinked}
use Rattle.fdpic_cmd.specs.Link.{libs_in, inputs_in}

-- The bytes are those of the object that the named files are linked to, and they are read as that object with one segment
-- more, that of its tables. Loading makes each relocation of the inputs mean what its kind says.
pub record IsLinkedFrom (out : List ℕ) (mode : Mode) (libs inputs : List (List ℕ)) (bytes : List ℕ) (told : Files) : Type 0 where
  pub objects : List Lib
  pub parts : List RelObject
  pub libs' : libs_in libs told ≡ Ok objects
  pub inputs' : inputs_in inputs told ≡ Ok parts
  pub file : bytes ≡ object_file (object_of mode out parts objects)
  pub reads : IsObject bytes (with_tables (object_of mode out parts objects))
  pub means : IsLinked mode out parts objects (object_of mode out parts objects)

-- such bytes were put
pub record PutLinked (out : List ℕ) (mode : Mode) (libs inputs : List (List ℕ)) (later : Option Files) (told : Files) : Type 0 where
  pub bytes : List ℕ
  pub linked : IsLinkedFrom out mode libs inputs bytes told
  pub put : later ≡ Some (with_file out bytes told)
