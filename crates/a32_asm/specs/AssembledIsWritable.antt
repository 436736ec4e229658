-- The law of assembled texts.
use Rattle.std.specs.Prelude.{ℕ, List}
use Rattle.elf_model.specs.declared.relocatable.RelObject.{RelObject}
use Rattle.elf_write.specs.WritableRel.{IsWritableRel}
use Rattle.a32_asm.specs.Text.{IsAssembled}

-- what a text assembles to can be written
abbrev pub AssembledIsWritable : Type 0
AssembledIsWritable = (text : List ℕ) (object : RelObject) → IsAssembled text object → IsWritableRel object
