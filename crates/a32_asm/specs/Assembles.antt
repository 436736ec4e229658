-- What assembling a text answers.
use Rattle.std.specs.Prelude.{ℕ, List, Result, Ok, Err}
use Rattle.elf_model.specs.declared.relocatable.RelObject.{RelObject}
use Rattle.elf_write.specs.declared.error.WriteErr.{WriteErr}
use Rattle.elf_write.specs.declared.error.WriteErr.TheVariants as write
use Rattle.elf_write.specs.RelFile.{rel_file}
use Rattle.elf_write.specs.Writes.{Writes}
use Rattle.a32_asm.specs.declared.refusal.AsmErr.{AsmErr}
use Rattle.a32_asm.specs.declared.refusal.AsmErr.TheVariants.{Refused, TooLong, Memory}
use Rattle.a32_asm.specs.Text.{IsAssembled, IsRefused}

-- the text has an object, and this is what the writer answers of it
pub record IsWritten (text : List ℕ) (answer : Result (List ℕ) WriteErr) : Type 0 where
  pub object : RelObject
  pub is : IsAssembled text object
  pub writes : Writes answer (rel_file object)

-- The bytes of the text's file, or how many they would be where they are too many, or the first refusal of the text. Want of
-- memory is free.
abbrev pub Assembles : List ℕ → Result (List ℕ) AsmErr → Type 0
Assembles text (Ok bytes) = IsWritten text (Ok bytes)
Assembles text (Err (Refused refusal)) = IsRefused text refusal
Assembles text (Err (TooLong n)) = IsWritten text (Err (write.TooLong n))
Assembles text (Err Memory) = Unit {0}
