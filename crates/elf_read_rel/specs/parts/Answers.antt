-- What the reader answers.
use Rattle.std.specs.Prelude.{◌≡◌, ℕ, List, Some, Result, Ok, Err}
use Rattle.elf_model.specs.declared.relocatable.RelObject.{RelObject}
use Rattle.elf_model.specs.Relocatable.{IsRelocatable, relocatable_refusal_of}
use Rattle.elf_read.specs.declared.error.ReadErr.{ReadErr}
use Rattle.elf_read.specs.declared.error.ReadErr.TheVariants.{Refused, Memory}

-- The bytes are that file, or the first test that they fail is that one. Want of memory is free.
abbrev pub IsReadAs : List ℕ → Result RelObject ReadErr → Type 0
IsReadAs bytes (Ok r) = IsRelocatable bytes r
IsReadAs bytes (Err (Refused refusal)) = relocatable_refusal_of bytes ≡ Some refusal
IsReadAs bytes (Err Memory) = Unit {0}
