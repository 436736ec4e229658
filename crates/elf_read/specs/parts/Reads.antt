-- What the reader answers.
use Rattle.std.specs.Prelude.{◌≡◌, ℕ, List, Some, Result, Ok, Err}
use Rattle.elf_model.specs.declared.object.Object.{Object}
use Rattle.elf_model.specs.Object.{IsObject, refusal_of}
use Rattle.elf_read.specs.declared.error.ReadErr.{ReadErr}
use Rattle.elf_read.specs.declared.error.ReadErr.TheVariants.{Refused, Memory}

-- The bytes are that object, or the first test that they fail is that one. Want of memory is free.
abbrev pub IsReadAs : List ℕ → Result Object ReadErr → Type 0
IsReadAs bytes (Ok o) = IsObject bytes o
IsReadAs bytes (Err (Refused r)) = refusal_of bytes ≡ Some r
IsReadAs bytes (Err Memory) = Unit {0}

-- the answer is this one, unless memory was wanted
abbrev pub IsAnswer : {X : Type 0} → Result X ReadErr → Result X ReadErr → Type 0
IsAnswer (Err Memory) wanted = Unit {0}
IsAnswer (Err (Refused r)) wanted = Err (Refused r) ≡ wanted
IsAnswer (Ok x) wanted = Ok x ≡ wanted
