-- What listing the bytes of a file answers.
use Rattle.std.specs.Prelude.{◌≡◌, ℕ, List, Result, Ok, Err}
use Rattle.elf_model.specs.declared.refusal.ElfRefusal.{ElfRefusal}
use Rattle.elf_read.specs.declared.error.ReadErr.{ReadErr}
use Rattle.elf_read.specs.declared.error.ReadErr.TheVariants.{Refused, Memory}

-- the text or the refusal that is wanted, unless memory is
abbrev pub Lists : Result (List ℕ) ElfRefusal → Result (List ℕ) ReadErr → Type 0
Lists wanted (Ok text) = wanted ≡ Ok text
Lists wanted (Err (Refused r)) = wanted ≡ Err r
Lists wanted (Err Memory) = Unit {0}
