-- What a writer answers.
use Rattle.std.specs.Prelude.{◌≡◌, ℕ, ◌<◌, ◌≤◌, List, length, Result, Ok, Err}
use Rattle.elf_write.specs.declared.error.WriteErr.{WriteErr}
use Rattle.elf_write.specs.declared.error.WriteErr.TheVariants.{TooLong, Memory}
use Rattle.elf_write.specs.declared.limits.TheConstants.{MAX_FILE_BYTES}

-- The bytes of the file, or how many it would have where they are too many. Want of memory is free.
abbrev pub Writes : Result (List ℕ) WriteErr → List ℕ → Type 0
Writes (Ok bytes) file = (bytes ≡ file) × (length file ≤ MAX_FILE_BYTES)
Writes (Err (TooLong n)) file = (n ≡ length file) × (MAX_FILE_BYTES < length file)
Writes (Err Memory) file = Unit {0}
