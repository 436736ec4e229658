-- What linking answers.
use Rattle.std.specs.Prelude.{◌≡◌, ℕ, List, Some, None, Result, Ok, Err}
use Rattle.elf_model.specs.declared.relocatable.RelObject.{RelObject}
use Rattle.elf_write.specs.ObjectFile.{object_file}
use Rattle.link_model.specs.declared.error.LinkErr.{LinkErr}
use Rattle.link_model.specs.declared.error.LinkErr.TheVariants.{Refused, Memory}
use Rattle.link_model.specs.declared.input.Lib.{Lib}
use Rattle.link_model.specs.declared.input.Mode.{Mode}
use Rattle.link_model.specs.Object.{object_of}
use Rattle.link_model.specs.Refusals.{refusal_of}
use Rattle.link_writes.specs.Linked.{written_sizes}

-- Where each test of a link holds, the file of the linked object; else the refusal of the first that fails. Want of
-- memory is free.
abbrev pub Links : Mode → List ℕ → List RelObject → List Lib → Result (List ℕ) LinkErr → Type 0
Links mode soname inputs libs (Ok bytes) =
    (refusal_of written_sizes mode soname inputs libs ≡ None) × (bytes ≡ object_file (object_of mode soname inputs libs))
Links mode soname inputs libs (Err (Refused r)) = refusal_of written_sizes mode soname inputs libs ≡ Some r
Links mode soname inputs libs (Err Memory) = Unit {0}

-- the answer is this one, unless memory was wanted
abbrev pub IsAnswer : Result (List ℕ) LinkErr → Result (List ℕ) LinkErr → Type 0
IsAnswer (Err Memory) wanted = Unit {0}
IsAnswer (Err (Refused r)) wanted = Err (Refused r) ≡ wanted
IsAnswer (Ok bytes) wanted = Ok bytes ≡ wanted
