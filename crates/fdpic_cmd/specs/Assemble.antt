-- as OUT IN: the relocatable file of the text in IN is put as OUT.
use Rattle.std.specs.Prelude.{◌≡◌, ℕ, List, length, nat_lt, Result, Ok, Err, if◌then◌else◌}
use Rattle.fd_base.specs.Fetched.{Files}
use Rattle.elf_model.specs.declared.relocatable.RelObject.{RelObject}
use Rattle.elf_write.specs.declared.limits.TheConstants.{MAX_FILE_BYTES}
use Rattle.elf_write.specs.RelFile.{rel_file}
use Rattle.a32_asm.specs.declared.refusal.AsmRefusal.{AsmRefusal}
use Rattle.a32_asm.specs.Text.{assembled}
use Rattle.fdpic_cmd.specs.declared.status.Refusal.{Refusal}
use Rattle.fdpic_cmd.specs.declared.status.Refusal.TheVariants.{Asm, OutTooLong}
use Rattle.fdpic_cmd.specs.Files.{OnFile}
use Rattle.fdpic_cmd.specs.Outcome.{Outcome, put_as}

-- the bytes of a file that is to be put, unless they are too many
abbrev pub short_file : List ℕ → Result (List ℕ) Refusal
short_file bytes = if nat_lt MAX_FILE_BYTES (length bytes) then Err (OutTooLong (length bytes)) else Ok bytes

-- the file of a text's object, or why there is none
abbrev pub file_of : Result RelObject AsmRefusal → Result (List ℕ) Refusal
file_of (Ok object) = short_file (rel_file object)
file_of (Err refusal) = Err (Asm refusal)

-- as OUT IN
abbrev pub AsMeans : List ℕ → List ℕ → Files → Outcome → Type 0
AsMeans out input told o = OnFile told input (λ text o. o ≡ put_as out (file_of (assembled text))) o
