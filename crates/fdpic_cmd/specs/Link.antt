-- link OUT MODE [lib=F].. IN..: what the files are linked to is put as OUT.
use Rattle.std.specs.Prelude.{◌≡◌, ℕ, List, [], ◌∷◌, length, map, nat_lt, Option, Some, None, Result, Ok, Err, if◌then◌else◌}
use Rattle.std.specs.FinMap.{get}
use Rattle.fd_base.specs.declared.store.TheConstants.{MAX_FILE}
use Rattle.fd_base.specs.Fetched.{Files}
use Rattle.elf_model.specs.declared.refusal.ElfRefusal.{ElfRefusal}
use Rattle.elf_model.specs.declared.relocatable.RelObject.{RelObject}
use Rattle.elf_model.specs.Object as object
use Rattle.elf_model.specs.Relocatable.{relocatable_refusal_of, relocatable_of}
use Rattle.elf_write.specs.ObjectFile.{object_file}
use Rattle.link_model.specs.declared.error.LinkRefusal.{LinkRefusal}
use Rattle.link_model.specs.declared.error.LinkRefusal.TheVariants.{Elf, LibElf}
use Rattle.link_model.specs.declared.input.Lib.{Lib}
use Rattle.link_model.specs.declared.input.Mode.{Mode}
use Rattle.link_model.specs.Inputs.{numbered}
use Rattle.link_model.specs.Object.{object_of}
use Rattle.link_model.specs.Refusals.{refusal_of}
use Rattle.link_writes.specs.Linked.{written_sizes}
use Rattle.fdpic_cmd.specs.declared.status.Refusal.{Refusal}
use Rattle.fdpic_cmd.specs.declared.status.Refusal.TheVariants.{NoFile, TooLong, Link}
use Rattle.fdpic_cmd.specs.Outcome.{Outcome, put_as}

-- what is done with a value, where there is one
abbrev pub and_then : {X Y : Type 0} → Result X Refusal → (X → Result Y Refusal) → Result Y Refusal
and_then (Ok x) next = next x
and_then (Err refusal) next = Err refusal

-- ---- the files, fetched and read in the order of the words

abbrev pub found_bytes : List ℕ → Option (List ℕ) → Result (List ℕ) Refusal
found_bytes name None = Err (NoFile name)
found_bytes name (Some bytes) = if nat_lt MAX_FILE (length bytes) then Err (TooLong name) else Ok bytes

-- the bytes of a file, unless there is none or it is too long
abbrev pub bytes_of : Files → List ℕ → Result (List ℕ) Refusal
bytes_of told name = found_bytes name (get told name)

-- what a file is read as, unless a test refuses its bytes
abbrev pub read_unless : {X : Type 0} → Option ElfRefusal → LinkRefusal → X → Result X Refusal
read_unless None refusal x = Ok x
read_unless (Some test) refusal x = Err (Link refusal)

-- library k, of this name
abbrev pub lib_of : ℕ × List ℕ → List ℕ → Result Lib Refusal
lib_of e bytes = read_unless (object.refusal_of bytes) (LibElf e.0) (record { name = e.1; object = object.object_of bytes })

-- input k
abbrev pub input_of : ℕ × List ℕ → List ℕ → Result RelObject Refusal
input_of e bytes = read_unless (relocatable_refusal_of bytes) (Elf e.0) (relocatable_of bytes)

abbrev pub lib_in : Files → ℕ × List ℕ → Result Lib Refusal
lib_in told e = and_then (bytes_of told e.1) (lib_of e)

abbrev pub input_in : Files → ℕ × List ℕ → Result RelObject Refusal
input_in told e = and_then (bytes_of told e.1) (input_of e)

-- all of these, or the first refusal
abbrev pub all_of : {X : Type 0} → List (Result X Refusal) → Result (List X) Refusal
all_of [] = Ok []
all_of (r ∷ rs) = and_then r (λ x. and_then (all_of rs) (λ xs. Ok (x ∷ xs)))

abbrev pub libs_in : List (List ℕ) → Files → Result (List Lib) Refusal
libs_in names told = all_of (map (lib_in told) (numbered names))

abbrev pub inputs_in : List (List ℕ) → Files → Result (List RelObject) Refusal
inputs_in names told = all_of (map (input_in told) (numbered names))

-- ---- what they are linked to

abbrev pub linked_unless : Option LinkRefusal → List ℕ → Result (List ℕ) Refusal
linked_unless None bytes = Ok bytes
linked_unless (Some refusal) bytes = Err (Link refusal)

-- the file of the linked object, whose name is that of its file
abbrev pub linked : Mode → List ℕ → List Lib → List RelObject → Result (List ℕ) Refusal
linked mode out libs inputs = linked_unless (refusal_of written_sizes mode out inputs libs) (object_file (object_of mode out inputs libs))

abbrev pub linked_file : List ℕ → Mode → List (List ℕ) → List (List ℕ) → Files → Result (List ℕ) Refusal
linked_file out mode libs inputs told = and_then (libs_in libs told) (λ ls. and_then (inputs_in inputs told) (λ is. linked mode out ls is))

-- link OUT MODE [lib=F].. IN..
abbrev pub LinkMeans : List ℕ → Mode → List (List ℕ) → List (List ℕ) → Files → Outcome → Type 0
LinkMeans out mode libs inputs told o = o ≡ put_as out (linked_file out mode libs inputs told)
