-- show F and code F: a listing of the relocatable file or the object that a file is.
use Rattle.std.specs.Prelude.{◌≡◌, ℕ, List, Option, Some, None, Result, Ok, Err, IfSome}
use Rattle.fd_base.specs.Fetched.{Files}
use Rattle.elf_model.specs.declared.object.Object.{Object}
use Rattle.elf_model.specs.declared.refusal.ElfRefusal.{ElfRefusal}
use Rattle.elf_model.specs.Object.{refusal_of, object_of, IsObject}
use Rattle.fdpic_cmd.specs.declared.status.Refusal.TheVariants.{Elf}
use Rattle.fd_base.specs.Faults.{Rose}
use Rattle.fdpic_cmd.specs.declared.status.Failure.{Failure}
use Rattle.fdpic_cmd.specs.declared.status.Failure.TheVariants.{Refused, StoreFault, Memory}
use Rattle.fdpic_cmd.specs.Outcome.{Outcome, writes, refuses}
use Rattle.fdpic_cmd.specs.Files.{OnFile, IsFile}
use Rattle.elf_listing.specs.Shown.{listing_of}
use Rattle.fdpic_cmd.specs.Code.{code_listing}

-- the listing of the object that the bytes are, or the refusal of the file
abbrev pub listed_unless : Option ElfRefusal → (Object → List ℕ) → List ℕ → List ℕ → Outcome
listed_unless None listing name bytes = writes (listing (object_of bytes))
listed_unless (Some r) listing name bytes = refuses (Elf name r)

abbrev pub listed : (Object → List ℕ) → List ℕ → List ℕ → Outcome
listed listing name bytes = listed_unless (refusal_of bytes) listing name bytes

-- a listing of the object in a file
abbrev pub ListMeans : (Object → List ℕ) → List ℕ → Files → Outcome → Type 0
ListMeans listing name told o = OnFile told name (λ bytes o. o ≡ listed listing name bytes) o

-- the listing of a file's bytes, or the refusal of the file
abbrev pub shown_as : List ℕ → Result (List ℕ) ElfRefusal → Outcome
shown_as name (Ok text) = writes text
shown_as name (Err r) = refuses (Elf name r)

-- show F: by its type a file is read as a relocatable file or as an object
abbrev pub ShowMeans : List ℕ → Files → Outcome → Type 0
ShowMeans name told o = OnFile told name (λ bytes o. o ≡ shown_as name (listing_of bytes)) o

-- code F
abbrev pub CodeMeans : List ℕ → Files → Outcome → Type 0
CodeMeans name = ListMeans code_listing name

-- the file is this object
pub record IsObjectFile (told : Files) (name : List ℕ) (o : Object) : Type 0 where
  pub bytes : List ℕ
  pub file : IsFile told name bytes
  pub object : IsObject bytes o

-- what opening the object in a file answers
abbrev pub Opens : Option Files → List ℕ → ℕ → ℕ → Result Object Failure → Type 0
Opens files name old new (Ok o) = IfSome files (λ told. IsObjectFile told name o)
Opens files name old new (Err (Refused r)) = IfSome files (λ told. (listing : Object → List ℕ) → ListMeans listing name told (refuses r))
Opens files name old new (Err StoreFault) = Rose old new
Opens files name old new (Err Memory) = Unit {0}
