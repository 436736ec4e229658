-- The object that a file is, and what is listed of it.
use Rattle.std.proofs.Common.{◌≡◌, ℕ, List, Option, Some, None, Err, IfSome, sym, ap, ◌∙◌}
use Rattle.fd_base.specs.Fetched.{Files}
use Rattle.elf_model.specs.declared.object.Object.{Object}
use Rattle.elf_model.specs.declared.refusal.ElfRefusal.{ElfRefusal}
use Rattle.elf_model.specs.Object.{refusal_of, IsObject}
use Rattle.fdpic_cmd.specs.declared.status.Failure.{Failure}
use Rattle.fdpic_cmd.specs.declared.status.Failure.TheVariants.{Refused, StoreFault, Memory}
use Rattle.fdpic_cmd.specs.declared.status.Refusal.{Refusal}
use Rattle.fdpic_cmd.specs.declared.status.Refusal.TheVariants.{Elf}
use Rattle.fdpic_cmd.specs.Code.{code_listing}
use Rattle.fdpic_cmd.specs.Ended.{Gives}
use Rattle.fdpic_cmd.specs.Outcome.{writes, refuses}
use Rattle.fdpic_cmd.specs.Files.{OnFile, IsFile, Never}
use Rattle.fdpic_cmd.specs.Show.{listed, listed_unless, ListMeans, CodeMeans, IsObjectFile, Opens}
use Rattle.fdpic_cmd.proofs.FoundFiles.{found, before}

pub opened : (told : Files) (name bytes : List ℕ) (o : Object) → IsFile told name bytes → IsObject bytes o → IsObjectFile told name o
opened told name bytes o file is = record { bytes = bytes; file = file; object = is }

-- bytes that are no object are refused, whatever is listed
pub no_object : (told : Files) (name bytes : List ℕ) (r : ElfRefusal) → IsFile told name bytes → refusal_of bytes ≡ Some r → (listing : Object → List ℕ) → ListMeans listing name told (refuses (Elf name r))
no_object told name bytes r file is listing =
    found told name bytes (λ bytes o. o ≡ listed listing name bytes) (refuses (Elf name r)) file (sym (ap (λ t. listed_unless t listing name bytes) is))

-- and so is a file that isn't there or too long
pub no_file : (told : Files) (name : List ℕ) (r : Refusal) → OnFile told name Never (refuses r) → (listing : Object → List ℕ) → ListMeans listing name told (refuses r)
no_file told name r h listing = before told name (λ bytes o. o ≡ listed listing name bytes) (refuses r) h

-- what is listed of an object is what its file means
lists : (told : Files) (name : List ℕ) (o : Object) (listing : Object → List ℕ) (text : List ℕ) → IsObjectFile told name o → text ≡ listing o → ListMeans listing name told (writes text)
lists told name o listing text file is =
    let same : writes text ≡ listed listing name file.bytes =
    ap writes (is ∙ ap listing file.object.fields) ∙ sym (ap (λ t. listed_unless t listing name file.bytes) file.object.passes) in
    found told name file.bytes (λ bytes o. o ≡ listed listing name bytes) (writes text) file.file same

-- the words of an object are what `code` means of its file
pub code_of : (files : Option Files) (name : List ℕ) (o : Object) (text : List ℕ) → IfSome files (λ told. IsObjectFile told name o) → text ≡ code_listing o
    → IfSome files (λ told. CodeMeans name told (writes text))
code_of None name o text file is = tt
code_of (Some told) name o text file is = lists told name o code_listing text file is

code_refused : (files : Option Files) (name : List ℕ) (r : Refusal) → IfSome files (λ told. (listing : Object → List ℕ) → ListMeans listing name told (refuses r))
    → IfSome files (λ told. CodeMeans name told (refuses r))
code_refused None name r h = tt
code_refused (Some told) name r h = h code_listing

pub no_code : (files : Option Files) (name : List ℕ) (old new : ℕ) (e : Failure) → Opens files name old new (Err e)
    → Gives (CodeMeans name) files old new (Err e)
no_code files name old new (Refused r) h = code_refused files name r h
no_code files name old new StoreFault h = h
no_code files name old new Memory h = tt
