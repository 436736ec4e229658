-- What `show` says of a file, by its bytes.
use Rattle.std.proofs.Common.{◌≡◌, ℕ, List, Option, Some, None, Result, Ok, Err, IfSome, sym, ap}
use Rattle.fd_base.specs.Fetched.{Files}
use Rattle.elf_model.specs.declared.refusal.ElfRefusal.{ElfRefusal}
use Rattle.elf_listing.specs.Shown.{listing_of}
use Rattle.fdpic_cmd.specs.declared.status.Failure.{Failure}
use Rattle.fdpic_cmd.specs.declared.status.Failure.TheVariants.{Refused, StoreFault, Memory}
use Rattle.fdpic_cmd.specs.declared.status.Refusal.TheVariants.{Elf}
use Rattle.fdpic_cmd.specs.Ended.{Gives}
use Rattle.fdpic_cmd.specs.Outcome.{Outcome, writes, refuses}
use Rattle.fdpic_cmd.specs.Files.{IsFile, Fetched}
use Rattle.fdpic_cmd.specs.Show.{shown_as, ShowMeans}
use Rattle.fdpic_cmd.proofs.FoundFiles.{found, before_where}

abbrev IsShown : List ℕ → List ℕ → Outcome → Type 0
IsShown name bytes o = o ≡ shown_as name (listing_of bytes)

at : (files : Option Files) (name bytes : List ℕ) (answer : Result (List ℕ) ElfRefusal) → IfSome files (λ told. IsFile told name bytes) → listing_of bytes ≡ answer
    → IfSome files (λ told. ShowMeans name told (shown_as name answer))
at None name bytes answer file is = tt
at (Some told) name bytes answer file is = found told name bytes (IsShown name) (shown_as name answer) file (sym (ap (shown_as name) is))

-- the listing of its bytes is what it means
pub shown : (files : Option Files) (name bytes text : List ℕ) → IfSome files (λ told. IsFile told name bytes) → listing_of bytes ≡ Ok text
    → IfSome files (λ told. ShowMeans name told (writes text))
shown files name bytes text file is = at files name bytes (Ok text) file is

-- and so is their refusal
pub refused : (files : Option Files) (name bytes : List ℕ) (r : ElfRefusal) → IfSome files (λ told. IsFile told name bytes) → listing_of bytes ≡ Err r
    → IfSome files (λ told. ShowMeans name told (refuses (Elf name r)))
refused files name bytes r file is = at files name bytes (Err r) file is

-- a file that isn't there, is too long or can't be fetched
pub not_there : (files : Option Files) (name : List ℕ) (old new : ℕ) (e : Failure) → Fetched files name old new (Err e)
    → Gives (ShowMeans name) files old new (Err e)
not_there files name old new (Refused r) h = before_where files name (IsShown name) r h
not_there files name old new StoreFault h = h
not_there files name old new Memory h = tt
