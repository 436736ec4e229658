-- One name of a walk: what is done with it, and why the walk ends there.
use Rattle.std.specs.Prelude.{◌≡◌, ℕ, ◌<◌, ◌≤◌, List, [], ◌∷◌, ◌++◌, length, map, take, slice_get, Option, Some, None, ◌⊎◌}
use Rattle.fd_base.specs.Fetched.{Files}
use Rattle.load_model.specs.declared.module.Joining.{Joining}
use Rattle.load_model.specs.declared.module.SymbolicProcess.{SymbolicProcess}
use Rattle.elf_model.specs.Object.{refusal_of}
use Rattle.load_model.specs.declared.error.LoadErr.{LoadErr}
use Rattle.load_model.specs.declared.error.LoadErr.TheVariants.{Refused, Memory}
use Rattle.load_model.specs.declared.error.LoadRefusal.{LoadRefusal}
use Rattle.load_model.specs.declared.error.LoadRefusal.TheVariants.{Elf, NoFile, TooLong, TooManyModules}
use Rattle.load_model.specs.Process.{number_of, free_numbers}
use Rattle.load_model.specs.Walk.{FileIs, IsFileRefused, number_among, IsWalked}

-- the bytes of the file of this name are no object
abbrev pub IsBytesRefused : List ℕ → List ℕ → LoadErr → Type 0
IsBytesRefused name bytes (Refused (Elf n r)) = (n ≡ name) × (refusal_of bytes ≡ Some r)
IsBytesRefused name bytes Memory = Unit {0}
IsBytesRefused name bytes other = ⊥

-- the module of a name that is new, where so many numbers are taken
pub record IsNewModule (free : List ℕ) (taken : ℕ) (files : Option Files) (name : List ℕ) (j : Joining) : Type 0 where
  pub number' : slice_get free taken ≡ Some j.number
  pub name' : j.name ≡ name
  pub file : FileIs files name j.object

-- why a name that is new has no module
abbrev pub IsNewRefused : List ℕ → ℕ → Option Files → List ℕ → LoadRefusal → Type 0
IsNewRefused free taken files name TooManyModules = length free ≤ taken
IsNewRefused free taken files name (TooLong n) = (taken < length free) × IsFileRefused files name (TooLong n)
IsNewRefused free taken files name (NoFile n) = (taken < length free) × IsFileRefused files name (NoFile n)
IsNewRefused free taken files name (Elf n r) = (taken < length free) × IsFileRefused files name (Elf n r)
IsNewRefused free taken files name other = ⊥

-- the name is new, and its module joins behind the others
pub record IsAppended (p : SymbolicProcess) (files : Option Files) (name : List ℕ) (old : List Joining) (number : ℕ) (new : List Joining) : Type 0 where
  pub added : Joining
  pub fresh : number_of p name ≡ None
  pub module' : IsNewModule (free_numbers p) (length old) files name added
  pub number' : added.number ≡ number
  pub joined : new ≡ old ++ added ∷ []

-- what is done with a name: nothing where it is live
abbrev pub IsLooked : SymbolicProcess → Option Files → List ℕ → List Joining → ℕ → List Joining → Type 0
IsLooked p files name old number new = ((number_of p name ≡ Some number) × (new ≡ old)) ⊎ IsAppended p files name old number new

-- why a name ends the walk
abbrev pub IsLookRefused : SymbolicProcess → Option Files → List ℕ → List Joining → LoadRefusal → Type 0
IsLookRefused p files name old r = (number_of p name ≡ None) × IsNewRefused (free_numbers p) (length old) files name r

-- the walk after n names, and the number of each of these
pub record IsNumbered (p : SymbolicProcess) (files : Option Files) (root : List ℕ) (n : ℕ) (joining : List Joining) (names : List (List ℕ)) (members : List ℕ) : Type 0 where
  pub walked : IsWalked p files root n joining names
  pub each : map Some members ≡ map (number_among p joining) (take n names)
