-- Which modules a load adds: the one that is asked for and those that are needed, breadth first over the needed names in
-- table order, each once (gABI, "Shared Object Dependencies").
use Rattle.std.specs.Prelude.{◌≡◌, ℕ, zero, suc, ◌<◌, ◌≤◌, List, [], ◌∷◌, length, map, filter, find, take, slice_get, Option, Some, None, is_none, option_map, option_and_then, IfSome, IsSomeAnd, All}
use Rattle.std.specs.Option.{option_map_or, option_or}
use Rattle.std.specs.FinMap.{get}
use Rattle.std.specs.Str.{bytes_eq}
use Rattle.fd_base.specs.declared.store.TheConstants.{MAX_FILE}
use Rattle.fd_base.specs.Fetched.{Files}
use Rattle.elf_model.specs.declared.object.Object.{Object}
use Rattle.elf_model.specs.declared.refusal.ElfRefusal.{ElfRefusal}
use Rattle.elf_model.specs.Object.{IsObject, refusal_of}
use Rattle.symbol_scope.specs.Closure.{with_new}
use Rattle.load_model.specs.declared.module.Joining.{Joining}
use Rattle.load_model.specs.declared.module.SymbolicProcess.{SymbolicProcess}
use Rattle.load_model.specs.declared.error.LoadRefusal.{LoadRefusal}
use Rattle.load_model.specs.declared.error.LoadRefusal.TheVariants.{Elf, NoFile, TooLong, TooManyModules}
use Rattle.load_model.specs.Process.{object_at, number_of, free_numbers}

-- ---- files

-- a file of this name is there, not too long, and this holds of its bytes
abbrev pub FileWith : Option Files → List ℕ → (List ℕ → Type 0) → Type 0
FileWith files name P = IfSome files (λ told. IsSomeAnd (get told name) (λ bytes. (length bytes ≤ MAX_FILE) × P bytes))

-- the file is this object
abbrev pub FileIs : Option Files → List ℕ → Object → Type 0
FileIs files name o = FileWith files name (λ bytes. IsObject bytes o)

-- it is no object, by this test
abbrev pub FileIsRefused : Option Files → List ℕ → ElfRefusal → Type 0
FileIsRefused files name r = FileWith files name (λ bytes. refusal_of bytes ≡ Some r)

-- why the file of a name is no object that can be loaded
abbrev pub IsFileRefused : Option Files → List ℕ → LoadRefusal → Type 0
IsFileRefused files name (TooLong n) = (n ≡ name) × IfSome files (λ told. IsSomeAnd (get told name) (λ bytes. MAX_FILE < length bytes))
IsFileRefused files name (NoFile n) = (n ≡ name) × IfSome files (λ told. get told name ≡ None)
IsFileRefused files name (Elf n r) = (n ≡ name) × FileIsRefused files name r
IsFileRefused files name other = ⊥

-- ---- names

-- the new module of a name
abbrev pub joining_named : List Joining → List ℕ → Option Joining
joining_named joining name = find (λ j. bytes_eq j.name name) joining

-- the number of the live or new module of a name
abbrev pub number_among : SymbolicProcess → List Joining → List ℕ → Option ℕ
number_among p joining name = option_or (number_of p name) (option_map (λ j. j.number) (joining_named joining name))

-- the names that the live or new module of a name needs, in table order
abbrev pub needed_by : SymbolicProcess → List Joining → List ℕ → List (List ℕ)
needed_by p joining name =
    option_map_or (λ o. o.needed)
    (option_or (option_and_then (object_at p) (number_of p name)) (option_map (λ j. j.object) (joining_named joining name)))
    []

-- the names found, from the first on, once what the first n of them need was added
abbrev pub found_after : (List ℕ → List (List ℕ)) → List ℕ → ℕ → List (List ℕ)
found_after needs root zero = root ∷ []
found_after needs root (suc n) =
    with_new bytes_eq (found_after needs root n) (option_map_or needs (slice_get (found_after needs root n) n) [])

-- ---- the walk

-- After n of the names that were found were looked at: the new modules are those of these names that weren't live, with
-- the lowest free numbers in order, each the object of its file.
pub record IsWalked (p : SymbolicProcess) (files : Option Files) (root : List ℕ) (n : ℕ) (joining : List Joining) (names : List (List ℕ)) : Type 0 where
  pub names' : names ≡ found_after (needed_by p joining) root n
  pub looked : n ≤ length names
  pub fresh : map (λ j. j.name) joining ≡ filter (λ name. is_none (number_of p name)) (take n names)
  pub few : length joining ≤ length (free_numbers p)
  pub numbers : map (λ j. j.number) joining ≡ take (length joining) (free_numbers p)
  pub files' : All (λ j. FileIs files j.name j.object) joining

-- every name that was found was looked at
pub record IsWalk (p : SymbolicProcess) (files : Option Files) (root : List ℕ) (joining : List Joining) (names : List (List ℕ)) : Type 0 where
  pub walked : IsWalked p files root (length names) joining names

-- The walk stands at a name that is new: these joined before it.
pub record IsAtNewName (p : SymbolicProcess) (files : Option Files) (root : List ℕ) (joining : List Joining) (name : List ℕ) : Type 0 where
  pub n : ℕ
  pub names : List (List ℕ)
  pub walked : IsWalked p files root n joining names
  pub next : slice_get names n ≡ Some name
  pub new : number_of p name ≡ None

-- there is no number for the next new name
pub record HasNoNumber (p : SymbolicProcess) (files : Option Files) (root : List ℕ) : Type 0 where
  pub joining : List Joining
  pub name : List ℕ
  pub at : IsAtNewName p files root joining name
  pub full : length joining ≡ length (free_numbers p)

-- there is a number for the next new name, and its file is refused
pub record HasNoObject (p : SymbolicProcess) (files : Option Files) (root : List ℕ) (r : LoadRefusal) : Type 0 where
  pub joining : List Joining
  pub name : List ℕ
  pub at : IsAtNewName p files root joining name
  pub free : length joining < length (free_numbers p)
  pub cause : IsFileRefused files name r

-- why the walk ends early
abbrev pub IsWalkRefused : SymbolicProcess → Option Files → List ℕ → LoadRefusal → Type 0
IsWalkRefused p files root TooManyModules = HasNoNumber p files root
IsWalkRefused p files root (TooLong n) = HasNoObject p files root (TooLong n)
IsWalkRefused p files root (NoFile n) = HasNoObject p files root (NoFile n)
IsWalkRefused p files root (Elf n r) = HasNoObject p files root (Elf n r)
IsWalkRefused p files root other = ⊥
