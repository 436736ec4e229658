-- What holds of loads.
use Rattle.std.specs.Prelude.{◌≡◌, ◌≢◌, ℕ, ◌<◌, Bool, true, false, List, Option, Some, None, All, AllPairs}
use Rattle.fd_base.specs.Fetched.{Files}
use Rattle.symbol_scope.specs.declared.tables.TheConstants.{MAX_MODULES}
use Rattle.load_model.specs.declared.module.Joining.{Joining}
use Rattle.load_model.specs.declared.module.SymbolicProcess.{SymbolicProcess}
use Rattle.load_model.specs.Definition.{Linkage}
use Rattle.load_model.specs.Joined.{Asked, is_empty, live_from, group_of}
use Rattle.load_model.specs.Linkage.{linkage_of, linkage_with, joining_at, joins, closure_of}
use Rattle.load_model.specs.Process.{live_at, is_live}
use Rattle.load_model.specs.Validity.{IsValid}
use Rattle.load_model.specs.Walk.{IsWalk}
use Rattle.load_process.specs.parts.LoadedProcess.{scope_after, loaded}

-- this holds of each load of a valid process
abbrev pub OfLoads : (SymbolicProcess → List Joining → List (List ℕ) → Asked → Type 0) → Type 0
OfLoads P =
    (p : SymbolicProcess) (files : Option Files) (root : List ℕ) (joining : List Joining) (names : List (List ℕ)) (asked : Asked)
    → IsValid p → IsWalk p files root joining names → P p joining names asked

-- The process after a load is valid.
abbrev pub LoadsKeepValid : Type 0
LoadsKeepValid = OfLoads (λ p joining names asked. IsValid (loaded p joining names asked))

-- The new modules stand at their numbers in the process q after a load, with one scope, and the others as they were.
pub record IsJoined (p q : SymbolicProcess) (lazy : Bool) (joining : List Joining) (scope : List ℕ) : Type 0 where
  pub linkage : linkage_of q ≡ linkage_with p joining scope
  pub new : (m : ℕ) (j : Joining) → joining_at joining m ≡ Some j → live_at q m ≡ Some (live_from lazy (group_of joining) j)
  pub old : (m : ℕ) → joins joining m ≡ false → live_at q m ≡ live_at p m

abbrev pub LoadsJoin : Type 0
LoadsJoin = OfLoads (λ p joining names asked. IsJoined p (loaded p joining names asked) asked.lazy joining (scope_after p joining names))

-- Symbols of a live module m are looked up in the same modules as before, and these are live and have the same objects.
pub record IsLeft (p : SymbolicProcess) (k l : Linkage) (m : ℕ) : Type 0 where
  pub scope : l.scopes m ≡ k.scopes m
  pub own : l.objects m ≡ k.objects m
  pub members : All (λ n. is_live p n ≡ true) (k.scopes m)
  pub objects : All (λ n. l.objects n ≡ k.objects n) (k.scopes m)

abbrev pub LoadsLeaveScopes : Type 0
LoadsLeaveScopes = OfLoads (λ p joining names asked. (m : ℕ) → is_live p m ≡ true → IsLeft p (linkage_of p) (linkage_of (loaded p joining names asked)) m)

-- New modules have different numbers, below 64 and no live module's, and each is found by its own.
pub record HasFreeNumbers (p : SymbolicProcess) (joining : List Joining) : Type 0 where
  pub apart : AllPairs (λ j k. j.number ≢ k.number) joining
  pub small : All (λ j. j.number < MAX_MODULES) joining
  pub free : All (λ j. live_at p j.number ≡ None) joining
  pub found : All (λ j. joining_at joining j.number ≡ Some j) joining

abbrev pub NumbersAreFree : Type 0
NumbersAreFree =
    (p : SymbolicProcess) (files : Option Files) (root : List ℕ) (joining : List Joining) (names : List (List ℕ))
    → IsWalk p files root joining names → HasFreeNumbers p joining

-- The scope of a process's first modules is their closure.
abbrev pub EmptyScope : Type 0
EmptyScope = OfLoads (λ p joining names asked. is_empty p ≡ true → scope_after p joining names ≡ closure_of p joining names)
