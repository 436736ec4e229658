-- What holds of walks themselves.
use Rattle.std.specs.Prelude.{◌≡◌, ℕ, List, [], ◌∷◌, Option, Some}
use Rattle.std.specs.Str.{bytes_eq}
use Rattle.fd_base.specs.Fetched.{Files}
use Rattle.symbol_scope.specs.Closure.{IsClosure}
use Rattle.load_model.specs.declared.module.Joining.{Joining}
use Rattle.load_model.specs.declared.module.SymbolicProcess.{SymbolicProcess}
use Rattle.load_model.specs.declared.error.LoadRefusal.{LoadRefusal}
use Rattle.load_model.specs.Walk.{needed_by, IsWalk, IsWalkRefused}

-- over told files a root has one walk, or one refusal, and not both
pub record WalksAreDetermined : Type 0 where
  pub same_walk : (p : SymbolicProcess) (told : Files) (root : List ℕ) (js ks : List Joining) (names others : List (List ℕ))
      → IsWalk p (Some told) root js names → IsWalk p (Some told) root ks others → (js ≡ ks) × (names ≡ others)
  pub exclusive : (p : SymbolicProcess) (told : Files) (root : List ℕ) (js : List Joining) (names : List (List ℕ)) (r : LoadRefusal)
      → IsWalk p (Some told) root js names → ¬ IsWalkRefused p (Some told) root r
  pub same_refusal : (p : SymbolicProcess) (told : Files) (root : List ℕ) (r s : LoadRefusal)
      → IsWalkRefused p (Some told) root r → IsWalkRefused p (Some told) root s → r ≡ s

-- the names of a walk are the root and what is needed from it on
abbrev pub WalksClose : Type 0
WalksClose =
    (p : SymbolicProcess) (files : Option Files) (root : List ℕ) (joining : List Joining) (names : List (List ℕ))
    → IsWalk p files root joining names → IsClosure bytes_eq (needed_by p joining) (root ∷ []) names
