-- What a load rests on.
use Rattle.std.specs.Prelude.{◌≡◌, ◌≢◌, ◌⊎◌, ℕ, ◌<◌, true, List, [], ◌∷◌, Some, None, All, Contains}
use Rattle.elf_model.specs.declared.object.Object.{Object}
use Rattle.elf_model.specs.declared.object.Rel.{Rel}
use Rattle.symbol_scope.specs.declared.tables.TheConstants.{MAX_MODULES}
use Rattle.load_model.specs.declared.module.Joining.{Joining}
use Rattle.load_model.specs.declared.module.SymbolicProcess.{SymbolicProcess}
use Rattle.load_model.specs.Linkage.{linkage_of}
use Rattle.load_model.specs.Process.{is_live, object_at}
use Rattle.load_model.specs.Sites.{site_value}
use Rattle.load_model.specs.Unbound.{unbound_of}
use Rattle.load_process.specs.parts.JoinLaws.{IsLeft}
use Rattle.load_state.specs.Accepted.{linkage_for}
use Rattle.load_state.specs.Loaded.{LoadedModules}

-- no two have one number
abbrev pub HaveOwnNumbers : List Joining → Type 0
HaveOwnNumbers [] = Unit {0}
HaveOwnNumbers (j ∷ joining) = All (λ other. other.number ≢ j.number) joining × HaveOwnNumbers joining

-- numbers that no live module has
abbrev pub HasFreeNumber : SymbolicProcess → Joining → Type 0
HasFreeNumber p j = (j.number < MAX_MODULES) × (object_at p j.number ≡ None)

-- A load adds modules and leaves the others: each of these has its scope and its flags, and refers to what it did.
pub record IsExtended (l new : LoadedModules) (joining : List Joining) (scope : List ℕ) : Type 0 where
  pub linkage' : linkage_of new.process ≡ linkage_for l joining scope
  pub old : (m : ℕ) (o : Object) → object_at l.process m ≡ Some o
      → (object_at new.process m ≡ Some o) × ((r : Rel) → site_value (linkage_of new.process) m o r ≡ site_value (linkage_of l.process) m o r)
  pub left : (m : ℕ) → is_live l.process m ≡ true → IsLeft l.process (linkage_of l.process) (linkage_of new.process) m
  pub flags : (m : ℕ) → is_live l.process m ≡ true → unbound_of new.process m ≡ unbound_of l.process m
  pub fresh : (j : Joining) → Contains joining j → object_at new.process j.number ≡ Some j.object
  pub only : (m : ℕ) (o : Object) → object_at new.process m ≡ Some o
      → (object_at l.process m ≡ Some o) ⊎ ((j : Joining) × Contains joining j × (j.number ≡ m) × (j.object ≡ o))
