-- Why a load is refused: the first test that fails, in the order of the cases; each has what the earlier tests found.
use Rattle.std.specs.Prelude.{◌≡◌, ℕ, ◌<◌, ◌≤◌, List, length, Option, Some}
use Rattle.fd_base.specs.Fetched.{Files}
use Rattle.func_desc.specs.Pool.{free_slots}
use Rattle.placement.specs.Placed.{FailsAt}
use Rattle.load_model.specs.declared.error.LoadRefusal.{LoadRefusal}
use Rattle.load_model.specs.declared.error.LoadRefusal.TheVariants.{NotBuilt, Elf, NoFile, TooLong, TooManyModules, Unresolved, NotCode, DescriptorsFull, NoRoom, BadAddress}
use Rattle.load_model.specs.declared.module.Joining.{Joining}
use Rattle.load_model.specs.declared.module.SymbolicProcess.{SymbolicProcess}
use Rattle.load_model.specs.Linkage.{linkage_with, members_of}
use Rattle.load_model.specs.Plan.{low_of, high_of}
use Rattle.load_model.specs.Sites.{first_refusal}
use Rattle.load_model.specs.Walk.{IsWalkRefused}
use Rattle.load_state.specs.Accepted.{IsScoped, CanBeFilled, wanted_by, all_items}
use Rattle.load_state.specs.Loaded.{LoadedModules, pool_of}

-- a site of a new module can't be filled
pub record HasUnfilledSite (p : SymbolicProcess) (files : Option Files) (root : List ℕ) (r : LoadRefusal) : Type 0 where
  pub joining : List Joining
  pub scope : List ℕ
  pub scoped : IsScoped p files root joining scope
  pub first : first_refusal (linkage_with p joining scope) (members_of joining) ≡ Some r

-- more functions need a slot than are free, which are n
pub record LacksSlots (l : LoadedModules) (files : Option Files) (root : List ℕ) (n : ℕ) : Type 0 where
  pub joining : List Joining
  pub scope : List ℕ
  pub scoped : IsScoped l.process files root joining scope
  pub filled : CanBeFilled l joining scope
  pub free : n ≡ length (free_slots (pool_of l.plan l.addrs))
  pub more : n < length (wanted_by l joining scope)

-- segment i of the new ones has no address
pub record HasNoPlace (l : LoadedModules) (files : Option Files) (root : List ℕ) (i : ℕ) : Type 0 where
  pub joining : List Joining
  pub scope : List ℕ
  pub scoped : IsScoped l.process files root joining scope
  pub filled : CanBeFilled l joining scope
  pub enough : length (wanted_by l joining scope) ≤ length (free_slots (pool_of l.plan l.addrs))
  pub fails : FailsAt (low_of l.plan) (high_of l.plan) l.held (all_items l.plan.places joining) i

abbrev pub IsRefused : LoadedModules → Option Files → List ℕ → LoadRefusal → Type 0
IsRefused l files root TooManyModules = IsWalkRefused l.process files root TooManyModules
IsRefused l files root (TooLong n) = IsWalkRefused l.process files root (TooLong n)
IsRefused l files root (NoFile n) = IsWalkRefused l.process files root (NoFile n)
IsRefused l files root (Elf n r) = IsWalkRefused l.process files root (Elf n r)
IsRefused l files root (Unresolved m n) = HasUnfilledSite l.process files root (Unresolved m n)
IsRefused l files root (NotCode m n) = HasUnfilledSite l.process files root (NotCode m n)
IsRefused l files root (BadAddress m site) = HasUnfilledSite l.process files root (BadAddress m site)
IsRefused l files root (DescriptorsFull n) = LacksSlots l files root n
IsRefused l files root (NoRoom i) = HasNoPlace l files root i
IsRefused l files root (NotBuilt n) = ⊥
