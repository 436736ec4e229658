-- What is linked in a load, before anything is placed.
use Rattle.std.specs.Prelude.{◌≡◌, ◌≤◌, ℕ, List, length, None, Some, Option, All}
use Rattle.std.specs.FinMap.{get}
use Rattle.fd_base.specs.Fetched.{Files}
use Rattle.elf_model.specs.declared.constants.TheConstants.{MAX_ENTRIES}
use Rattle.elf_model.specs.declared.object.Object.{Object}
use Rattle.func_desc.specs.Functions.{AddrMap}
use Rattle.load_model.specs.declared.error.LoadRefusal.{LoadRefusal}
use Rattle.load_model.specs.declared.module.Joining.{Joining}
use Rattle.load_model.specs.declared.module.SymbolicProcess.{SymbolicProcess}
use Rattle.load_model.specs.Descriptors.{privates, wanted}
use Rattle.load_model.specs.Linkage.{linkage_with, members_of}
use Rattle.load_model.specs.Process.{object_at}
use Rattle.load_model.specs.Sites.{first_refusal}
use Rattle.load_model.specs.Walk.{IsWalkRefused, number_among}
use Rattle.load_process.specs.parts.TakenObjects.{IsTaken}
use Rattle.load_sites.specs.parts.Values.{IsValues}
use Rattle.load_state.specs.Accepted.{IsScoped}
use Rattle.load_state.specs.Refused.{HasUnfilledSite}
use Rattle.load_laws.specs.parts.Premises.{HaveOwnNumbers, HasFreeNumber}
use Rattle.load_plan.specs.declared.linking.Linked.{Linked}

-- each live module has few symbols
abbrev pub HasFewSymbols : SymbolicProcess → Type 0
HasFewSymbols p = (m : ℕ) (o : Object) → object_at p m ≡ Some o → length o.symbols ≤ MAX_ENTRIES

-- what every new module is known to be
pub record AreNew (p : SymbolicProcess) (joining : List Joining) : Type 0 where
  pub taken : All (λ j. IsTaken j.object) joining
  pub own : HaveOwnNumbers joining
  pub free : All (HasFreeNumber p) joining

pub record IsLinked (p : SymbolicProcess) (addrs : AddrMap) (files : Option Files) (root : List ℕ) (w : Linked) : Type 0 where
  pub scoped : IsScoped p files root w.joining w.scope
  pub root' : number_among p w.joining root ≡ Some w.root
  pub new : AreNew p w.joining
  pub filled : first_refusal (linkage_with p w.joining w.scope) (members_of w.joining) ≡ None
  pub values' : IsValues (linkage_with p w.joining w.scope) w.joining w.values
  pub privates' : w.privates ≡ privates (linkage_with p w.joining w.scope) (members_of w.joining)
  pub wanted' : w.wanted ≡ wanted (linkage_with p w.joining w.scope) (get addrs) (members_of w.joining)

-- why nothing is linked
pub data IsUnlinked (p : SymbolicProcess) (files : Option Files) (root : List ℕ) (r : LoadRefusal) : Type 0 where
  Walking : IsWalkRefused p files root r → IsUnlinked p files root r
  Filling : HasUnfilledSite p files root r → IsUnlinked p files root r
