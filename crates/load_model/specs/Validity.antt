-- What holds of every process.
use Rattle.std.specs.Prelude.{◌≡◌, ◌≢◌, ℕ, true, length, Some, None, All, AllPairs, Contains, IsSomeAnd}
use Rattle.plt_code.specs.Entries.{lazy_place}
use Rattle.symbol_scope.specs.declared.tables.TheConstants.{MAX_MODULES}
use Rattle.load_model.specs.declared.module.Group.{Group}
use Rattle.load_model.specs.declared.module.Live.{Live}
use Rattle.load_model.specs.declared.module.SymbolicProcess.{SymbolicProcess}
use Rattle.load_model.specs.Process.{live_at, is_live, number_of, group_at, group_scope}
use Rattle.load_model.specs.Unbound.{is_set}

-- a live module: it is in a live group, what it needs is live and in that group's scope, each of its slots has a flag, and
-- each unbound one its call of the resolver
pub record IsMember (p : SymbolicProcess) (m : ℕ) (live : Live) : Type 0 where
  pub grouped : group_at p live.group ≢ None
  pub needs : All (λ name. IsSomeAnd (number_of p name) (λ n. Contains (group_scope p m) n)) live.object.needed
  pub flags : length live.unbound ≡ length live.object.jmprels
  pub calls : (k : ℕ) → is_set live.unbound k ≡ true → lazy_place live.object k ≢ None

-- a live group: its number is that of a member, and the modules of its scope are live
pub record IsGroup (p : SymbolicProcess) (g : ℕ) (group : Group) : Type 0 where
  pub founder : IsSomeAnd (live_at p g) (λ live. live.group ≡ g)
  pub scope' : All (λ n. is_live p n ≡ true) group.scope

pub record IsValid (p : SymbolicProcess) : Type 0 where
  pub modules' : length p.modules ≡ MAX_MODULES
  pub groups' : length p.groups ≡ MAX_MODULES
  pub names : (m n : ℕ) (a b : Live) → live_at p m ≡ Some a → live_at p n ≡ Some b → a.name ≡ b.name → m ≡ n
  pub members : (m : ℕ) (live : Live) → live_at p m ≡ Some live → IsMember p m live
  pub scopes : (g : ℕ) (group : Group) → group_at p g ≡ Some group → IsGroup p g group
  pub global' : All (λ n. is_live p n ≡ true) p.global
  pub once : AllPairs (λ m n. m ≢ n) p.global
