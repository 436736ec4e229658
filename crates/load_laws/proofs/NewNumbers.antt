-- The numbers and the objects of new modules.
use Rattle.std.proofs.Common.{◌≡◌, ◌≢◌, ℕ, suc, ◌<◌, List, [], ◌∷◌, Option, None, sym, ap, arith, All}
use Rattle.std.specs.Prelude.{AllPairs, option_map}
use Rattle.fd_base.specs.Fetched.{Files}
use Rattle.elf_model.specs.Sound.{IsSound}
use Rattle.symbol_scope.specs.declared.tables.TheConstants.{MAX_MODULES}
use Rattle.load_model.specs.Joined.{Asked}
use Rattle.load_model.specs.declared.module.Joining.{Joining}
use Rattle.load_model.specs.declared.module.SymbolicProcess.{SymbolicProcess}
use Rattle.load_model.specs.Process.{live_at}
use Rattle.load_process.specs.parts.JoinLaws.{HasFreeNumbers}
use Rattle.load_process.proofs.WalkFacts.{facts_of, free_numbers_law}
use Rattle.load_process.specs.parts.TakenObjects.{IsTaken}
use Rattle.load_state.specs.declared.plan.GroupPlan.{GroupPlan}
use Rattle.load_state.specs.Accepted.{IsPlan}
use Rattle.load_state.specs.Loaded.{LoadedModules}
use Rattle.load_laws.specs.parts.Premises.{HaveOwnNumbers, HasFreeNumber}

pub own_of : (joining : List Joining) → AllPairs (λ j k. j.number ≢ k.number) joining → HaveOwnNumbers joining
own_of [] pairs = tt
own_of (j ∷ joining) pairs = (
  λ k d lt is. pairs 0 (suc k) d (omega arith) (omega arith) (sym is),
  own_of joining (λ i k d lt in'. pairs (suc i) (suc k) d (omega arith) (omega arith)),
)

free_of : (p : SymbolicProcess) (joining : List Joining) → All (λ j. j.number < MAX_MODULES) joining → All (λ j. live_at p j.number ≡ None) joining
    → All (HasFreeNumber p) joining
free_of p joining small none k d lt = (small k d lt, ap (option_map (λ live. live.object)) (none k d lt))

pub sound_of : (joining : List Joining) → All (λ j. IsTaken j.object) joining → All (λ j. IsSound j.object) joining
sound_of joining taken k d lt = (taken k d lt).sound

module _ (l : LoadedModules) (files : Option Files) (root : List ℕ) (asked : Asked) (plan : GroupPlan) (planned : IsPlan l files root asked plan) where
  pub free_numbers_of : HasFreeNumbers l.process plan.joining
  free_numbers_of =
      let names = planned.scoped.names in
      free_numbers_law l.process plan.joining names (facts_of l.process files root plan.joining names planned.scoped.walk)

  pub own_numbers : HaveOwnNumbers plan.joining
  own_numbers = own_of plan.joining free_numbers_of.apart

  pub unused_numbers : All (HasFreeNumber l.process) plan.joining
  unused_numbers = free_of l.process plan.joining free_numbers_of.small free_numbers_of.free
