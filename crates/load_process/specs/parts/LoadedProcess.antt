-- The process that a walk over needed names leads to (gABI, "Shared Object Dependencies").
use Rattle.std.specs.Prelude.{ℕ, List}
use Rattle.load_model.specs.declared.module.Joining.{Joining}
use Rattle.load_model.specs.declared.module.SymbolicProcess.{SymbolicProcess}
use Rattle.load_model.specs.Joined.{Asked, global_after, process_after}
use Rattle.load_model.specs.Linkage.{closure_of, scope_with}

-- the scope of the new modules of a walk
abbrev pub scope_after : SymbolicProcess → List Joining → List (List ℕ) → List ℕ
scope_after p joining names = scope_with p (closure_of p joining names)

-- the process after the load of a walk
abbrev pub loaded : SymbolicProcess → List Joining → List (List ℕ) → Asked → SymbolicProcess
loaded p joining names asked =
    process_after p asked.lazy joining (scope_after p joining names) (global_after p asked.global (scope_after p joining names))
