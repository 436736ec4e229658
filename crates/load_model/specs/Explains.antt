-- What the error of a load says.
use Rattle.std.specs.Prelude.{ℕ}
use Rattle.fd_base.specs.Faults.{Rose}
use Rattle.load_model.specs.declared.error.LoadRefusal.{LoadRefusal}
use Rattle.load_model.specs.declared.error.LoadErr.{LoadErr}
use Rattle.load_model.specs.declared.error.LoadErr.TheVariants.{Refused, StoreFault, Memory}

-- a refusal by its cause, a fault only where the store's count rose, and nothing of memory
abbrev pub Explains : (LoadRefusal → Type 0) → ℕ → ℕ → LoadErr → Type 0
Explains because old new (Refused r) = because r
Explains because old new StoreFault = Rose old new
Explains because old new Memory = Unit {0}
