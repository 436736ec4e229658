-- What the error of a call says.
use Rattle.load_model.specs.declared.error.LoadRefusal.{LoadRefusal}
use Rattle.load_model.specs.declared.error.LoadErr.{LoadErr}
use Rattle.load_model.specs.declared.error.LoadErr.TheVariants.{Refused, StoreFault, Memory}

-- a refusal by its cause, and nothing of memory; no store is asked
abbrev pub Tells : (LoadRefusal → Type 0) → LoadErr → Type 0
Tells because (Refused r) = because r
Tells because StoreFault = ⊥
Tells because Memory = Unit {0}
