-- The listing of a program's slots, from what the load of the program answers.
use Rattle.std.proofs.Common.{◌≡◌, ℕ, List, Option, Some, None, Ok, Err, IfSome, sym, ap, subst, inl, inr, refl}
use Rattle.fd_base.specs.Fetched.{Files}
use Rattle.load_model.specs.declared.error.LoadErr.{LoadErr}
use Rattle.load_model.specs.declared.error.LoadErr.TheVariants.{Refused, StoreFault, Memory as Lacks}
use Rattle.load_model.specs.declared.error.LoadRefusal.{LoadRefusal}
use Rattle.load_model.specs.declared.plan.MemPlan.{MemPlan}
use Rattle.load_state.specs.Loaded.{Loaded}
use Rattle.load_state.specs.ProgramLoad.{IsCause, LoadsProgram}
use Rattle.fdpic_cmd.specs.declared.status.Failure.{Failure}
use Rattle.fdpic_cmd.specs.declared.status.Refusal.{Refusal}
use Rattle.fdpic_cmd.specs.Ended.{Gives}
use Rattle.fdpic_cmd.specs.Outcome.{writes}
use Rattle.fdpic_cmd.specs.Program.{IsBound, ProgramMeans, Lists, failure_by}
use Rattle.fdpic_cmd.specs.Slots.{slot_listing}

pub lists : (files : Option Files) (plan : MemPlan) (name : List ℕ) (l : Loaded) (text : List ℕ)
    → LoadsProgram plan name files l → text ≡ slot_listing l.modules.process l.modules.maps → IfSome files (λ told. IsBound plan name told (writes text))
lists None plan name l text h is = tt
lists (Some told) plan name l text h is = record { loaded = l; loads = h; lists = ap writes is }

-- what a command means that lists the slots of a program
pub given_text : (files : Option Files) (plan : MemPlan) (name : List ℕ) (said : LoadRefusal → Refusal) (old new : ℕ) (text : List ℕ)
    → Lists plan name files old new (Ok text) → Gives (ProgramMeans plan name said) files old new (Ok text)
given_text None plan name said old new text h = tt
given_text (Some told) plan name said old new text h = inl h

given_refusal : (files : Option Files) (plan : MemPlan) (name : List ℕ) (said : LoadRefusal → Refusal) (old new : ℕ) (r : LoadRefusal)
    → IsCause plan name files r → Gives (ProgramMeans plan name said) files old new (Err (failure_by said (Refused r)))
given_refusal None plan name said old new r h = tt
given_refusal (Some told) plan name said old new r h = inr (record { refusal = r; refused = h; says = refl })

pub given_error : (files : Option Files) (plan : MemPlan) (name : List ℕ) (said : LoadRefusal → Refusal) (old new : ℕ) (e : LoadErr)
    → Lists plan name files old new (Err e) → Gives (ProgramMeans plan name said) files old new (Err (failure_by said e))
given_error files plan name said old new (Refused r) h = given_refusal files plan name said old new r h
given_error files plan name said old new StoreFault h = h
given_error files plan name said old new Lacks h = tt

-- the same of the failure that a command answers
pub given_failure : (files : Option Files) (plan wanted : MemPlan) (name : List ℕ) (said : LoadRefusal → Refusal) (old new : ℕ) (e : LoadErr) (f : Failure)
    → plan ≡ wanted → f ≡ failure_by said e → Lists plan name files old new (Err e) → Gives (ProgramMeans wanted name said) files old new (Err f)
given_failure files plan wanted name said old new e f is failed h =
    let P : MemPlan → Type 0 = λ p. Gives (ProgramMeans p name said) files old new (Err f) in
    let Q : Failure → Type 0 = λ x. Gives (ProgramMeans plan name said) files old new (Err x) in
    subst P is (subst Q (sym failed) (given_error files plan name said old new e h))
