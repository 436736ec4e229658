-- A process is valid after an open, and after a close where the rest of a valid process is valid.
use Rattle.std.proofs.Common.{ℕ, ◌+◌, ◌-◌, List, Option, sym, subst}
use Rattle.fd_base.specs.Fetched.{Files}
use Rattle.load_model.specs.declared.module.SymbolicProcess.{SymbolicProcess}
use Rattle.load_model.specs.Joined.{Asked, global_after, process_after}
use Rattle.load_model.specs.Validity.{IsValid}
use Rattle.load_process.proofs.Validity.{valid_after}
use Rattle.load_process.proofs.WalkFacts.{facts_of}
use Rattle.load_removal.specs.parts.Laws.{OthersAreValid}
use Rattle.library_model.specs.Closes.{opened_once_less}
use Rattle.library_model.specs.Opens.{IsOpen, opens_of, with_opens}
use Rattle.library_model.specs.parts.Laws.{StepsKeepValid}
use Rattle.library_model.proofs.Left.{left_may_go}
use Rattle.library_model.proofs.Recounted.{recounted, recounted_valid}

-- the process after the load of an open, before the open is counted
abbrev pub loaded_by : (p : SymbolicProcess) (files : Option Files) (root : List ℕ) (asked : Asked) (handle : ℕ) (new : SymbolicProcess)
    → IsOpen p files root asked handle new → SymbolicProcess
loaded_by p files root asked handle new o = process_after p asked.lazy o.joining o.scope (global_after p asked.global o.scope)

pub with_opens_valid : (p : SymbolicProcess) (m k : ℕ) → IsValid p → IsValid (with_opens p m k)
with_opens_valid p m k valid = recounted_valid p (with_opens p m k) m k (recounted p m k) valid

pub less_valid : (p : SymbolicProcess) (m : ℕ) → IsValid p → IsValid (opened_once_less p m)
less_valid p m valid = with_opens_valid p m (opens_of p m - 1) valid

pub loaded_valid : (p : SymbolicProcess) (files : Option Files) (root : List ℕ) (asked : Asked) (handle : ℕ) (new : SymbolicProcess)
    → IsValid p → (o : IsOpen p files root asked handle new) → IsValid (loaded_by p files root asked handle new o)
loaded_valid p files root asked handle new valid o =
    let names = o.scoped.names in
    let facts = facts_of p files root o.joining names o.scoped.walk in
    subst (λ scope. IsValid (process_after p asked.lazy o.joining scope (global_after p asked.global scope))) (sym o.scoped.scope')
    (valid_after p o.joining names facts valid asked)

pub steps_keep_valid : OthersAreValid → StepsKeepValid
steps_keep_valid others = record {
  opens = λ p files root asked handle new valid o.
      let q = loaded_by p files root asked handle new o in
      subst IsValid (sym o.after) (with_opens_valid q handle (opens_of q handle + 1) (loaded_valid p files root asked handle new valid o));
  closes = λ p m gone new valid c.
      let less = opened_once_less p m in
      let fewer = less_valid p m valid in
      subst IsValid (sym c.after) (others less gone fewer (left_may_go less gone fewer c.gone'));
}
