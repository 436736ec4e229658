-- What a job is made of.
use Rattle.std.proofs.Common.{◌≡◌, ℕ, ◌+◌, ◌*◌, ◌<◌, ◌≤◌, Bool, true, false, List, [], length, Option, Some, None, Result, Ok, Err, refl, sym, ap, ◌∙◌, subst, arith}
use Rattle.std.specs.Prelude.{drop, if◌then◌else◌}
use Rattle.std.specs.Option.{option_map_or}
use Rattle.std.specs.Result.{result_map_both}
use Rattle.std.proofs.lemmas.Bool.Decides.{nat_tests}
use Rattle.load_model.specs.declared.plan.MemPlan.{MemPlan}
use Rattle.load_model.specs.Plan.{Fits, slots_end, low_of, high_of}
use Rattle.load_model.proofs.PlanParts.{low_above}
use Rattle.run_model.specs.declared.job.Job.{Job}
use Rattle.job_text.specs.declared.given.Given.{Given}
use Rattle.job_text.specs.declared.limits.Limits.{Limits}
use Rattle.job_text.specs.declared.refusal.JobKind.{JobKind}
use Rattle.job_text.specs.declared.refusal.JobKind.TheVariants.{First, NoProgram, Small}
use Rattle.job_text.specs.declared.refusal.JobRefusal.{JobRefusal}
use Rattle.job_text.specs.Given.{has_room, plan_by, job_of_program, job_by}
use Rattle.job_text.specs.Job.{is_headed, given_behind, refused_at, first_refusal, unless, job_behind, job_of}

-- the job of what is given has its program, and its parts fit
pub record MadeBy (limits : Limits) (given : Given) (job : Job) : Type 0 where
  pub program : List ℕ
  pub named : given.program ≡ Some program
  pub room : has_room (plan_by limits given) ≡ true
  pub is : job ≡ job_of_program limits given program

by_room : (limits : Limits) (given : Given) (program : List ℕ) (b : Bool) (job : Job) → given.program ≡ Some program → has_room (plan_by limits given) ≡ b
    → (if b then Ok (job_of_program limits given program) else Err Small) ≡ Ok job → MadeBy limits given job
by_room limits given program true job named room e = record { program = program; named = named; room = room; is = cc }
by_room limits given program false job named room e = cc

by_program : (limits : Limits) (given : Given) (program : Option (List ℕ)) (job : Job) → given.program ≡ program
    → option_map_or (λ p. if has_room (plan_by limits given) then Ok (job_of_program limits given p) else Err Small) program (Err NoProgram) ≡ Ok job → MadeBy limits given job
by_program limits given None job named e = cc
by_program limits given (Some program) job named e = by_room limits given program (has_room (plan_by limits given)) job named refl e

made_by : (limits : Limits) (given : Given) (job : Job) → job_by limits given ≡ Ok job → MadeBy limits given job
unfolding job_by
made_by limits given job e = by_program limits given given.program job refl e

-- a job is made of what the lines behind the first one give, of which none is refused
pub record Made (limits : Limits) (left : List (List ℕ)) (job : Job) : Type 0 where
  pub passes : first_refusal limits [] left ≡ None
  pub made : MadeBy limits (given_behind limits left) job

by_refusal : (limits : Limits) (left : List (List ℕ)) (job : Job) (r : Option JobRefusal) (answer : Result Job JobKind) → first_refusal limits [] left ≡ r → job_by limits (given_behind limits left) ≡ answer
    → unless r (result_map_both (λ j. j) (refused_at (length left + 2)) answer) ≡ Ok job → Made limits left job
by_refusal limits left job (Some r) answer passes is e = cc
by_refusal limits left job None (Err kind) passes is e = cc
by_refusal limits left job None (Ok made) passes is e =
    let same : made ≡ job = cc in
    let answer_is : job_by limits (given_behind limits left) ≡ Ok job = is ∙ ap Ok same in record {
      passes = passes;
      made = made_by limits (given_behind limits left) job answer_is;
    }

made_behind : (limits : Limits) (left : List (List ℕ)) (job : Job) → job_behind limits left ≡ Ok job → Made limits left job
unfolding job_behind
made_behind limits left job e = by_refusal limits left job (first_refusal limits [] left) (job_by limits (given_behind limits left)) refl refl e

by_header : (limits : Limits) (left : List (List ℕ)) (job : Job) (b : Bool) → (if b then job_behind limits left else Err (refused_at 1 First)) ≡ Ok job → Made limits left job
by_header limits left job true e = made_behind limits left job e
by_header limits left job false e = cc

pub job_is_made : (limits : Limits) (lines : List (List ℕ)) (job : Job) → job_of limits lines ≡ Ok job → Made limits (drop 1 lines) job
unfolding job_of
job_is_made limits lines job e = by_header limits (drop 1 lines) job (is_headed lines) e

-- nothing fits in a memory of fewer bytes than there are slots
pub no_room : (plan : MemPlan) → plan.memory < plan.descriptors * plan.processes → has_room plan ≡ false
no_room plan more =
    let above : slots_end plan ≤ low_of plan = low_above plan in
    let behind : high_of plan < low_of plan = omega arith in
    grind (arith, nat_tests)

pub room_fits : (plan : MemPlan) → has_room plan ≡ true → Fits plan
room_fits plan e = record {
  some_threads = grind (arith, nat_tests);
  some_processes = grind (arith, nat_tests);
  stacks = grind (arith, nat_tests);
  modules = grind (arith, nat_tests);
}

pub job_fits : (limits : Limits) (lines : List (List ℕ)) (job : Job) → job_of limits lines ≡ Ok job → Fits job.plan
job_fits limits lines job e =
    let m = (job_is_made limits lines job e).made in
    subst (λ (j : Job). Fits j.plan) (sym m.is) (room_fits (plan_by limits (given_behind limits (drop 1 lines))) m.room)
