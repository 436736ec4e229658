-- How the run of a job ends, from its start and its course.
use Rattle.std.proofs.Common.{◌≡◌, ℕ, List, Option, Some, None, IfSome, inr, ap, subst}
use Rattle.fd_base.specs.Fetched.{Files}
use Rattle.load_state.specs.Loaded.{Loaded}
use Rattle.run_model.specs.declared.job.Job.{Job}
use Rattle.run_model.specs.declared.job.Turn.{Turn}
use Rattle.run_model.specs.Courses.{Course, before, course_of}
use Rattle.run_model.specs.Start.{run_of}
use Rattle.proc_run.specs.declared.end.RunEnd.{RunEnd}
use Rattle.proc_run.specs.declared.end.RunEnd.TheVariants.{Ended, Stopped, Refused, StoreFault, SinkFault, Memory}
use Rattle.proc_run.specs.BegunProcess.{IsBegun}
use Rattle.proc_run.specs.RunEnds.{IsRun, RunEnds}
use Rattle.proc_run.specs.StartAnswers.{IsStarted}
use Rattle.proc_run.specs.RunParts.{EndsAs, schedule_of}
use Rattle.proc_run.specs.RunningProcess.{Running}

abbrev course_from : Running → Job → Course
course_from p job = before p.pending (course_of p.limit (schedule_of job.turns) p.state)

-- the course of the process that starts is the job's
is_course : (job : Job) (l : Loaded) (p : Running) (b : IsBegun l job.steps p) → course_from p job ≡ run_of l job.steps (schedule_of job.turns) b.entry
is_course job l p b = ap (λ (q : Running). course_from q job) b.begins

of_start : (job : Job) (files : Option Files) (p : Running) → IsStarted job files p → IfSome files (λ told. IsRun job told (course_from p job))
of_start job None p h = tt
of_start job (Some told) p h = record {
  eager = h.eager;
  loaded = p.state.loaded;
  entry = h.begins.entry;
  loads = h.loads;
  entry' = h.begins.entry';
  course' = is_course job p.state.loaded p h.begins;
}

weaker : {P Q : Files → Type 0} (files : Option Files) → ((told : Files) → P told → Q told) → IfSome files P → IfSome files Q
weaker None f h = tt
weaker (Some told) f h = f told h

pub run_ends : (e : RunEnd) (job : Job) (files : Option Files) (p : Running) (old new : ℕ) (out later : Option (List ℕ)) (faults after : ℕ)
    → IsStarted job files p → EndsAs e (course_from p job) out later faults after → RunEnds e job files old new out later faults after
run_ends Ended job files p old new out later faults after h k =
    weaker files (λ told run. record { course = course_from p job; run = run; answer' = k.0; grew = k.1 }) (of_start job files p h)
run_ends (Stopped why) job files p old new out later faults after h k =
    weaker files (λ told run. record { course = course_from p job; run = run; answer' = k.0; grew = k.1 }) (of_start job files p h)
run_ends (Refused r) job files p old new out later faults after h k = absurd k
run_ends StoreFault job files p old new out later faults after h k = absurd k
run_ends SinkFault job files p old new out later faults after h k =
    (k.0, weaker files (λ told run. record { course = course_from p job; run = run; grew = k.1 }) (of_start job files p h))
run_ends Memory job files p old new out later faults after h k =
    inr (weaker files (λ told run. record { course = course_from p job; run = run; grew = k }) (of_start job files p h))

-- the same with the turns of the job as a list
pub run_ends_with : (e : RunEnd) (job : Job) (files : Option Files) (p : Running) (turns : List Turn) (old new : ℕ) (out later : Option (List ℕ)) (faults after : ℕ)
    → turns ≡ job.turns → IsStarted job files p → EndsAs e (before p.pending (course_of p.limit (schedule_of turns) p.state)) out later faults after
    → RunEnds e job files old new out later faults after
run_ends_with e job files p turns old new out later faults after same h k =
    run_ends e job files p old new out later faults after h
    (subst (λ (ts : List Turn). EndsAs e (before p.pending (course_of p.limit (schedule_of ts) p.state)) out later faults after) same k)
