-- The course of a run is its journal.
use Rattle.std.proofs.Common.{◌≡◌, ℕ, ◌^◌, ◌<◌, List, [], ◌++◌, refl, ap, subst, sym}
use Rattle.std.specs.Prelude.{All, Contains}
use Rattle.std.proofs.lemmas.List.Elements.{All-append, All-contains}
use Rattle.load_model.specs.declared.plan.MemPlan.{MemPlan}
use Rattle.load_model.specs.Unbound.{AllBound}
use Rattle.load_state.specs.Consistent.{IsConsistent}
use Rattle.load_state.specs.Loaded.{Loaded}
use Rattle.run_model.specs.declared.event.Event.{Event}
use Rattle.run_model.specs.declared.event.Event.TheVariants.{Arrive, Enter}
use Rattle.run_model.specs.Courses.{Course}
use Rattle.run_model.specs.Start.{first_events, run_of, state_with}
use Rattle.run_model.specs.State.{State}
use Rattle.call_laws.specs.Schedules.{events_from}
use Rattle.call_laws.specs.TakenTurns.{threads_of}
use Rattle.call_laws.proofs.CourseTurns.{courses_are_turns}
use Rattle.proc_run.specs.BegunProcess.{thread_at_entry}
use Rattle.proc_run.specs.RunParts.{schedule_of}
use Rattle.run_laws.specs.Journal.{IsJournal}
use Rattle.run_laws.specs.parts.JournalLaws.{RunsHaveJournals}
use Rattle.run_laws.proofs.CallArrivals.{calls_arrive, calls_continue, calls_leave_memory, new_calls_begin, stay}
use Rattle.run_laws.proofs.CoursesEnd.{course_ends}
use Rattle.run_laws.proofs.JournalLines.{Tells, turns-tell}
use Rattle.run_laws.proofs.LastTurns.{course_ends_by}
use Rattle.run_laws.proofs.Moments.{StandsAtMoment}
use Rattle.run_laws.proofs.NowhereCalls.{calls_fault}
use Rattle.run_laws.proofs.RunStarts.{begin-lives, begin-reached, begin-stays, first-tells, loaded_bound, loaded_consistent, loaded_plan}

-- of what is loaded, by any schedule
module _ (l : Loaded) (limit : ℕ) (schedule : List (ℕ × ℕ)) (entry : ℕ) (consistent : IsConsistent l) (bound : AllBound l.modules.process) (small : l.modules.plan.memory < 2 ^ 32) where
  abbrev begin : State
  begin = state_with l (thread_at_entry l entry)

  abbrev first : List Event
  first = first_events l (thread_at_entry l entry)

  abbrev turns : List ℕ
  turns = threads_of limit schedule begin

  abbrev course : Course
  course = run_of l limit schedule entry

  events-are : course.events ≡ first ++ events_from limit turns begin
  events-are = ap (λ events. first ++ events) (courses_are_turns limit schedule begin)

  all-tell : All (Tells limit begin turns) course.events
  all-tell =
      subst (All (Tells limit begin turns)) (sym events-are)
      (All-append (Tells limit begin turns) first (events_from limit turns begin) (first-tells l entry limit consistent.fits.some_threads turns)
      (turns-tell l limit begin turns [] begin (begin-reached l entry limit consistent.fits.some_threads consistent bound)))

  tells : (e : Event) → Contains course.events e → Tells limit begin turns e
  tells e there = All-contains (Tells limit begin turns) course.events e all-tell there

  stays : StandsAtMoment l limit begin
  stays = begin-stays l entry limit consistent.fits.some_threads consistent bound

  journal_of : IsJournal l limit schedule begin first course
  journal_of = record {
    turns = turns;
    turns' = refl;
    ends = course_ends_by limit schedule begin (begin-lives l entry limit consistent.fits.some_threads) (course_ends limit schedule begin);
    events' = events-are;
    entered = λ n t m k line. (tells (Enter n t m k) line).calls';
    arrived = λ n t f line. (tells (Arrive n t f) line).calls';
    begins = new_calls_begin l small limit begin stays turns;
    arrives = calls_arrive l small limit begin stays turns;
    go_on = calls_continue l small limit begin stays turns;
    keep_memory = calls_leave_memory l small limit begin stays turns;
    fault = calls_fault l small limit begin stays turns;
    stands = λ s coming moment. (stay l small limit begin stays turns s coming moment).loaded';
    within = λ s coming moment. (stay l small limit begin stays turns s coming moment).within;
    told_within = λ e line. (tells e line).within;
  }

pub runs_have_journals_lem : RunsHaveJournals
runs_have_journals_lem job told c small run =
    let l : Loaded = run.loaded in
    let thread = thread_at_entry l run.entry in
    let below : l.modules.plan.memory < 2 ^ 32 = subst (λ (p : MemPlan). p.memory < 2 ^ 32) (sym (loaded_plan job.plan told job.program l run.loads)) small in
    subst (IsJournal l job.steps (schedule_of job.turns) (state_with l thread) (first_events l thread)) (sym run.course')
    (journal_of l job.steps (schedule_of job.turns) run.entry (loaded_consistent job.plan told job.program l run.loads) (loaded_bound job.plan told job.program l run.loads) below)
