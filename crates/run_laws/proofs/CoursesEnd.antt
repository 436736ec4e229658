-- Every course ends: the limit comes, where nothing else does.
use Rattle.std.proofs.Common.{◌≡◌, ℕ, zero, suc, ◌+◌, ◌%◌, ◌<◌, ◌≤◌, true, List, [], ◌∷◌, map, length, Option, Some, None, refl, ap, sym, subst, arith}
use Rattle.std.specs.Prelude.{is_some}
use Rattle.std.specs.List.{range_with_len}
use Rattle.run_model.specs.declared.event.Event.{Event}
use Rattle.run_model.specs.declared.thread.Thread.{Thread}
use Rattle.run_model.specs.declared.thread.Turned.{Turned}
use Rattle.run_model.specs.declared.thread.Turned.TheVariants.{Next, Yield, ThreadDone, Ended, Stopped, StoreFault, SinkFault, Memory}
use Rattle.run_model.specs.Courses.{Course, course_of, followed, freely, turns_of}
use Rattle.run_model.specs.State.{State, live_from, lives, thread_at}
use Rattle.run_model.specs.Start.{first_cpu, first_thread, state_with}
use Rattle.run_model.specs.Turns.{turn_of, turned_at}
use Rattle.proc_run.specs.RunParts.{schedule_of}
use Rattle.proc_run.specs.parts.Turns.{GoesOn}
use Rattle.proc_run.proofs.TurnEnds.{IfNext, IsOwn, answers}
use Rattle.proc_run.proofs.FirstLive.{passes}
use Rattle.run_laws.specs.parts.RunLaws.{HasEnded, RunsEnd}

-- ---- turns of a schedule

turn_by : (limit : ℕ) (s : State) (t : ℕ) (place : Option Thread) → thread_at s.threads t ≡ place → IsOwn (turn_of limit s t).answer
unfolding turn_of
turn_by limit s t None is = subst (λ (x : Option Thread). IsOwn (turned_at limit s t x).answer) (sym is) tt
turn_by limit s t (Some thread) is = (answers limit s t (ap is_some is)).own

-- the turn of any thread ends by what is inside of it
own_turn : (limit : ℕ) (s : State) (t : ℕ) → IsOwn (turn_of limit s t).answer
own_turn limit s t = turn_by limit s t (thread_at s.threads t) refl

-- a course ends where what follows its first turn does
followed_ends : (answer : Turned) (events : List Event) (same others : Course) → IsOwn answer → HasEnded same.answer → HasEnded others.answer
    → HasEnded (followed answer events same others).answer
followed_ends Next events same others own h k = h
followed_ends Yield events same others own h k = k
followed_ends ThreadDone events same others own h k = k
followed_ends Ended events same others own h k = tt
followed_ends (Stopped why) events same others own h k = tt
followed_ends StoreFault events same others own h k = absurd own
followed_ends SinkFault events same others own h k = absurd own
followed_ends Memory events same others own h k = absurd own

turns_end : (limit t : ℕ) (rest : State → Course) → ((s : State) → HasEnded (rest s).answer) → (n : ℕ) (s : State) → HasEnded (turns_of limit t rest n s).answer
turns_end limit t rest ends zero s = ends s
turns_end limit t rest ends (suc n) s =
    let taken = turn_of limit s t in
    followed_ends taken.answer taken.events (turns_of limit t rest n taken.state) (rest taken.state) (own_turn limit s t) (turns_end limit t rest ends n taken.state) (ends taken.state)

-- ---- turns that no schedule names

-- where this thread goes on, it lives
abbrev Goes : Option ℕ → State → Type 0
Goes goes s = (t : ℕ) → goes ≡ Some t → lives s.threads t ≡ true

next_lives : (s : State) (t : ℕ) → Goes (live_from s.threads t) s
next_lives s t u is = passes (lives s.threads) (map (λ i. (t + i) % length s.threads) (range_with_len 0 (length s.threads))) u is

-- at the limit no turn goes on
last_ends : (answer : Turned) (limit steps after : ℕ) → IsOwn answer → GoesOn answer ((steps < limit) × (after ≡ suc steps)) → limit ≤ steps → HasEnded answer
last_ends Next limit steps after own goes le = absurd (omega (arith, goes.0))
last_ends Yield limit steps after own goes le = absurd (omega (arith, goes.0))
last_ends ThreadDone limit steps after own goes le = absurd (omega (arith, goes.0))
last_ends Ended limit steps after own goes le = tt
last_ends (Stopped why) limit steps after own goes le = tt
last_ends StoreFault limit steps after own goes le = absurd own
last_ends SinkFault limit steps after own goes le = absurd own
last_ends Memory limit steps after own goes le = absurd own

-- one step, and then no more than so many
module _ (limit most t : ℕ) (s later : State) (events : List Event) (le : limit ≤ s.steps + suc most)
    (rest : (goes : Option ℕ) → Goes goes later → limit ≤ later.steps + most → HasEnded (freely limit most goes later).answer) where
  abbrev others : Option ℕ
  others = live_from later.threads (suc t)

  left : (s.steps < limit) × (later.steps ≡ suc s.steps) → limit ≤ later.steps + most
  left goes = omega (arith, goes.1)

  one_ends : (answer : Turned) → IsOwn answer → GoesOn answer ((s.steps < limit) × (later.steps ≡ suc s.steps)) → IfNext answer (lives later.threads t ≡ true)
      → HasEnded (followed answer events (freely limit most (Some t) later) (freely limit most others later)).answer
  one_ends Next own goes live = rest (Some t) (λ u is. let same : t ≡ u = cc in subst (λ v. lives later.threads v ≡ true) same live) (left goes)
  one_ends Yield own goes live = rest others (next_lives later (suc t)) (left goes)
  one_ends ThreadDone own goes live = rest others (next_lives later (suc t)) (left goes)
  one_ends Ended own goes live = tt
  one_ends (Stopped why) own goes live = tt
  one_ends StoreFault own goes live = absurd own
  one_ends SinkFault own goes live = absurd own
  one_ends Memory own goes live = absurd own

freely_ends : (limit most : ℕ) (goes : Option ℕ) (s : State) → Goes goes s → limit ≤ s.steps + most → HasEnded (freely limit most goes s).answer
freely_ends limit most None s live le = tt
freely_ends limit zero (Some t) s live le =
    let taken = turn_of limit s t in
    let a = answers limit s t (live t refl) in
    last_ends taken.answer limit s.steps taken.state.steps a.own a.steps (omega (arith, le))
freely_ends limit (suc most) (Some t) s live le =
    let taken = turn_of limit s t in
    let a = answers limit s t (live t refl) in
    one_ends limit most t s taken.state taken.events le (λ goes lives' left'. freely_ends limit most goes taken.state lives' left') taken.answer a.own a.steps a.goes

-- ---- the course

pub course_ends : (limit : ℕ) (turns : List (ℕ × ℕ)) (s : State) → HasEnded (course_of limit turns s).answer
course_ends limit [] s = freely_ends limit limit (live_from s.threads 0) s (next_lives s 0) (omega arith)
course_ends limit (turn ∷ turns) s = turns_end limit turn.0 (course_of limit turns) (course_ends limit turns) turn.1 s

pub every_run_ends : RunsEnd
every_run_ends job told c p =
    subst (λ (x : Course). HasEnded x.answer) (sym p.course')
    (course_ends job.steps (schedule_of job.turns) (state_with p.loaded (first_thread p.loaded (first_cpu p.loaded p.entry))))
