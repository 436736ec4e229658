-- Runs of turns of which nothing is told.
use Rattle.std.proofs.Common.{◌≡◌, ℕ, zero, suc, ◌+◌, ◌-◌, ◌<◌, ◌≤◌, true, List, [], Result, Ok, Err, Option, Some, None, refl, sym, ap, subst, ◌∙◌, arith}
use Rattle.std.specs.Prelude.{IfOk, OnOk}
use Rattle.run_model.specs.declared.event.Event.{Event}
use Rattle.run_model.specs.declared.thread.Turned.{Turned}
use Rattle.run_model.specs.declared.thread.Turned.TheVariants.{Next, Yield, ThreadDone, Ended, Stopped, StoreFault, SinkFault, Memory}
use Rattle.run_model.specs.Courses.{Course, after_turn}
use Rattle.run_model.specs.State.{State, lives}
use Rattle.run_model.specs.Turns.{Taken, turn_of}
use Rattle.run_turn.specs.declared.settling.Settled.{Settled}
use Rattle.run_turn.specs.parts.QuietTurns.{quiet}
use Rattle.proc_run.specs.declared.end.Going.{Going}
use Rattle.proc_run.specs.declared.end.Going.TheVariants.{Same, Others}
use Rattle.proc_run.specs.declared.end.RunEnd.{RunEnd}
use Rattle.proc_run.specs.RunningProcess.{Running}
use Rattle.proc_run.specs.RunParts.{DoesPart, GoesSame, after_step}
use Rattle.proc_run.specs.parts.QuietRuns.{AnswersAs, ArePassed, ArePassing, AreQuiet, HasPassed, IsPassing, Passes}
use Rattle.proc_run.specs.parts.ReadyProcess.{IsReady, IsRunning}
use Rattle.proc_run.specs.parts.Turns.{GoesOn, IfNext, with_lines}
use Rattle.proc_run.proofs.TurnEnds.{Answers, answers}

by_answer : (P Q : Type 0) (answer : Turned) → (P → Q) → GoesOn answer P → GoesOn answer Q
by_answer P Q Next f h = f h
by_answer P Q Yield f h = f h
by_answer P Q ThreadDone f h = f h
by_answer P Q Ended f h = tt
by_answer P Q (Stopped why) f h = tt
by_answer P Q StoreFault f h = tt
by_answer P Q SinkFault f h = tt
by_answer P Q Memory f h = tt

module _ (limit t : ℕ) where
  pub none_passed : (s : State) (left : ℕ) → lives s.threads t ≡ true → ArePassed limit t s left s left
  none_passed s left live = record { part = λ same others chain. refl; steps = refl; fewer = omega arith; below = λ lt. absurd (omega arith); goes = live }

  -- one more quiet turn
  pub one_passed : (old mid new : State) (left l : ℕ) → 0 < l → ArePassed limit t old left mid l → turn_of limit mid t ≡ quiet new → ArePassed limit t old left new (l - 1)
  one_passed old mid new left l lt h is =
      let more : l ≡ suc (l - 1) = omega arith in
      let b : Answers limit mid t (quiet new) = subst (Answers limit mid t) is (answers limit mid t h.goes) in
      record {
        part = λ same others chain.
            h.part same others chain ∙ ap (λ (n : ℕ). same n mid) more ∙ chain (l - 1) mid ∙ ap (λ (x : Taken). after_turn x (same (l - 1)) (others (l - 1))) is;
        steps = omega (arith, b.steps.1, h.steps, lt);
        fewer = omega (arith, h.fewer);
        below = λ less. omega (arith, b.steps.0, h.steps, h.fewer);
        goes = b.goes;
      }

  -- a turn of which something may be told
  pub last_passed : (old mid new : State) (left l : ℕ) (answer : Turned) (events : List Event) → 0 < l → ArePassed limit t old left mid l
      → turn_of limit mid t ≡ record { answer = answer; state = new; events = events } → HasPassed limit t old left new (l - 1) answer events
  last_passed old mid new left l answer events lt h is =
      let more : l ≡ suc (l - 1) = omega arith in
      let b : Answers limit mid t (record { answer = answer; state = new; events = events }) = subst (Answers limit mid t) is (answers limit mid t h.goes) in
      record {
        part = λ same others chain.
            h.part same others chain ∙ ap (λ (n : ℕ). same n mid) more ∙ chain (l - 1) mid ∙ ap (λ (x : Taken). after_turn x (same (l - 1)) (others (l - 1))) is;
        own = b.own;
        fewer = omega (arith, h.fewer, lt);
        steps = by_answer ((mid.steps < limit) × (new.steps ≡ suc mid.steps)) (new.steps + (l - 1) ≡ old.steps + left) answer
            (λ s. omega (arith, s.1, h.steps, lt)) b.steps;
        below = by_answer ((mid.steps < limit) × (new.steps ≡ suc mid.steps)) (old.steps < limit) answer (λ s. omega (arith, s.0, h.steps, h.fewer)) b.steps;
        goes = b.goes;
      }

  -- nothing is told of any
  pub all_passed : (old new : State) (left l : ℕ) (events : List Event) → events ≡ [] → l ≤ 0 → 0 < left → ArePassed limit t old left new l → HasPassed limit t old left new l Next events
  all_passed old new left l events none le lt h = rw none (record {
    part = λ same others chain. h.part same others chain;
    own = tt;
    fewer = omega arith;
    steps = h.steps;
    below = h.below (omega arith);
    goes = h.goes;
  })

  -- more quiet turns
  pub many_passed : (n : ℕ) (old mid new : State) (left l later : ℕ) → later + n ≡ l → ArePassed limit t old left mid l → AreQuiet limit t n mid new → ArePassed limit t old left new later
  many_passed zero old mid new left l later all h quiets =
      let same : l ≡ later = omega arith in
      subst (λ (k : ℕ). ArePassed limit t old left new k) same (subst (λ (s : State). ArePassed limit t old left s l) (sym quiets) h)
  many_passed (suc n) old mid new left l later all h quiets =
      let one_less : suc later - 1 ≡ later = omega arith in
      let before : ArePassed limit t old left quiets.0 (suc later) = many_passed n old mid quiets.0 left l (suc later) (omega arith) h quiets.1 in
      subst (λ (k : ℕ). ArePassed limit t old left new k) one_less (one_passed old quiets.0 new left (suc later) (omega arith) before quiets.2)

module _ (limit t : ℕ) (old : State) (p q : Running) (left l later : ℕ) (r : Option Settled) (h : ArePassed limit t old left p.state l) (ready : IsReady limit p)
    (passes : Passes p.limit t r l later p.state q.state) where
  within : Passes limit t r l later p.state q.state
  within = subst (λ (most : ℕ). Passes most t r l later p.state q.state) ready.limit' passes

  nothing_told : r ≡ None → ArePassing limit t l later p.state q.state
  nothing_told none = subst (λ (o : Option Settled). Passes limit t o l later p.state q.state) none within

  pub quiet_next : r ≡ None → ArePassed limit t old left q.state later
  quiet_next none =
      let k = nothing_told none in
      many_passed limit t k.count old p.state q.state left l later k.taken h k.quiet'

  pub fewer_left : r ≡ None → later < l
  fewer_left none =
      let k = nothing_told none in
      omega (arith, k.taken, k.some)

  pub told_next : (answer : Turned) (events : List Event) → r ≡ Some (record { answer = answer; events = events }) → HasPassed limit t old left q.state later answer events
  told_next answer events some =
      let k : IsPassing limit t l later p.state q.state (record { answer = answer; events = events }) =
      subst (λ (o : Option Settled). Passes limit t o l later p.state q.state) some within in
      let one_less : suc later - 1 ≡ later = omega arith in
      let before : ArePassed limit t old left k.mid (suc later) = many_passed limit t k.count old p.state k.mid left l (suc later) (omega (arith, k.taken)) h k.quiet' in
      subst (λ (n : ℕ). HasPassed limit t old left q.state n answer events) one_less
      (last_passed limit t old k.mid q.state left (suc later) answer events (omega arith) before k.turn)

-- a process stays ready by a turn that changes its state alone
pub ready_next : (limit : ℕ) (p q : Running) → IsReady limit p → q ≡ record p { state = q.state } → IsRunning q → IsReady limit q
ready_next limit p q h rest running = record {
  running = running;
  limit' = ap (λ (x : Running). x.limit) rest ∙ h.limit';
  none = ap (λ (x : Running). x.pending) rest ∙ h.none;
}

-- ---- after the lines are put

pub part_as : (mid new : Running) (r : Result Going RunEnd) → OnOk r (new ≡ with_lines mid mid.state) → (whole : Course) (same others : State → Course) (out later : Option (List ℕ)) (before after : ℕ)
    → DoesPart whole (after_step (same mid.state) (others mid.state)) out later before after r
    → DoesPart whole (after_step (same new.state) (others new.state)) out later before after r
part_as mid new (Ok going) rest whole same others out later before after h =
    let P : State → Type 0 = λ s. DoesPart whole (after_step (same s) (others s)) out later before after (Ok going) in
    subst P (sym (ap (λ (p : Running). p.state) rest)) h
part_as mid new (Err e) rest whole same others out later before after h = h

pub ready_as : (mid new : Running) (limit : ℕ) (r : Result Going RunEnd) → OnOk r (new ≡ with_lines mid mid.state) → IsRunning mid → mid.limit ≡ limit → OnOk r (IsReady limit new)
ready_as mid new limit (Ok going) rest running is = rw rest (record {
  running = record { consistent = running.consistent; count = running.count; calls = running.calls };
  limit' = is;
  none = refl;
})
ready_as mid new limit (Err e) rest running is = tt

by_going : (P : Type 0) (answer : Turned) (going : Going) → AnswersAs answer going → GoesOn answer P → P
by_going P Next going is h = h
by_going P Yield going is h = h
by_going P ThreadDone going is h = h
by_going P Ended going is h = absurd is
by_going P (Stopped why) going is h = absurd is
by_going P StoreFault going is h = absurd is
by_going P SinkFault going is h = absurd is
by_going P Memory going is h = absurd is

pub state_as : (mid new : Running) (answer : Turned) (r : Result Going RunEnd) → OnOk r (new ≡ with_lines mid mid.state) → IfOk r (AnswersAs answer) → (P : State → Type 0)
    → GoesOn answer (P mid.state) → OnOk r (P new.state)
state_as mid new answer (Ok going) rest goes P h = subst P (sym (ap (λ (p : Running). p.state) rest)) (by_going (P mid.state) answer going goes h)
state_as mid new answer (Err e) rest goes P h = tt

same_goes : (P : Type 0) (answer : Turned) (going : Going) → AnswersAs answer going → IfNext answer P → GoesSame going P
same_goes P Next Same is h = h
same_goes P Next Others is h = tt
same_goes P Yield Same is h = absurd cc
same_goes P Yield Others is h = tt
same_goes P ThreadDone Same is h = absurd cc
same_goes P ThreadDone Others is h = tt
same_goes P Ended going is h = absurd is
same_goes P (Stopped why) going is h = absurd is
same_goes P StoreFault going is h = absurd is
same_goes P SinkFault going is h = absurd is
same_goes P Memory going is h = absurd is

pub lives_as : (mid new : Running) (answer : Turned) (r : Result Going RunEnd) → OnOk r (new ≡ with_lines mid mid.state) → IfOk r (AnswersAs answer) → (P : State → Type 0)
    → IfNext answer (P mid.state) → IfOk r (λ going. GoesSame going (P new.state))
lives_as mid new answer (Ok going) rest goes P h =
    subst (λ (s : State). GoesSame going (P s)) (sym (ap (λ (p : Running). p.state) rest)) (same_goes (P mid.state) answer going goes h)
lives_as mid new answer (Err e) rest goes P h = tt
