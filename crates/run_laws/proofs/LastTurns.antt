-- The last turn of a course ends it.
use Rattle.std.proofs.Common.{◌≡◌, ◌≢◌, ℕ, zero, suc, ◌+◌, ◌-◌, ◌*◌, ◌%◌, ◌/◌, ◌<◌, Bool, true, false, List, [], ◌∷◌, ◌++◌, Option, Some, None, length, refl, ap, sym, subst, ◌∙◌, arith, inl, inr}
use Rattle.std.specs.Prelude.{IfSome, find, map, option_and_then, set}
use Rattle.std.specs.List.{range_with_len}
use Rattle.std.proofs.Math.Nat.{add-mul}
use Rattle.std.proofs.lemmas.Bool.{cases_lt}
use Rattle.std.proofs.lemmas.Nat.{div-add-mod', mod-mul-add, mod_below}
use Rattle.std.proofs.lemmas.List.{get_or-set_same}
use Rattle.fd_base.proofs.Options.{cond_none_parts}
use Rattle.run_model.specs.declared.event.Event.{Event}
use Rattle.run_model.specs.declared.thread.Thread.{Thread}
use Rattle.run_model.specs.declared.thread.Turned.{Turned}
use Rattle.run_model.specs.declared.thread.Turned.TheVariants.{Next, Yield, ThreadDone, Ended, Stopped, StoreFault, SinkFault, Memory}
use Rattle.run_model.specs.Courses.{Course, after_turn, course_of, followed, freely, turns_of}
use Rattle.run_model.specs.State.{State, live_from, lives, some_lives, thread_at}
use Rattle.run_model.specs.Turns.{Taken, turn_of, with_calls}
use Rattle.call_laws.proofs.CallWalks.{thread_inside}
use Rattle.call_laws.specs.Schedules.{after, going_on, turns_from}
use Rattle.call_laws.specs.TakenTurns.{threads_after, threads_freely, threads_next, threads_of, threads_of_turns}
use Rattle.run_laws.specs.Moments.{EndsBy}
use Rattle.run_laws.specs.parts.RunLaws.{HasEnded}
use Rattle.run_laws.proofs.TurnCases.{each_turn}

-- ---- some thread lives

abbrev pub SomeLives : State → Type 0
SomeLives s = some_lives s.threads ≡ true

pub lives_among : (xs : List (Option Thread)) (t : ℕ) (thread : Thread) → thread_at xs t ≡ Some thread → some_lives xs ≡ true
lives_among [] t thread at = absurd cc
lives_among (None ∷ xs) zero thread at = absurd cc
lives_among (Some x ∷ xs) zero thread at = refl
lives_among (None ∷ xs) (suc t) thread at = lives_among xs t thread at
lives_among (Some x ∷ xs) (suc t) thread at = refl

-- one that lives
one_of : (xs : List (Option Thread)) → some_lives xs ≡ true → (t : ℕ) × (t < length xs) × (lives xs t ≡ true)
one_of [] some = absurd cc
one_of (None ∷ xs) some = let one = one_of xs some in (suc one.0, omega (arith, one.1), one.2)
one_of (Some x ∷ xs) some = (0, omega arith, refl)

nothing_at : (p : ℕ → Bool) (f : ℕ → ℕ) (a k i : ℕ) → find p (map f (range_with_len a k)) ≡ None → i < k → p (f (a + i)) ≡ false
nothing_at p f a zero i none lt = absurd (omega arith)
nothing_at p f a (suc k) zero none lt =
    let here : a + 0 ≡ a = omega arith in
    ap (λ j. p (f j)) here ∙ (cond_none_parts (p (f a)) (f a) (find p (map f (range_with_len (a + 1) k))) none).0
nothing_at p f a (suc k) (suc i) none lt =
    let there : a + suc i ≡ a + 1 + i = omega arith in
    ap (λ j. p (f j)) there ∙ nothing_at p f (a + 1) k i (cond_none_parts (p (f a)) (f a) (find p (map f (range_with_len (a + 1) k))) none).1 (omega arith)

-- each place is some way on from every other
way_on : (n t u : ℕ) → u < n → (i : ℕ) × (i < n) × ((t + i) % n ≡ u)
way_on n t u lt =
    let rest : t % n < n = mod_below t n (omega arith) in
    let parts : t / n * n + t % n ≡ t = div-add-mod' t n in
    elim (cases_lt u (t % n)) as (λ _. (i : ℕ) × (i < n) × ((t + i) % n ≡ u)) [
      | inl before ↦
          let one = add-mul (t / n) 1 n in
          let there : t + (u + n - t % n) ≡ (t / n + 1) * n + u = omega (arith, rest, parts, before, one) in
          (u + n - t % n, omega (arith, rest, before), ap (λ m. m % n) there ∙ mod-mul-add (t / n + 1) n u lt)
      | inr behind ↦
          let there : t + (u - t % n) ≡ t / n * n + u = omega (arith, rest, parts, behind) in
          (u - t % n, omega (arith, lt), ap (λ m. m % n) there ∙ mod-mul-add (t / n) n u lt)
    ]

some_from : (s : State) (t : ℕ) → SomeLives s → live_from s.threads t ≢ None
some_from s t some none =
    let n = length s.threads in
    let one = one_of s.threads some in
    let way = way_on n t one.0 one.1 in
    let fails : lives s.threads ((t + (0 + way.0)) % n) ≡ false = nothing_at (lives s.threads) (λ i. (t + i) % n) 0 n way.0 none way.1 in
    let start : 0 + way.0 ≡ way.0 = omega arith in
    let same : lives s.threads ((t + (0 + way.0)) % n) ≡ lives s.threads one.0 = ap (λ i. lives s.threads ((t + i) % n)) start ∙ ap (lives s.threads) way.2 in
    let never : false ≡ true = sym fails ∙ same ∙ one.2 in
    cc

-- a turn that goes on leaves one
turn-leaves : (limit : ℕ) (s : State) (t : ℕ) → SomeLives s → IfSome (after (turn_of limit s t)) SomeLives
turn-leaves limit s t h =
    each_turn limit s t (λ (taken : Taken). IfSome (after taken) SomeLives)
    (record {
      absent = λ none. h;
      halts = λ why. tt;
      goes = λ was thread memory step out answer told goes.
          let moved : Thread = with_calls s.loaded.modules.process s.loaded.modules.maps thread in
          let there = get_or-set_same s.threads t (Some moved) None (thread_inside s.threads t was step.at) in
          subst (λ (o : Option State). IfSome o SomeLives) (sym (goes _))
          (lives_among (set s.threads t (Some moved)) t moved there);
      leaves = λ was thread memory step value some. some;
      ends = λ was thread memory step value. tt;
      exits = λ was thread memory step value. tt;
    })

-- ---- the last turn

module _ (limit : ℕ) where
  -- of these turns from a state on, the last one has this answer
  pub record IsLast (s : State) (turns : List ℕ) (answer : Turned) : Type 0 where
    pub mid : State
    pub t : ℕ
    pub done : List ℕ
    pub turns' : turns ≡ done ++ t ∷ []
    pub reached : turns_from limit done s ≡ Some mid
    pub answer' : (turn_of limit mid t).answer ≡ answer

  here : (s : State) (t : ℕ) (answer : Turned) → (turn_of limit s t).answer ≡ answer → IsLast s (t ∷ []) answer
  here s t answer is = record { mid = s; t = t; done = []; turns' = refl; reached = refl; answer' = is }

  later-on : (s : State) (t : ℕ) (later : State) (turns : List ℕ) (answer : Turned) → after (turn_of limit s t) ≡ Some later → IsLast later turns answer → IsLast s (t ∷ turns) answer
  later-on s t later turns answer goes k = record {
    mid = k.mid;
    t = k.t;
    done = t ∷ k.done;
    turns' = ap (λ ts. t ∷ ts) k.turns';
    reached = ap (option_and_then (turns_from limit k.done)) goes ∙ k.reached;
    answer' = k.answer';
  }

  -- a course with its turns, where some thread lives
  abbrev HasLast : State → Course → List ℕ → Type 0
  HasLast s course turns = SomeLives s → IsLast s turns course.answer

  followed-last : (s : State) (t : ℕ) (events : List Event) (later : State) (answer : Turned) (same others : Course) (ts us : List ℕ) → (turn_of limit s t).answer ≡ answer
      → after (turn_of limit s t) ≡ going_on answer later → IfSome (going_on answer later) SomeLives → HasLast later same ts → HasLast later others us
      → IsLast s (t ∷ threads_after answer ts us) (followed answer events same others).answer
  followed-last s t events later Next same others ts us is goes alive h k = later-on s t later ts same.answer goes (h alive)
  followed-last s t events later Yield same others ts us is goes alive h k = later-on s t later us others.answer goes (k alive)
  followed-last s t events later ThreadDone same others ts us is goes alive h k = later-on s t later us others.answer goes (k alive)
  followed-last s t events later Ended same others ts us is goes alive h k = here s t Ended is
  followed-last s t events later (Stopped why) same others ts us is goes alive h k = here s t (Stopped why) is
  followed-last s t events later StoreFault same others ts us is goes alive h k = here s t StoreFault is
  followed-last s t events later SinkFault same others ts us is goes alive h k = here s t SinkFault is
  followed-last s t events later Memory same others ts us is goes alive h k = here s t Memory is

  turn-last : (t : ℕ) (s : State) (same others : State → Course) (ts us : State → List ℕ) → ((later : State) → HasLast later (same later) (ts later))
      → ((later : State) → HasLast later (others later) (us later)) → HasLast s (after_turn (turn_of limit s t) same others) (t ∷ threads_next (turn_of limit s t) ts us)
  turn-last t s same others ts us h k alive =
      let taken : Taken = turn_of limit s t in
      let later : State = taken.state in
      followed-last s t taken.events later taken.answer (same later) (others later) (ts later) (us later) refl refl (turn-leaves limit s t alive) (h later) (k later)

  turns_of-last : (t : ℕ) (rest : State → Course) (us : State → List ℕ) (n : ℕ) → ((later : State) → HasLast later (rest later) (us later)) → (s : State)
      → HasLast s (turns_of limit t rest n s) (threads_of_turns limit t us n s)
  turns_of-last t rest us zero k s = k s
  turns_of-last t rest us (suc n) k s = turn-last t s (turns_of limit t rest n) rest (threads_of_turns limit t us n) us (turns_of-last t rest us n k) k

  freely-last : (most : ℕ) (o : Option ℕ) (s : State) → o ≢ None → HasLast s (freely limit most o s) (threads_freely limit most o s)
  freely-last zero None s some alive = absurd (some refl)
  freely-last (suc most) None s some alive = absurd (some refl)
  freely-last zero (Some t) s some alive = here s t (turn_of limit s t).answer refl
  freely-last (suc most) (Some t) s some alive =
      turn-last t s (freely limit most (Some t)) (λ later. freely limit most (live_from later.threads (suc t)) later) (threads_freely limit most (Some t))
      (λ later. threads_freely limit most (live_from later.threads (suc t)) later) (λ later. freely-last most (Some t) later some)
      (λ later lives. freely-last most (live_from later.threads (suc t)) later (some_from later (suc t) lives) lives) alive

  course-last : (turns : List (ℕ × ℕ)) (s : State) → HasLast s (course_of limit turns s) (threads_of limit turns s)
  course-last [] s alive = freely-last limit (live_from s.threads 0) s (some_from s 0 alive) alive
  course-last (turn ∷ turns) s alive = turns_of-last turn.0 (course_of limit turns) (threads_of limit turns) turn.1 (course-last turns) s alive

  ended_over : (answer : Turned) (s : State) → HasEnded answer → going_on answer s ≡ None
  ended_over Next s h = absurd h
  ended_over Yield s h = absurd h
  ended_over ThreadDone s h = absurd h
  ended_over Ended s h = refl
  ended_over (Stopped why) s h = refl
  ended_over StoreFault s h = absurd h
  ended_over SinkFault s h = absurd h
  ended_over Memory s h = absurd h

  pub course_ends_by : (turns : List (ℕ × ℕ)) (s : State) → SomeLives s → HasEnded (course_of limit turns s).answer → EndsBy limit s (threads_of limit turns s) (course_of limit turns s).answer
  course_ends_by turns s alive ended =
      let k = course-last turns s alive in
      record {
        s = k.mid;
        t = k.t;
        moment = record { done = k.done; turns' = k.turns'; state' = k.reached };
        answer' = k.answer';
        over = ap (λ answer. going_on answer (turn_of limit k.mid k.t).state) k.answer' ∙ ended_over (course_of limit turns s).answer (turn_of limit k.mid k.t).state ended;
      }
