-- Parts of a run, one after another.
use Rattle.std.proofs.Common.{◌≡◌, ℕ, suc, ◌+◌, ◌-◌, ◌<◌, ◌≤◌, true, false, List, [], ◌++◌, Option, Some, None, Result, Ok, Err, length, get_or, drop, refl, sym, ap, subst, ◌∙◌, arith, add-one, append-nil, append_assoc}
use Rattle.std.proofs.lemmas.Bool.{le-leb}
use Rattle.std.proofs.lemmas.List.{drop_all, drop_more}
use Rattle.fd_base.specs.declared.sink.SinkErr.{SinkErr}
use Rattle.fd_base.specs.declared.sink.SinkErr.TheVariants as sink
use Rattle.fd_base.specs.Faults.{Rose}
use Rattle.fd_base.specs.Grown.{Grew, GrewByPart}
use Rattle.fd_base.proofs.Changing.{rose_earlier}
use Rattle.fd_base.proofs.Growing.{grew_no_part, grew_nothing}
use Rattle.run_model.specs.declared.job.Turn.{Turn}
use Rattle.run_model.specs.declared.event.Event.{Event}
use Rattle.run_model.specs.declared.event.Stop.{Stop}
use Rattle.run_model.specs.declared.event.Stop.TheVariants.{Limit}
use Rattle.run_model.specs.declared.thread.Thread.{Thread}
use Rattle.run_model.specs.declared.thread.Turned.{Turned}
use Rattle.run_model.specs.declared.thread.Turned.TheVariants as turned
use Rattle.run_model.specs.Courses.{Course, after_turn, before, course_of, ends, followed, freely, turns_of, unscheduled}
use Rattle.run_model.specs.Report.{report_of}
use Rattle.run_model.specs.State.{State, lives, live_from, thread_at}
use Rattle.run_report.specs.parts.PieceByPiece.{Puts}
use Rattle.run_model.specs.Turns.{Taken, stopped, turn_of, turned_at}
use Rattle.proc_run.specs.declared.end.Going.{Going}
use Rattle.proc_run.specs.declared.end.Going.TheVariants.{Same, Others}
use Rattle.proc_run.specs.declared.end.RunEnd.{RunEnd}
use Rattle.proc_run.specs.declared.end.RunEnd.TheVariants.{Ended, Stopped, Refused, StoreFault, SinkFault, Memory}
use Rattle.proc_run.specs.RunParts.{DoesPart, EndsAs, IsLeft, after_step, schedule_of}
use Rattle.proc_run.specs.RunningProcess.{Running}
use Rattle.proc_run.specs.parts.QuietRuns.{IsChain}
use Rattle.proc_run.specs.parts.Turns.{IsTaken, taken_by, text_of, with_lines}
use Rattle.proc_run.proofs.LivePlaces.{one_lives}
use Rattle.fd_base.proofs.Options.{none_of}
use Rattle.proc_run.proofs.TurnEnds.{IsOwn, answers}
use Rattle.proc_run.proofs.TurnLines.{both, part_of_first, part_of_second}

-- ---- one part and then another

abbrev course_with : Turned → List Event → Course
course_with answer events = record { events = events; answer = answer }

before_both : (a b : List Event) (c : Course) → before (a ++ b) c ≡ before a (before b c)
before_both a b c = ap (course_with c.answer) (append_assoc a b c.events)

pub left_whole : (c : Course) (out : Option (List ℕ)) → IsLeft c c out out
left_whole c out = record { events = []; whole' = refl; grew = grew_nothing out out refl }

pub left_then : (a b c : Course) (out mid later : Option (List ℕ)) → IsLeft a b out mid → IsLeft b c mid later → IsLeft a c out later
left_then a b c out mid later h k = record {
  events = h.events ++ k.events;
  whole' = h.whole' ∙ ap (before h.events) k.whole' ∙ sym (before_both h.events k.events c);
  grew = both out mid later h.events k.events h.grew k.grew;
}

-- the events of the whole
events_are : (a b : Course) (out mid : Option (List ℕ)) (h : IsLeft a b out mid) → a.events ≡ h.events ++ b.events
events_are a b out mid h = ap (λ (c : Course). c.events) h.whole'

answer_is : (a b : Course) (out mid : Option (List ℕ)) → IsLeft a b out mid → a.answer ≡ b.answer
answer_is a b out mid h = ap (λ (c : Course). c.answer) h.whole'

all_grew : (a b : Course) (out mid later : Option (List ℕ)) → IsLeft a b out mid → Grew mid later (report_of b.events) → Grew out later (report_of a.events)
all_grew a b out mid later h k =
    subst (λ (es : List Event). Grew out later (report_of es)) (sym (events_are a b out mid h)) (both out mid later h.events b.events h.grew k)

part_grew : (a b : Course) (out mid later : Option (List ℕ)) → IsLeft a b out mid → GrewByPart mid later (report_of b.events) → GrewByPart out later (report_of a.events)
part_grew a b out mid later h k =
    subst (λ (es : List Event). GrewByPart out later (report_of es)) (sym (events_are a b out mid h)) (part_of_second out mid later h.events b.events h.grew k)

pub ends_then : (e : RunEnd) (a b : Course) (out mid later : Option (List ℕ)) (old between new : ℕ) → old ≤ between → between ≤ new
    → IsLeft a b out mid → EndsAs e b mid later between new → EndsAs e a out later old new
ends_then Ended a b out mid later old between new f g h k = (answer_is a b out mid h ∙ k.0, all_grew a b out mid later h k.1)
ends_then (Stopped why) a b out mid later old between new f g h k = (answer_is a b out mid h ∙ k.0, all_grew a b out mid later h k.1)
ends_then (Refused r) a b out mid later old between new f g h k = absurd k
ends_then StoreFault a b out mid later old between new f g h k = absurd k
ends_then SinkFault a b out mid later old between new f g h k = (rose_earlier old between new f g k.0, part_grew a b out mid later h k.1)
ends_then Memory a b out mid later old between new f g h k = part_grew a b out mid later h k

pub does_then : {X : Type 0} (r : Result X RunEnd) (a b : Course) (rest : X → Course) (out mid later : Option (List ℕ)) (old between new : ℕ) → old ≤ between → between ≤ new
    → IsLeft a b out mid → DoesPart b rest mid later between new r → DoesPart a rest out later old new r
does_then (Ok x) a b rest out mid later old between new f g h k = left_then a b (rest x) out mid later h k
does_then (Err e) a b rest out mid later old between new f g h k = ends_then e a b out mid later old between new f g h k

pub left_as : (a b c : Course) (out later : Option (List ℕ)) → b ≡ c → IsLeft a b out later → IsLeft a c out later
left_as a b c out later is h = subst (λ (x : Course). IsLeft a x out later) is h

-- ---- a turn

events_of_turn : (p : Running) (t : ℕ) (out later : Option (List ℕ)) → p.pending ≡ [] → Grew out later (text_of p t) → Grew out later (report_of (taken_by p t).events)
events_of_turn p t out later none h = subst (λ (es : List Event). Grew out later (report_of (es ++ (taken_by p t).events))) none h

begins_with : (answer : Turned) (es : List Event) (a b : Course) → (rest : List Event) × ((followed answer es a b).events ≡ es ++ rest)
begins_with turned.Next es a b = (a.events, refl)
begins_with turned.Yield es a b = (b.events, refl)
begins_with turned.ThreadDone es a b = (b.events, refl)
begins_with turned.Ended es a b = ([], sym (append-nil es))
begins_with (turned.Stopped why) es a b = ([], sym (append-nil es))
begins_with turned.StoreFault es a b = ([], sym (append-nil es))
begins_with turned.SinkFault es a b = ([], sym (append-nil es))
begins_with turned.Memory es a b = ([], sym (append-nil es))

module _ (p : Running) (t : ℕ) (new : Running) (same others : State → Course) (none : p.pending ≡ []) where
  abbrev whole : Course
  whole = after_turn (taken_by p t) same others

  follows : (answer : Turned) → answer ≡ (taken_by p t).answer → followed answer (taken_by p t).events (same (taken_by p t).state) (others (taken_by p t).state) ≡ whole
  follows answer is = ap (λ (a : Turned). followed a (taken_by p t).events (same (taken_by p t).state) (others (taken_by p t).state)) is

  pub goes_same : (out later : Option (List ℕ)) → IsTaken p t new turned.Next out later → IsLeft whole (same new.state) out later
  goes_same out later h = record {
    events = (taken_by p t).events;
    whole' = sym (follows turned.Next h.answer') ∙ ap (λ (q : Running). before (taken_by p t).events (same q.state)) (sym h.new');
    grew = events_of_turn p t out later none h.grew;
  }

  others_go : (answer : Turned) (out later : Option (List ℕ)) → before (taken_by p t).events (others (taken_by p t).state) ≡ whole → IsTaken p t new answer out later
      → IsLeft whole (others new.state) out later
  others_go answer out later is h = record {
    events = (taken_by p t).events;
    whole' = sym is ∙ ap (λ (q : Running). before (taken_by p t).events (others q.state)) (sym h.new');
    grew = events_of_turn p t out later none h.grew;
  }

  pub yields : (out later : Option (List ℕ)) → IsTaken p t new turned.Yield out later → IsLeft whole (others new.state) out later
  yields out later h = others_go turned.Yield out later (follows turned.Yield h.answer') h

  pub thread_ends : (out later : Option (List ℕ)) → IsTaken p t new turned.ThreadDone out later → IsLeft whole (others new.state) out later
  thread_ends out later h = others_go turned.ThreadDone out later (follows turned.ThreadDone h.answer') h

  ends_whole : (answer : Turned) (out later : Option (List ℕ)) → record { events = (taken_by p t).events; answer = answer } ≡ whole → IsTaken p t new answer out later
      → (whole.answer ≡ answer) × Grew out later (report_of whole.events)
  ends_whole answer out later is h = (
    sym (ap (λ (c : Course). c.answer) is),
    subst (λ (c : Course). Grew out later (report_of c.events)) is (events_of_turn p t out later none h.grew),
  )

  pub process_ends : (out later : Option (List ℕ)) (old after : ℕ) → IsTaken p t new turned.Ended out later → EndsAs Ended whole out later old after
  process_ends out later old after h = ends_whole turned.Ended out later (follows turned.Ended h.answer') h

  pub stops : (out later : Option (List ℕ)) (old after : ℕ) (why : Stop) → IsTaken p t new (turned.Stopped why) out later → EndsAs (Stopped why) whole out later old after
  stops out later old after why h = ends_whole (turned.Stopped why) out later (follows (turned.Stopped why) h.answer') h

  pub part_put : (out later : Option (List ℕ)) → GrewByPart out later (text_of p t) → GrewByPart out later (report_of whole.events)
  part_put out later h =
      let own : GrewByPart out later (report_of (taken_by p t).events) = subst (λ (es : List Event). GrewByPart out later (report_of (es ++ (taken_by p t).events))) none h in
      let more = begins_with (taken_by p t).answer (taken_by p t).events (same (taken_by p t).state) (others (taken_by p t).state) in
      subst (λ (es : List Event). GrewByPart out later (report_of es)) (sym more.1) (part_of_first out later (taken_by p t).events more.0 own)

  pub never : (out later : Option (List ℕ)) → lives p.state.threads t ≡ true → IsTaken p t new turned.StoreFault out later → ⊥
  never out later live h = subst IsOwn (sym h.answer') (answers p.limit p.state t live).own

-- ---- turns of a schedule

next_left : (left : ℕ) → 0 < left → left ≡ suc (left - 1)
next_left left lt = omega arith

-- a thread that doesn't live does nothing
pub dead_turn : (limit t : ℕ) (rest : State → Course) (left : ℕ) (s : State) → 0 < left → lives s.threads t ≡ false → turns_of limit t rest left s ≡ rest s
unfolding turn_of
dead_turn limit t rest left s lt dead =
    let none : thread_at s.threads t ≡ None = none_of (thread_at s.threads t) dead in
    ap (λ (n : ℕ). turns_of limit t rest n s) (next_left left lt)
    ∙ ap (λ (o : Option Thread). after_turn (turned_at limit s t o) (turns_of limit t rest (left - 1)) rest) none

pub no_turn : (limit t : ℕ) (rest : State → Course) (left : ℕ) (s : State) → left ≤ 0 → turns_of limit t rest left s ≡ rest s
no_turn limit t rest left s le = let none : left ≡ 0 = omega arith in rw none refl

-- some steps of a turn
pub turn_part : (lim own t left later : ℕ) (rest : State → Course) (whole : Course) (s new : State) (out mid last : Option (List ℕ)) (old between after : ℕ) (r : Result Going RunEnd)
    → own ≡ lim → old ≤ between → between ≤ after → IsLeft whole (turns_of lim t rest left s) out mid
    → ((same others : ℕ → State → Course) → IsChain own t same others → DoesPart (same left s) (after_step (same later new) (others later new)) mid last between after r)
    → DoesPart whole (after_step (turns_of lim t rest later new) (rest new)) out last old after r
turn_part lim own t left later rest whole s new out mid last old between after r is f g h does =
    let chain : IsChain own t (turns_of lim t rest) (λ n. rest) = subst (λ (l : ℕ). IsChain l t (turns_of lim t rest) (λ n. rest)) (sym is) (λ n x. refl) in
    does_then r whole (turns_of lim t rest left s) (after_step (turns_of lim t rest later new) (rest new)) out mid last old between after f g h
    (does (turns_of lim t rest) (λ n. rest) chain)

-- the next turn of a schedule
next_turn : (limit : ℕ) (turns : List Turn) (i : ℕ) (d : Turn) (s : State) → i < length turns
    → course_of limit (schedule_of (drop i turns)) s
    ≡ turns_of limit (get_or turns i d).thread (course_of limit (schedule_of (drop (i + 1) turns))) (get_or turns i d).count s
next_turn limit turns i d s lt = ap (λ (ts : List Turn). course_of limit (schedule_of ts) s) (drop_more turns i d lt)

pub schedule_part : (lim own : ℕ) (turns : List Turn) (i : ℕ) (d : Turn) (whole : Course) (s later : State) (out mid last : Option (List ℕ)) (old between new : ℕ) (r : Result (Unit {0}) RunEnd)
    → i < length turns → own ≡ lim → old ≤ between → between ≤ new → IsLeft whole (course_of lim (schedule_of (drop i turns)) s) out mid
    → ((rest : State → Course) → DoesPart (turns_of own (get_or turns i d).thread rest (get_or turns i d).count s) (λ _. rest later) mid last between new r)
    → DoesPart whole (λ _. course_of lim (schedule_of (drop (i + 1) turns)) later) out last old new r
schedule_part lim own turns i d whole s later out mid last old between new r lt is f g h does =
    let turn = get_or turns i d in
    let rest = course_of lim (schedule_of (drop (i + 1) turns)) in
    let P : ℕ → Type 0 = λ l. DoesPart (turns_of l turn.thread rest turn.count s) (λ _. rest later) mid last between new r in
    does_then r whole (turns_of lim turn.thread rest turn.count s) (λ _. rest later) out mid last old between new f g
    (left_as whole (course_of lim (schedule_of (drop i turns)) s) (turns_of lim turn.thread rest turn.count s) out mid (next_turn lim turns i d s lt) h)
    (subst P is (does rest))

pub schedule_over : (lim : ℕ) (turns : List Turn) (i : ℕ) (whole : Course) (s : State) (out mid : Option (List ℕ)) → length turns ≤ i
    → IsLeft whole (course_of lim (schedule_of (drop i turns)) s) out mid → IsLeft whole (unscheduled lim s) out mid
schedule_over lim turns i whole s out mid le h =
    left_as whole (course_of lim (schedule_of (drop i turns)) s) (unscheduled lim s) out mid
    (ap (λ (ts : List Turn). course_of lim (schedule_of ts) s) (drop_all i turns le)) h

-- ---- turns that no schedule names

stopped_at : (limit : ℕ) (s : State) (t : ℕ) → lives s.threads t ≡ true → limit ≤ s.steps → turn_of limit s t ≡ stopped s t Limit
unfolding turn_of
stopped_at limit s t live le =
    let one = one_lives (thread_at s.threads t) live in
    ap (turned_at limit s t) one.1 ∙ rw (le-leb limit s.steps le) refl

-- at the limit the course ends
pub at_limit : (e : RunEnd) (limit : ℕ) (s : State) (t : ℕ) (out later : Option (List ℕ)) (old new : ℕ) → lives s.threads t ≡ true → limit ≤ s.steps
    → ((same others : State → Course) → EndsAs e (after_turn (turn_of limit s t) same others) out later old new)
    → EndsAs e (ends (turn_of limit s t).events (turn_of limit s t).answer) out later old new
at_limit e limit s t out later old new live le does =
    let none : State → Course = λ s. ends [] turned.Ended in
    let P : Taken → Type 0 = λ x. after_turn x none none ≡ ends x.events x.answer in
    subst (λ (c : Course). EndsAs e c out later old new) (subst P (sym (stopped_at limit s t live le)) refl) (does none none)

abbrev freely_same : ℕ → ℕ → ℕ → State → Course
freely_same limit t n s = freely limit n (Some t) s

abbrev freely_others : ℕ → ℕ → ℕ → State → Course
freely_others limit t n s = freely limit n (live_from s.threads (suc t)) s

abbrev DoesChain : ℕ → ℕ → ℕ → State → ℕ → State → Option (List ℕ) → Option (List ℕ) → ℕ → ℕ → Result Going RunEnd → Type 0
DoesChain limit t left s later new out mid old after r =
    (same others : ℕ → State → Course) → IsChain limit t same others → DoesPart (same left s) (after_step (same later new) (others later new)) out mid old after r

freely_does : (limit t left later : ℕ) (s new : State) (out mid : Option (List ℕ)) (old after : ℕ) (r : Result Going RunEnd) → DoesChain limit t left s later new out mid old after r
    → DoesPart (freely limit left (Some t) s) (after_step (freely_same limit t later new) (freely_others limit t later new)) out mid old after r
freely_does limit t left later s new out mid old after r does = does (freely_same limit t) (freely_others limit t) (λ n x. refl)

-- the same thread goes on
pub same_goes : (limit t left later : ℕ) (s new : State) (out mid : Option (List ℕ)) (old after : ℕ) (r : Result Going RunEnd) → r ≡ Ok Same → DoesChain limit t left s later new out mid old after r
    → IsLeft (freely limit left (Some t) s) (freely limit later (Some t) new) out mid
same_goes limit t left later s new out mid old after r is does =
    subst (DoesPart (freely limit left (Some t) s) (after_step (freely_same limit t later new) (freely_others limit t later new)) out mid old after) is
    (freely_does limit t left later s new out mid old after r does)

found_goes : (limit t left later : ℕ) (s new : State) (out mid : Option (List ℕ)) (old after : ℕ) (r : Result Going RunEnd) (found : Option ℕ)
    → r ≡ Ok Others → found ≡ live_from new.threads (t + 1) → DoesChain limit t left s later new out mid old after r
    → IsLeft (freely limit left (Some t) s) (freely limit later found new) out mid
found_goes limit t left later s new out mid old after r found is from does =
    let one : live_from new.threads (suc t) ≡ found = ap (live_from new.threads) (sym (add-one t)) ∙ sym from in
    left_as (freely limit left (Some t) s) (freely_others limit t later new) (freely limit later found new) out mid (ap (λ (o : Option ℕ). freely limit later o new) one)
    (subst (DoesPart (freely limit left (Some t) s) (after_step (freely_same limit t later new) (freely_others limit t later new)) out mid old after) is
    (freely_does limit t left later s new out mid old after r does))

-- the next thread goes on
pub next_goes : (limit t left later next : ℕ) (s new : State) (out mid : Option (List ℕ)) (old after : ℕ) (r : Result Going RunEnd) (found : Option ℕ)
    → r ≡ Ok Others → found ≡ live_from new.threads (t + 1) → found ≡ Some next → DoesChain limit t left s later new out mid old after r
    → IsLeft (freely limit left (Some t) s) (freely limit later (Some next) new) out mid
next_goes limit t left later next s new out mid old after r found is from some does =
    left_as (freely limit left (Some t) s) (freely limit later found new) (freely limit later (Some next) new) out mid (ap (λ (o : Option ℕ). freely limit later o new) some)
    (found_goes limit t left later s new out mid old after r found is from does)

-- the run is over
pub run_over : (e : RunEnd) (limit t left later : ℕ) (s new : State) (out mid : Option (List ℕ)) (old after : ℕ) (r : Result Going RunEnd) → r ≡ Err e → DoesChain limit t left s later new out mid old after r
    → EndsAs e (freely limit left (Some t) s) out mid old after
run_over e limit t left later s new out mid old after r is does =
    subst (DoesPart (freely limit left (Some t) s) (after_step (freely_same limit t later new) (freely_others limit t later new)) out mid old after) is
    (freely_does limit t left later s new out mid old after r does)

-- nobody lives
nobody : (whole : Course) (out later : Option (List ℕ)) (old new : ℕ) → IsLeft whole (ends [] turned.Ended) out later → EndsAs Ended whole out later old new
nobody whole out later old new h =
    (answer_is whole (ends [] turned.Ended) out later h, all_grew whole (ends [] turned.Ended) out later later h (grew_nothing later later refl))

pub none_goes : (limit t left later : ℕ) (s new : State) (out mid : Option (List ℕ)) (old after : ℕ) (r : Result Going RunEnd) (found : Option ℕ)
    → r ≡ Ok Others → found ≡ live_from new.threads (t + 1) → found ≡ None → DoesChain limit t left s later new out mid old after r
    → EndsAs Ended (freely limit left (Some t) s) out mid old after
none_goes limit t left later s new out mid old after r found is from none does =
    nobody (freely limit left (Some t) s) out mid old after
    (left_as (freely limit left (Some t) s) (freely limit later found new) (ends [] turned.Ended) out mid (ap (λ (o : Option ℕ). freely limit later o new) none)
    (found_goes limit t left later s new out mid old after r found is from does))

-- some steps of many
pub freely_part : (lim own left later t : ℕ) (whole : Course) (s new : State) (out mid last : Option (List ℕ)) (old between after : ℕ) (r : Result ℕ RunEnd)
    → own ≡ lim → old ≤ between → between ≤ after → IsLeft whole (freely lim left (Some t) s) out mid
    → DoesPart (freely own left (Some t) s) (λ next. freely own later (Some next) new) mid last between after r
    → DoesPart whole (λ next. freely lim later (Some next) new) out last old after r
freely_part lim own left later t whole s new out mid last old between after r is f g h does =
    let P : ℕ → Type 0 = λ l. DoesPart (freely l left (Some t) s) (λ next. freely l later (Some next) new) mid last between after r in
    does_then r whole (freely lim left (Some t) s) (λ next. freely lim later (Some next) new) out mid last old between after f g h (subst P is does)

-- the last one
pub freely_over : (e : RunEnd) (lim own left t : ℕ) (whole : Course) (s : State) (out mid last : Option (List ℕ)) (old between new : ℕ)
    → left ≤ 0 → own ≡ lim → old ≤ between → between ≤ new → IsLeft whole (freely lim left (Some t) s) out mid
    → EndsAs e (freely own 0 (Some t) s) mid last between new → EndsAs e whole out last old new
freely_over e lim own left t whole s out mid last old between new le is f g h does =
    let none : left ≡ 0 = omega arith in
    let P : ℕ → Type 0 = λ l. EndsAs e (freely l 0 (Some t) s) mid last between new in
    ends_then e whole (freely lim 0 (Some t) s) out mid last old between new f g
    (left_as whole (freely lim left (Some t) s) (freely lim 0 (Some t) s) out mid (ap (λ (m : ℕ). freely lim m (Some t) s) none) h)
    (subst P is does)

-- ---- by the answer of a turn

abbrev Follows : Turned → List Event → Course → Course → Course → Type 0
Follows answer events same others whole = whole ≡ followed answer events same others

pub goes_on : (whole rest : Course) (events : List Event) (out later : Option (List ℕ)) → whole ≡ before events rest → Grew out later (report_of events) → IsLeft whole rest out later
goes_on c rest events out later is grew = record { events = events; whole' = is; grew = grew }

pub is_over : (whole : Course) (answer : Turned) (events : List Event) (out later : Option (List ℕ)) → whole ≡ ends events answer → Grew out later (report_of events)
    → (whole.answer ≡ answer) × Grew out later (report_of whole.events)
is_over c answer events out later is grew = (
  ap (λ (x : Course). x.answer) is,
  subst (λ (x : Course). Grew out later (report_of x.events)) (sym is) grew,
)

pub part_told : (answer : Turned) (events : List Event) (whole a b : Course) (out later : Option (List ℕ)) → whole ≡ followed answer events a b → GrewByPart out later (report_of events)
    → GrewByPart out later (report_of whole.events)
part_told answer events c a b out later is h =
    let more = begins_with answer events a b in
    subst (λ (es : List Event). GrewByPart out later (report_of es)) (sym (ap (λ (x : Course). x.events) is ∙ more.1)) (part_of_first out later events more.0 h)

pub puts_failed : (out later : Option (List ℕ)) (text : List ℕ) (old new : ℕ) (e : SinkErr) → e ≡ sink.Failed → Puts out later text old new (Err e) → Rose old new × GrewByPart out later text
puts_failed out later text old new e is h = subst (λ (x : SinkErr). Puts out later text old new (Err x)) is h

pub puts_memory : (out later : Option (List ℕ)) (text : List ℕ) (old new : ℕ) (e : SinkErr) → e ≡ sink.Memory → Puts out later text old new (Err e) → GrewByPart out later text
puts_memory out later text old new e is h = subst (λ (x : SinkErr). Puts out later text old new (Err x)) is h

-- memory is wanted before any line is put
pub nothing_put : (whole : Course) (out : Option (List ℕ)) → GrewByPart out out (report_of whole.events)
nothing_put whole out = grew_no_part out out (report_of whole.events) refl

-- ---- what follows the schedule

pub unscheduled_from : (e : RunEnd) (lim t : ℕ) (s : State) (out last : Option (List ℕ)) (old new : ℕ) (found : Option ℕ) → found ≡ live_from s.threads 0 → found ≡ Some t
    → EndsAs e (freely lim lim (Some t) s) out last old new → EndsAs e (unscheduled lim s) out last old new
unscheduled_from e lim t s out last old new found from some h =
    subst (λ (o : Option ℕ). EndsAs e (freely lim lim o s) out last old new) (sym some ∙ from) h

pub unscheduled_none : (lim : ℕ) (s : State) (out : Option (List ℕ)) (old : ℕ) (found : Option ℕ) → found ≡ live_from s.threads 0 → found ≡ None
    → EndsAs Ended (unscheduled lim s) out out old old
unscheduled_none lim s out old found from none =
    subst (λ (o : Option ℕ). EndsAs Ended (freely lim lim o s) out out old old) (sym none ∙ from) (refl, grew_nothing out out refl)

pub course_over : (e : RunEnd) (lim own : ℕ) (whole : Course) (s : State) (out mid last : Option (List ℕ)) (old between new : ℕ) → own ≡ lim → old ≤ between → between ≤ new
    → IsLeft whole (unscheduled lim s) out mid → EndsAs e (unscheduled own s) mid last between new → EndsAs e whole out last old new
course_over e lim own whole s out mid last old between new is f g h does =
    ends_then e whole (unscheduled lim s) out mid last old between new f g h (subst (λ (l : ℕ). EndsAs e (unscheduled l s) mid last between new) is does)

-- ---- with the events before the first step

after_pending : (e : RunEnd) (events : List Event) (c : Course) (out mid last : Option (List ℕ)) (old between new : ℕ) → old ≤ between → between ≤ new
    → Grew out mid (report_of events) → EndsAs e c mid last between new → EndsAs e (before events c) out last old new
after_pending e events c out mid last old between new f g grew does =
    ends_then e (before events c) c out mid last old between new f g (record { events = events; whole' = refl; grew = grew }) does

pub after_report : (e : RunEnd) (turns : List Turn) (p later : Running) (out mid last : Option (List ℕ)) (old between new : ℕ) → later ≡ with_lines p p.state → old ≤ between → between ≤ new
    → Grew out mid (report_of p.pending) → EndsAs e (course_of later.limit (schedule_of turns) later.state) mid last between new
    → EndsAs e (before p.pending (course_of p.limit (schedule_of turns) p.state)) out last old new
after_report e turns p later out mid last old between new is f g grew does =
    let P : Running → Type 0 = λ q. EndsAs e (course_of q.limit (schedule_of turns) q.state) mid last between new in
    after_pending e p.pending (course_of p.limit (schedule_of turns) p.state) out mid last old between new f g grew (subst P is does)

-- ---- by an answer that is known

pub part_done : {X : Type 0} (r : Result X RunEnd) (x : X) (whole : Course) (rest : X → Course) (out later : Option (List ℕ)) (old new : ℕ) → r ≡ Ok x
    → DoesPart whole rest out later old new r → IsLeft whole (rest x) out later
part_done {X} r x whole rest out later old new is h = subst (λ (q : Result X RunEnd). DoesPart whole rest out later old new q) is h

pub part_ends : {X : Type 0} (r : Result X RunEnd) (e : RunEnd) (whole : Course) (rest : X → Course) (out later : Option (List ℕ)) (old new : ℕ) → r ≡ Err e
    → DoesPart whole rest out later old new r → EndsAs e whole out later old new
part_ends {X} r e whole rest out later old new is h = subst (λ (q : Result X RunEnd). DoesPart whole rest out later old new q) is h
