-- The lines of a turn, behind those of the events that had none.
use Rattle.std.proofs.Common.{◌≡◌, ℕ, ◌≤◌, List, [], ◌++◌, Option, Err, sym, ap, subst, ◌∙◌, append-nil, append_assoc}
use Rattle.std.proofs.lemmas.Grind.{flat_map-append}
use Rattle.fd_base.specs.declared.sink.SinkErr.{SinkErr}
use Rattle.fd_base.specs.declared.sink.SinkErr.TheVariants.{Failed, Memory}
use Rattle.fd_base.specs.Grown.{Grew, GrewByPart}
use Rattle.fd_base.proofs.Changing.{rose_earlier}
use Rattle.fd_base.proofs.Growing.{grew_more, grew_more_part, grew_whole}
use Rattle.run_model.specs.declared.event.Event.{Event}
use Rattle.run_model.specs.declared.thread.Turned.{Turned}
use Rattle.run_model.specs.Report.{line_of, report_of}
use Rattle.run_model.specs.State.{State}
use Rattle.run_model.specs.Turns.{Taken}
use Rattle.run_report.specs.parts.PieceByPiece.{Puts}
use Rattle.proc_run.specs.RunningProcess.{Running}
use Rattle.proc_run.specs.parts.Turns.{IsTaken, PutsTurn, taken_by, text_of, with_lines}

pub lines_of_both : (a b : List Event) → report_of (a ++ b) ≡ report_of a ++ report_of b
lines_of_both a b = flat_map-append line_of a b

-- a part of the first is a part of both
pub part_of_first : (out later : Option (List ℕ)) (a b : List Event) → GrewByPart out later (report_of a) → GrewByPart out later (report_of (a ++ b))
part_of_first out later a b h = record {
  part = h.part;
  rest = h.rest ++ report_of b;
  prefix = lines_of_both a b ∙ ap (λ x. x ++ report_of b) h.prefix ∙ append_assoc h.part h.rest (report_of b);
  grew = h.grew;
}

-- the first, and a part of the second
pub part_of_second : (out mid later : Option (List ℕ)) (a b : List Event) → Grew out mid (report_of a) → GrewByPart mid later (report_of b)
    → GrewByPart out later (report_of (a ++ b))
part_of_second out mid later a b e f =
    let whole : report_of a ++ (report_of b ++ []) ≡ report_of (a ++ b) = ap (λ x. report_of a ++ x) (append-nil (report_of b)) ∙ sym (lines_of_both a b) in
    subst (GrewByPart out later) whole (grew_more_part out mid later (report_of a) (report_of b) [] e f)

pub both : (out mid later : Option (List ℕ)) (a b : List Event) → Grew out mid (report_of a) → Grew mid later (report_of b) → Grew out later (report_of (a ++ b))
both out mid later a b e f = subst (Grew out later) (sym (lines_of_both a b)) (grew_more out mid later (report_of a) (report_of b) e f)

module _ (p : Running) (t : ℕ) (new : Running) where
  -- the lines that were to come first fail
  pub first_fails : (out later : Option (List ℕ)) (before after : ℕ) (e : SinkErr) → Puts out later (report_of p.pending) before after (Err e)
      → PutsTurn p t new out later before after (Err e)
  first_fails out later before after Failed h = (h.0, part_of_first out later p.pending (taken_by p t).events h.1)
  first_fails out later before after Memory h = part_of_first out later p.pending (taken_by p t).events h

  -- memory is wanted for the turn
  pub turn_fails : (out later : Option (List ℕ)) (before after : ℕ) → Grew out later (report_of p.pending) → PutsTurn p t new out later before after (Err Memory)
  turn_fails out later before after h = part_of_first out later p.pending (taken_by p t).events (grew_whole out later (report_of p.pending) h)

  own_part : (out mid later : Option (List ℕ)) (answer : Turned) (s : State) (events : List Event) → taken_by p t ≡ record { answer = answer; state = s; events = events }
      → Grew out mid (report_of p.pending) → GrewByPart mid later (report_of events) → GrewByPart out later (text_of p t)
  own_part out mid later answer s events is e f =
      part_of_second out mid later p.pending (taken_by p t).events e
      (subst (λ (x : Taken). GrewByPart mid later (report_of x.events)) (sym is) f)

  -- the lines of the turn fail
  pub own_fail : (out mid later : Option (List ℕ)) (before between after : ℕ) (answer : Turned) (s : State) (events : List Event) (e : SinkErr)
      → taken_by p t ≡ record { answer = answer; state = s; events = events } → Grew out mid (report_of p.pending) → before ≤ between → between ≤ after
      → Puts mid later (report_of events) between after (Err e) → PutsTurn p t new out later before after (Err e)
  own_fail out mid later before between after answer s events Failed is grew f g h = (rose_earlier before between after f g h.0, own_part out mid later answer s events is grew h.1)
  own_fail out mid later before between after answer s events Memory is grew f g h = own_part out mid later answer s events is grew h

  -- all lines are put
  pub all_put : (out mid later : Option (List ℕ)) (answer : Turned) (events : List Event)
      → taken_by p t ≡ record { answer = answer; state = new.state; events = events } → new ≡ with_lines p new.state
      → Grew out mid (report_of p.pending) → Grew mid later (report_of events) → IsTaken p t new answer out later
  all_put out mid later answer events is rest e f = record {
    answer' = sym (ap (λ (x : Taken). x.answer) is);
    new' = rest ∙ ap (λ (x : Taken). with_lines p x.state) (sym is);
    grew = both out mid later p.pending (taken_by p t).events e (subst (λ (x : Taken). Grew mid later (report_of x.events)) (sym is) f);
  }

  -- after the lines that were to come first, a turn is that of the process as it was
  turn_after : (mid : Running) (x : Taken) → mid ≡ with_lines p p.state → taken_by mid t ≡ x → taken_by p t ≡ x
  turn_after mid x is h = ap (λ (q : Running). taken_by q t) (sym is) ∙ h

  pub own_fail_after : (mid_p : Running) (out mid later : Option (List ℕ)) (before between after : ℕ) (answer : Turned) (s : State) (events lines : List Event) (e : SinkErr)
      → mid_p ≡ with_lines p p.state → taken_by mid_p t ≡ record { answer = answer; state = s; events = events } → lines ≡ events
      → Grew out mid (report_of p.pending) → before ≤ between → between ≤ after
      → Puts mid later (report_of lines) between after (Err e) → PutsTurn p t new out later before after (Err e)
  own_fail_after mid_p out mid later before between after answer s events lines e is taken same grew f g h =
      own_fail out mid later before between after answer s events e (turn_after mid_p _ is taken) grew f g
      (subst (λ (es : List Event). Puts mid later (report_of es) between after (Err e)) same h)
