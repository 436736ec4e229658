-- Lines that are put one after another.
use Rattle.std.proofs.Common.{◌≡◌, ℕ, ◌+◌, ◌<◌, ◌≤◌, List, ◌∷◌, ◌++◌, Option, Err, length, get_or, take, drop, ap, sym, subst, ◌∙◌}
use Rattle.std.proofs.lemmas.Grind.{flat_map-append}
use Rattle.std.proofs.lemmas.List.{drop_more, take-append-drop}
use Rattle.fd_base.specs.declared.sink.SinkErr.{SinkErr}
use Rattle.fd_base.specs.declared.sink.SinkErr.TheVariants.{Failed, Memory}
use Rattle.fd_base.specs.Grown.{Grew, GrewByPart}
use Rattle.fd_base.proofs.Changing.{rose_earlier}
use Rattle.fd_base.proofs.Growing.{grew_more_part, grew_no_part}
use Rattle.run_model.specs.declared.event.Event.{Event}
use Rattle.run_model.specs.Report.{line_of, report_of}
use Rattle.run_report.specs.parts.PieceByPiece.{Puts}

pub part_by_nothing : (old new : Option (List ℕ)) (text : List ℕ) → new ≡ old → GrewByPart old new text
part_by_nothing old new text e = grew_no_part old new text e

whole : (events : List Event) (i : ℕ) (e : Event) → i < length events → e ≡ get_or events i e
    → report_of (take i events) ++ (line_of e ++ report_of (drop (i + 1) events)) ≡ report_of events
whole events i e l at =
    let rest : drop i events ≡ e ∷ drop (i + 1) events = drop_more events i e l ∙ ap (λ x. x ∷ drop (i + 1) events) (sym at) in
    sym (flat_map-append line_of (take i events) (e ∷ drop (i + 1) events)) ∙ ap (λ (es : List Event). report_of (take i events ++ es)) (sym rest) ∙ ap report_of (take-append-drop i events)

-- a line of several was put in part
part_of_all : (events : List Event) (i : ℕ) (e : Event) (old mid new : Option (List ℕ)) → i < length events → e ≡ get_or events i e
    → Grew old mid (report_of (take i events)) → GrewByPart mid new (line_of e) → GrewByPart old new (report_of events)
part_of_all events i e old mid new l at before part =
    subst (GrewByPart old new) (whole events i e l at) (grew_more_part old mid new (report_of (take i events)) (line_of e) (report_of (drop (i + 1) events)) before part)

pub puts_more : (events : List Event) (i : ℕ) (e : Event) (old mid new : Option (List ℕ)) (first faults later : ℕ) (failure : SinkErr) → i < length events → e ≡ get_or events i e
    → Grew old mid (report_of (take i events)) → first ≤ faults → faults ≤ later
    → Puts mid new (line_of e) faults later (Err failure) → Puts old new (report_of events) first later (Err failure)
puts_more events i e old mid new first faults later Failed l at before f g h = (rose_earlier first faults later f g h.0, part_of_all events i e old mid new l at before h.1)
puts_more events i e old mid new first faults later Memory l at before f g h = part_of_all events i e old mid new l at before h
