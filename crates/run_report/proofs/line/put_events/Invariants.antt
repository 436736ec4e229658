use Rattle.std.proofs.Common.{◌≡◌, ◌++◌, drop}
use Rattle.run_model.specs.Report.{report_of}
use Rattle.run_report.proofs.line.put_events.Given as goal

abbrev pub invariant-loop-event : goal.invariant-loop-event
invariant-loop-event l = l.out ++ report_of (drop l.event-index l.events) ≡ l.fn.out ++ report_of l.events
