use Rattle.std.proofs.Common.{◌≤◌, take}
use Rattle.fd_base.specs.Grown.{Grew}
use Rattle.run_model.specs.Report.{report_of}
use Rattle.run_report.proofs.output.put_report.Given as goal

-- the lines so far are put
abbrev pub invariant-loop-event : goal.invariant-loop-event
invariant-loop-event g l = record {
  count : g.O.Sink.faults l.fn.out ≤ g.O.Sink.faults l.out;
  grew : Grew (g.O.Sink.bytes l.fn.out) (g.O.Sink.bytes l.out) (report_of (take l.event-index l.events));
}
