use Rattle.std.proofs.lemmas.Result.{err_from_is_err_and}
use Rattle.run_report.proofs.ReportLines.{puts_more}
use Rattle.run_report.proofs.output.put_report.Goals as goal

pub returns-in_err-put_line-clause-answer : goal.returns-in_err-put_line-clause-answer
returns-in_err-put_line-clause-answer g c =
    let p = err_from_is_err_and c.from_residual.result c.from_residual.ensures.1 in
    rw (p.1, p.2)
    (puts_more c.args.events.now c.loop-event.event-index c.event-item.result _ _ _ _ _ _ c.in_err-put_line.field-0.0 c.loop-event-test.true c.event-item.is
    c.loop-event.invariant.grew c.loop-event.invariant.count c.put_line.ensures.count c.in_err-put_line.ensures.answer)
