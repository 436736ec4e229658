use Rattle.std.proofs.lemmas.Result.{err_from_is_err_and}
use Rattle.proc_run.proofs.TurnLines.{own_fail_after}
use Rattle.proc_run.proofs.process.Process.put_turn.Goals as goal

pub returns-in_err-put_report-clause-answer : goal.returns-in_err-put_report-clause-answer
returns-in_err-put_report-clause-answer g c =
    let failed = err_from_is_err_and c.from_residual-in_err-put_report.result c.from_residual-in_err-put_report.ensures.1 in
    rw (failed.1, failed.2)
    (own_fail_after c.args.self.now c.args.thread c.take.new.self c.report.new.self _ _ _ _ _ _ _ _ _ _ _ c.in_ok-report.ensures.rest c.in_ok-settled.ensures.taken c.as_slice.ensures
    c.in_ok-report.ensures.lines c.report.ensures.count c.put_report.ensures.count c.in_err-put_report.ensures.answer)
