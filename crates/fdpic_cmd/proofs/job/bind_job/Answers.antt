use Rattle.std.proofs.lemmas.Result.{err_from_is_err_and}
use Rattle.fdpic_cmd.proofs.JobFiles.{given_error}
use Rattle.fdpic_cmd.proofs.job.bind_job.Goals as goal

pub returns-in_err-program_slots-clause-answer : goal.returns-in_err-program_slots-clause-answer
returns-in_err-program_slots-clause-answer g c =
    let failed = err_from_is_err_and c.from_residual-in_err-program_slots.result c.from_residual-in_err-program_slots.ensures.1 in
    rw (failed.1, failed.2)
    (given_error c.args.name.now _ c.in_ok-job.job _ _ _ _ c.in_ok-job.ensures.count c.in_err-program_slots.ensures.count c.in_ok-job.ensures.answer
    (rw c.in_ok-job.ensures.files at c.in_err-program_slots.ensures.answer))
