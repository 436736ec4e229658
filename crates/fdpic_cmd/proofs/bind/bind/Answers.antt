use Rattle.fdpic_cmd.specs.Bind.{refusal_of}
use Rattle.fdpic_cmd.proofs.SlotListings.{given_failure}
use Rattle.fdpic_cmd.proofs.bind.bind.Goals as goal

pub returns-clause-answer : goal.returns-clause-answer
returns-clause-answer g c =
    given_failure _ c.in_ok-plan.plan _ c.args.file.now (refusal_of c.args.file.now) _ _ c.in-Err.e c.failure_of.result
    c.in_ok-plan.ensures.plan c.failure_of.ensures c.in-Err.ensures.answer
