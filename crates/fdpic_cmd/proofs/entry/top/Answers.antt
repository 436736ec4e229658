use Rattle.fdpic_cmd.specs.Forms.{command_of}
use Rattle.fdpic_cmd.proofs.ClaimParts.{answered, still_unchanged}
use Rattle.fdpic_cmd.proofs.Claims as claims
use Rattle.fdpic_cmd.proofs.JournalCalls as journal
use Rattle.fdpic_cmd.proofs.entry.top.Goals as goal

pub returns-clause-words : goal.returns-clause-words
returns-clause-words g c =
    claims.words (command_of c.args.words.now) _ _ c.report.result
    (answered (command_of c.args.words.now) _ _ c.answer-status.result c.report.result c.answer-status.ensures.answer c.report.ensures.status)

pub returns-clause-no_form : goal.returns-clause-no_form
returns-clause-no_form g c =
    claims.no_form (command_of c.args.words.now) _ _ c.report.result
    (answered (command_of c.args.words.now) _ _ c.answer-status.result c.report.result c.answer-status.ensures.answer c.report.ensures.status)

pub returns-clause-store_fault : goal.returns-clause-store_fault
returns-clause-store_fault g c =
    claims.store_fault (command_of c.args.words.now) _ _ c.report.result
    (answered (command_of c.args.words.now) _ _ c.answer-status.result c.report.result c.answer-status.ensures.answer c.report.ensures.status)

pub returns-clause-sink_fault : goal.returns-clause-sink_fault
returns-clause-sink_fault g c =
    claims.sink_fault (command_of c.args.words.now) _ _ c.report.result
    (answered (command_of c.args.words.now) _ _ c.answer-status.result c.report.result c.answer-status.ensures.answer c.report.ensures.status)

pub returns-clause-refused : goal.returns-clause-refused
returns-clause-refused g c =
    claims.refused (command_of c.args.words.now) _ _ c.report.result
    (answered (command_of c.args.words.now) _ _ c.answer-status.result c.report.result c.answer-status.ensures.answer c.report.ensures.status)

pub returns-clause-refused_keeps : goal.returns-clause-refused_keeps
returns-clause-refused_keeps g c =
    claims.refused_keeps (command_of c.args.words.now) _ _ c.report.result
    (answered (command_of c.args.words.now) _ _ c.answer-status.result c.report.result c.answer-status.ensures.answer c.report.ensures.status)

pub returns-clause-unchanged : goal.returns-clause-unchanged
returns-clause-unchanged g c =
    still_unchanged c.answer-status.result c.report.result _ _ _ _ c.answer-status.ensures.unchanged c.report.ensures.done

pub returns-clause-exact : goal.returns-clause-exact
returns-clause-exact g c =
    claims.exact (command_of c.args.words.now) _ _ c.report.result
    (answered (command_of c.args.words.now) _ _ c.answer-status.result c.report.result c.answer-status.ensures.answer c.report.ensures.status)

pub returns-clause-came : goal.returns-clause-came
returns-clause-came g c =
    claims.came (command_of c.args.words.now) _ _ c.report.result
    (answered (command_of c.args.words.now) _ _ c.answer-status.result c.report.result c.answer-status.ensures.answer c.report.ensures.status)

pub returns-clause-calls : goal.returns-clause-calls
returns-clause-calls g c =
    journal.calls (command_of c.args.words.now) _ _ c.report.result
    (answered (command_of c.args.words.now) _ _ c.answer-status.result c.report.result c.answer-status.ensures.answer c.report.ensures.status)

pub returns-clause-part : goal.returns-clause-part
returns-clause-part g c =
    claims.part (command_of c.args.words.now) _ _ c.report.result
    (answered (command_of c.args.words.now) _ _ c.answer-status.result c.report.result c.answer-status.ensures.answer c.report.ensures.status)

pub returns-clause-silent : goal.returns-clause-silent
returns-clause-silent g c =
    claims.silent (command_of c.args.words.now) _ _ c.report.result
    (answered (command_of c.args.words.now) _ _ c.answer-status.result c.report.result c.answer-status.ensures.answer c.report.ensures.status)

pub returns-clause-complete : goal.returns-clause-complete
returns-clause-complete g c =
    claims.complete (command_of c.args.words.now) _ _ c.report.result
    (answered (command_of c.args.words.now) _ _ c.answer-status.result c.report.result c.answer-status.ensures.answer c.report.ensures.status)
