use Rattle.std.proofs.Common.{ap, ◌∙◌}
use Rattle.run_model.specs.Courses.{followed}
use Rattle.run_model.specs.declared.thread.Turned.{Turned}
use Rattle.proc_run.proofs.RunParts.{goes_on, is_over}
use Rattle.run_model.specs.declared.thread.Turned.TheVariants.{Ended, Stopped}
use Rattle.proc_run.proofs.course.going_by.Goals as goal

pub returns-in-Next-clause-part : goal.returns-in-Next-clause-part
returns-in-Next-clause-part c = λ whole same others events out later old new is grew. goes_on whole same events out later (is ∙ ap (λ (a : Turned). followed a events same others) c.in-Next.is) grew

pub returns-in-Yield-clause-part : goal.returns-in-Yield-clause-part
returns-in-Yield-clause-part c = λ whole same others events out later old new is grew. goes_on whole others events out later (is ∙ ap (λ (a : Turned). followed a events same others) c.in-Yield.is) grew

pub returns-in-ThreadDone-clause-part : goal.returns-in-ThreadDone-clause-part
returns-in-ThreadDone-clause-part c = λ whole same others events out later old new is grew. goes_on whole others events out later (is ∙ ap (λ (a : Turned). followed a events same others) c.in-ThreadDone.is) grew

pub returns-in-Ended-clause-part : goal.returns-in-Ended-clause-part
returns-in-Ended-clause-part c = λ whole same others events out later old new is grew. is_over whole Ended events out later (is ∙ ap (λ (a : Turned). followed a events same others) c.in-Ended.is) grew

pub returns-in-Stopped-clause-part : goal.returns-in-Stopped-clause-part
returns-in-Stopped-clause-part c = λ whole same others events out later old new is grew. is_over whole (Stopped c.in-Stopped.stop) events out later (is ∙ ap (λ (a : Turned). followed a events same others) c.in-Stopped.is) grew
