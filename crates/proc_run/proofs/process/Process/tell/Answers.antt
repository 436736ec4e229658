use Rattle.run_model.specs.Report.{report_of}
use Rattle.proc_run.proofs.RunParts.{part_told, puts_failed, puts_memory}
use Rattle.proc_run.proofs.process.Process.tell.Goals as goal

pub returns-in-Ok-clause-part : goal.returns-in-Ok-clause-part
returns-in-Ok-clause-part g c = λ whole same others is. c.going_by.ensures.part whole same others c.args.self.now.pending _ _ _ _ is c.in-Ok.ensures.lines

pub returns-in-Err-Failed-clause-part : goal.returns-in-Err-Failed-clause-part
returns-in-Err-Failed-clause-part g c = λ whole same others is.
    let put = puts_failed (g.O.Sink.bytes c.args.out.now) (g.O.Sink.bytes c.report.new.out) (report_of c.args.self.now.pending) (g.O.Sink.faults c.args.out.now) (g.O.Sink.faults c.report.new.out) c.in-Err-Failed.field-0 c.in-Err-Failed.field-0-is c.in-Err-Failed.ensures.lines in
    (put.0, part_told c.args.answer c.args.self.now.pending whole same others _ _ is put.1)

pub returns-in-Err-Memory-clause-part : goal.returns-in-Err-Memory-clause-part
returns-in-Err-Memory-clause-part g c = λ whole same others is.
    part_told c.args.answer c.args.self.now.pending whole same others _ _ is
    (puts_memory (g.O.Sink.bytes c.args.out.now) (g.O.Sink.bytes c.report.new.out) (report_of c.args.self.now.pending) (g.O.Sink.faults c.args.out.now) (g.O.Sink.faults c.report.new.out) c.in-Err-Memory.field-0 c.in-Err-Memory.field-0-is c.in-Err-Memory.ensures.lines)
