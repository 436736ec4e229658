use Rattle.std.proofs.Common.{arith}
use Rattle.run_report.proofs.CallLines.{decimal_short, put_before}
use Rattle.run_report.proofs.call_line.put_decimal_before.Goals as goal

pub returns-clause-text : goal.returns-clause-text
returns-clause-text c =
    let short = decimal_short c.args.n (omega arith) in
    put_before c.write_digits-start.new.buf _ c.write_digits-start.result 32 (omega (arith, short, c.write_digits-start.ensures.start, c.requires.room))
    (omega (arith, c.write_digits-start.ensures.start, c.write_digits-start.auto.buf, c.requires.inside)) c.write_digits-start.ensures.written
