use Rattle.a32_text.proofs.Scanning.{new_scan}
use Rattle.a32_text.proofs.scanner.Scanner.new.Goals as goal

pub returns : goal.returns
returns c = new_scan c.args.bytes.now c.behind_blanks.result.now (record { gap = c.behind_blanks.ensures.gap; same = c.behind_blanks.ensures.same; first = c.behind_blanks.ensures.first })
