use Rattle.std.proofs.Common.{sym, arith}
use Rattle.std.proofs.lemmas.List.{take_rest}
use Rattle.a32_text.proofs.Scanning.{behind_first, not_first, all_blank, kept_all, empty_same}
use Rattle.a32_text.proofs.scanner.behind_blanks.Goals as goal

pub returns-in-Some : goal.returns-in-Some
returns-in-Some c = rw take_rest (record {
  gap = behind_first c.args.bytes.now c.in-Some.start (sym c.in-Some.ensures.place);
  same = kept_all c.args.bytes.now c.in-Some.start;
  first = λ some. not_first c.args.bytes.now c.in-Some.start (sym c.in-Some.ensures.place);
})

pub returns-in-None : goal.returns-in-None
returns-in-None c = record {
  gap = λ some. all_blank c.args.bytes.now (sym c.in-None.ensures.place) some;
  same = λ h. empty_same c.args.bytes.now h;
  first = λ some. absurd (omega arith);
}
