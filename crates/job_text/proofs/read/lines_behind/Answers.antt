use Rattle.std.proofs.Common.{◌≡◌, ◌∷◌, sym, ap, ◌∙◌, arith}
use Rattle.std.specs.Prelude.{drop}
use Rattle.fd_base.specs.Lines.{lines_of, Lines}
use Rattle.job_text.specs.Job.{is_headed}
use Rattle.job_text.proofs.JobParts.{lines_left}
use Rattle.job_text.proofs.read.lines_behind.Goals as goal

pub returns-in-Some : goal.returns-in-Some
returns-in-Some c =
    let some = c.in-Some.ensures in
    let left : lines_of c.args.bytes.now ≡ c.in-Some.line.text.now ∷ c.next.new.self.left = ap (λ (l : Lines). l.left) (sym c.new-lines.ensures) ∙ some.1.0 in
    let none_before : c.new-lines.result.before ≡ 0 = ap (λ (l : Lines). l.before) c.new-lines.ensures in
    record {
      headed = ap is_headed left ∙ sym c.is_header.ensures ∙ c.if-is_header.true;
      before' = omega (arith, some.0, some.1.1);
      left' = sym (ap (drop 1) left);
      few = lines_left c.args.bytes.now _ _ left c.requires;
    }
