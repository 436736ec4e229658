use Rattle.std.proofs.Common.{List, ℕ, ◌++◌, codes, ap, ◌∙◌}
use Rattle.fd_base.specs.Fields.{decimal_field}
use Rattle.run_model.specs.Report.{event_text}
use Rattle.run_report.proofs.CallLines.{enter_parts, line_end}
use Rattle.run_report.proofs.call_line.put_enter_line.Goals as goal

pub returns-clause-line : goal.returns-clause-line
unfolding event_text
returns-clause-line c =
    c.put_word_before.ensures.text
    ∙ ap (λ (xs : List ℕ). codes "enter" ++ xs) (c.put_decimal_before-at-4.ensures.text
    ∙ ap (λ (xs : List ℕ). decimal_field c.args.step ++ xs) (c.put_decimal_before-at-3.ensures.text
    ∙ ap (λ (xs : List ℕ). decimal_field c.args.thread ++ xs) (c.put_decimal_before-at-2.ensures.text
    ∙ ap (λ (xs : List ℕ). decimal_field c.args.number ++ xs) (c.put_decimal_before-at.ensures.text
    ∙ ap (λ (xs : List ℕ). decimal_field c.args.slot ++ xs) (line_end c.args.text.now c.requires)))))
    ∙ enter_parts (codes "enter") (decimal_field c.args.step) (decimal_field c.args.thread) (decimal_field c.args.number) (decimal_field c.args.slot) (codes "\n")
