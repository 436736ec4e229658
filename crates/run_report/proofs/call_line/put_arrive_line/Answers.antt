use Rattle.std.proofs.Common.{List, ℕ, ◌++◌, codes, ap, ◌∙◌}
use Rattle.fd_base.specs.Fields.{decimal_field, hex_field}
use Rattle.run_model.specs.Report.{event_text}
use Rattle.run_report.proofs.CallLines.{arrive_parts, line_end}
use Rattle.run_report.proofs.call_line.put_arrive_line.Goals as goal

pub returns-clause-line : goal.returns-clause-line
unfolding event_text
returns-clause-line c =
    c.put_word_before.ensures.text
    ∙ ap (λ (xs : List ℕ). codes "arrive" ++ xs) (c.put_decimal_before-start-3.ensures.text
    ∙ ap (λ (xs : List ℕ). decimal_field c.args.step ++ xs) (c.put_decimal_before-start-2.ensures.text
    ∙ ap (λ (xs : List ℕ). decimal_field c.args.thread ++ xs) (c.put_decimal_before-start.ensures.text
    ∙ ap (λ (xs : List ℕ). decimal_field c.args.at.now.module ++ xs) (c.put_hex_before-start.ensures.text
    ∙ ap (λ (xs : List ℕ). hex_field c.args.at.now.value ++ xs) (line_end c.args.text.now c.requires)))))
    ∙ arrive_parts (codes "arrive") (decimal_field c.args.step) (decimal_field c.args.thread) (decimal_field c.args.at.now.module) (hex_field c.args.at.now.value) (codes "\n")
