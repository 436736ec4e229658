use Rattle.std.proofs.Common.{sym, ◌∙◌, refl}
use Rattle.std.proofs.lemmas.List.{take_rest}
use Rattle.job_text.proofs.LineFields.{at_other, other_first, no_other, no_fields}
use Rattle.job_text.proofs.fields.behind_spaces.Goals as goal

pub returns-in-Some-clause-fields : goal.returns-in-Some-clause-fields
returns-in-Some-clause-fields c =
    rw take_rest (at_other c.args.bytes.now c.in-Some.start (sym c.in-Some.ensures.place))

pub returns-in-Some-clause-first : goal.returns-in-Some-clause-first
returns-in-Some-clause-first c =
    λ some space. other_first c.args.bytes.now c.in-Some.start (sym c.in-Some.ensures.place) (rw take_rest at space)

pub returns-in-None-clause-fields : goal.returns-in-None-clause-fields
returns-in-None-clause-fields c =
    no_fields _ refl ∙ sym (no_other c.args.bytes.now (sym c.in-None.ensures.place))
