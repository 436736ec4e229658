use Rattle.std.proofs.Common.{sym}
use Rattle.std.proofs.lemmas.List.{take_rest}
use Rattle.job_text.proofs.LineFields.{fields_at_space, fields_no_space}
use Rattle.job_text.proofs.fields.split_field.Goals as goal

pub returns-in-Some : goal.returns-in-Some
returns-in-Some c =
    rw take_rest (fields_at_space c.args.bytes.now c.in-Some.end (sym c.in-Some.ensures.place) c.requires.first)

pub returns-in-None : goal.returns-in-None
returns-in-None c = fields_no_space c.args.bytes.now (sym c.in-None.ensures.place) c.requires.some
