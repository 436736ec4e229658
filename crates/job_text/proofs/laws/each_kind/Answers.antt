use Rattle.job_text.proofs.RefusalKinds as kinds
use Rattle.job_text.proofs.laws.each_kind.Goals as goal

pub returns : goal.returns
returns c = record {
  word = kinds.is_word;
  form = kinds.is_form;
  range = kinds.is_range;
  twice = kinds.is_twice;
  too_many = kinds.is_too_many;
  no_program = kinds.is_no_program;
  small = kinds.is_small;
}
