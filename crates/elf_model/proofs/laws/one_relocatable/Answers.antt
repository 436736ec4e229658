use Rattle.std.proofs.Common.{sym, ◌∙◌}
use Rattle.elf_model.proofs.laws.one_relocatable.Goals as goal

pub returns : goal.returns
returns c = record {
  same = λ bytes a b p q. p.fields ∙ sym q.fields;
  exclusive = λ bytes o r p q. cc (p.passes, q);
}
