use Rattle.elf_read_rel.proofs.Numbered.{numbered, unnumbered}
use Rattle.elf_read_rel.proofs.kept.number_at.Goals as goal

pub returns-in-None : goal.returns-in-None
returns-in-None c = λ bytes is. unnumbered bytes c.args.numbers.now c.args.i c.in-None.ensures.lookup.3 is

pub returns-in-Some : goal.returns-in-Some
returns-in-Some c = λ bytes is. numbered bytes c.args.numbers.now c.args.i c.in-Some.number.now c.in-Some.ensures.lookup.3.0 c.in-Some.ensures.lookup.1 is
