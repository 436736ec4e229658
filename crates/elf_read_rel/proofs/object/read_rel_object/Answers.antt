use Rattle.elf_read_rel.proofs.Exact.{is_read, only_read, first_refused, is_sound}
use Rattle.elf_read_rel.proofs.object.read_rel_object.Goals as goal

pub returns-clause-read : goal.returns-clause-read
returns-clause-read c = is_read c.args.bytes.now c.object.result c.object.ensures

pub returns-clause-only : goal.returns-clause-only
returns-clause-only c = only_read c.args.bytes.now c.object.result (returns-clause-read c)

pub returns-clause-first : goal.returns-clause-first
returns-clause-first c = first_refused c.args.bytes.now c.object.result (returns-clause-read c)

pub returns-clause-sound : goal.returns-clause-sound
returns-clause-sound c = is_sound c.args.bytes.now c.object.result (returns-clause-read c)
