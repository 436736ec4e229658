use Rattle.link_writes.proofs.Writable as lemma
use Rattle.link_writes.proofs.law.linked_is_writable.Goals as goal

pub returns : goal.returns
returns c = lemma.linked_is_writable
