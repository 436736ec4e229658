use Rattle.std.proofs.Common.{append_assoc}
use Rattle.load_map.proofs.image.MapImage.push_entry.Goals as goal

pub returns-clause-bytes : goal.returns-clause-bytes
returns-clause-bytes c = rw (c.push_word-3.ensures.bytes, c.push_word-2.ensures.bytes, c.push_word.ensures.bytes) (simp append_assoc)
