use Rattle.std.proofs.Common.{refl}
use Rattle.load_image.proofs.filling.got_words.Goals as goal

pub returns : goal.returns
returns c = λ t. rw c.load_map_at.ensures refl
