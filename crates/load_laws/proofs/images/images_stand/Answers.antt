use Rattle.load_laws.proofs.ImageFrame.{images_stand_lem}
use Rattle.load_laws.proofs.images.images_stand.Goals as goal

pub returns : goal.returns
returns c = images_stand_lem
