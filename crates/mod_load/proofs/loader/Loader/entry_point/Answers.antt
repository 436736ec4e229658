use Rattle.mod_load.proofs.LoaderParts.{placed_of}
use Rattle.mod_load.proofs.loader.Loader.entry_point.Goals as goal

pub entry_point-requires : goal.entry_point-requires
entry_point-requires c = placed_of c.self.view_is c.requires c.whole.ensures.whole.size c.as_slice.ensures
