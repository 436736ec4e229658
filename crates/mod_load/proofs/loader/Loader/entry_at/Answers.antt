use Rattle.mod_load.proofs.LoaderParts.{placed_of}
use Rattle.mod_load.proofs.loader.Loader.entry_at.Goals as goal

pub entry_at-requires : goal.entry_at-requires
entry_at-requires c = placed_of c.self.view_is c.requires c.whole.ensures.whole.size c.as_slice.ensures
