use Rattle.mod_load.proofs.LoaderParts.{placed_of}
use Rattle.mod_load.proofs.loader.Loader.got.Goals as goal

pub got_at-requires : goal.got_at-requires
got_at-requires c = placed_of c.self.view_is c.requires c.whole.ensures.whole.size c.as_slice.ensures
