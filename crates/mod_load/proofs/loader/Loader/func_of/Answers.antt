use Rattle.mod_load.proofs.LoaderParts.{placed_of}
use Rattle.mod_load.proofs.loader.Loader.func_of.Goals as goal

pub code_at-requires : goal.code_at-requires
code_at-requires c = placed_of c.self.view_is c.requires c.whole.ensures.whole.size c.as_slice.ensures
