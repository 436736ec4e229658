use Rattle.mod_load.proofs.FewFlags.{few_flags}
use Rattle.mod_load.proofs.LoaderParts.{consistent_of}
use Rattle.mod_load.proofs.loader.Loader.next_unbound.Goals as goal

pub next_unbound-requires : goal.next_unbound-requires
next_unbound-requires c = few_flags _ (consistent_of c.self.view_is c.requires)
