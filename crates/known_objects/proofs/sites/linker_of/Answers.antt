use Rattle.known_objects.proofs.SiteObjects.{ready_by}
use Rattle.known_objects.proofs.sites.linker_of.Goals as goal

pub returns-clause-ready : goal.returns-clause-ready
returns-clause-ready c = ready_by _ c.requires.empty c.requires.tables c.requires.few
