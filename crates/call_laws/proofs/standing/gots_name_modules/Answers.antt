use Rattle.call_laws.proofs.GotsName.{gots_name_modules_lem}
use Rattle.call_laws.proofs.standing.gots_name_modules.Goals as goal

pub returns : goal.returns
returns c = gots_name_modules_lem
