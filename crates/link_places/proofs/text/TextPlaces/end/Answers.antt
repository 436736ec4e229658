use Rattle.link_places.proofs.Sectioned.{text-end}
use Rattle.link_places.proofs.text.TextPlaces.end.Goals as goal

pub returns-clause-end : goal.returns-clause-end
returns-clause-end c = text-end c.args.self.now.inputs.now c.args.self.now.lying c.args.self.now.laid
