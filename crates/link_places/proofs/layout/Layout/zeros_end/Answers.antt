use Rattle.link_model.specs.Places.{got_end}
use Rattle.link_places.proofs.Sectioned.{data-end}
use Rattle.link_places.proofs.layout.Layout.zeros_end.Goals as goal

pub returns-clause-end : goal.returns-clause-end
returns-clause-end c =
    let l = c.args.self.now in
    data-end l.text.inputs.now (got_end l.mode l.text.inputs.now) l.places.lying l.laid
