use Rattle.std.proofs.Common.{◌∙◌, arith}
use Rattle.link_places.specs.parts.Heads.{text_heads}
use Rattle.link_places.proofs.Sectioned.{text-place, below-end}
use Rattle.link_places.proofs.text.TextPlaces.place.Goals as goal

pub returns-clause-place : goal.returns-clause-place
returns-clause-place c = c.place.ensures ∙ text-place c.args.self.now.inputs.now c.args.self.now.lying c.args.k c.args.self.now.laid

pub returns-clause-near : goal.returns-clause-near
returns-clause-near c =
    let t = c.args.self.now in
    omega (arith, c.place.ensures, below-end 0 c.args.k (text_heads t.inputs.now) t.lying t.laid, t.near)
