use Rattle.std.proofs.Common.{◌+◌, ap, ◌∙◌}
use Rattle.link_model.specs.Needs.{offset_of}
use Rattle.link_places.proofs.layout.Layout.need_place.Goals as goal

pub returns-clause-place : goal.returns-clause-place
returns-clause-place c =
    let l = c.args.self.now in
    λ i. l.begin i + (c.from.ensures ∙ c.offset.ensures ∙ ap (λ ns. offset_of ns c.args.need) l.wanted) i
