use Rattle.std.proofs.Common.{◌≡◌, take}
use Rattle.std.specs.List.{flat_map}
use Rattle.link_model.specs.DynamicRels.{need_rels}
use Rattle.link_model.specs.Needs.{all_needs}
use Rattle.link_got.proofs.rels.need_rels.Given as goal

abbrev pub invariant-loop-need : goal.invariant-loop-need
invariant-loop-need l = l.rels ≡ flat_map (need_rels l.joined.mode l.joined.inputs) (take l.need-index (all_needs l.joined.mode l.joined.inputs))
