use Rattle.std.proofs.Common.{◌≡◌, take}
use Rattle.std.specs.List.{filter_map}
use Rattle.link_model.specs.Needs.{slot_key}
use Rattle.link_places.proofs.needs.slot_keys.Given as goal

abbrev pub invariant-loop-need : goal.invariant-loop-need
invariant-loop-need l = l.keys ≡ filter_map slot_key (take l.need-index l.needs)
