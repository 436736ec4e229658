use Rattle.std.proofs.Common.{◌≡◌, take}
use Rattle.std.specs.List.{flat_map}
use Rattle.link_model.specs.Needs.{all_needs}
use Rattle.link_model.specs.Segments.{need_words}
use Rattle.link_got.proofs.got.got_words.Given as goal

abbrev pub invariant-loop-need : goal.invariant-loop-need
invariant-loop-need l = l.words ≡ flat_map (need_words l.joined.mode l.joined.inputs) (take l.need-index (all_needs l.joined.mode l.joined.inputs))
