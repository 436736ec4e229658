use Rattle.std.proofs.Common.{◌≡◌, [], take}
use Rattle.std.specs.List.{flat_map}
use Rattle.symbol_scope.specs.Closure.{with_new}
use Rattle.link_model.specs.Inputs.{numbered}
use Rattle.link_model.specs.Needs.{is_same_need}
use Rattle.link_places.specs.parts.Gathering.{input_needs}
use Rattle.link_places.specs.parts.NeedTable.{needs_in}
use Rattle.link_places.proofs.gather.gather_needs.Given as goal

abbrev pub invariant-loop-i : goal.invariant-loop-i
invariant-loop-i l = needs_in l.needs ≡ with_new is_same_need [] (flat_map (input_needs l.joined.mode l.joined.inputs) (numbered (take l.i l.joined.inputs)))
