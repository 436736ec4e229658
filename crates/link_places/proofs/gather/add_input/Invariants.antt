use Rattle.std.proofs.Common.{◌≡◌, take}
use Rattle.std.specs.List.{flat_map}
use Rattle.symbol_scope.specs.Closure.{with_new}
use Rattle.link_model.specs.Needs.{is_same_need}
use Rattle.link_places.specs.parts.Gathering.{section_needs}
use Rattle.link_places.specs.parts.NeedTable.{needs_in}
use Rattle.link_places.proofs.gather.add_input.Given as goal

abbrev pub invariant-loop-section : goal.invariant-loop-section
invariant-loop-section l =
    needs_in l.needs ≡ with_new is_same_need (needs_in l.fn.needs) (flat_map (section_needs l.joined.mode l.joined.inputs l.input) (take l.section-index l.object.sections))
