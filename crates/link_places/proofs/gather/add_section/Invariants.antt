use Rattle.std.proofs.Common.{◌≡◌, take}
use Rattle.std.specs.List.{flat_map}
use Rattle.symbol_scope.specs.Closure.{with_new}
use Rattle.link_model.specs.Needs.{is_same_need}
use Rattle.link_places.specs.parts.Gathering.{rel_needs}
use Rattle.link_places.specs.parts.NeedTable.{needs_in}
use Rattle.link_places.proofs.gather.add_section.Given as goal

abbrev pub invariant-loop-rel : goal.invariant-loop-rel
invariant-loop-rel l =
    needs_in l.needs ≡ with_new is_same_need (needs_in l.fn.needs) (flat_map (rel_needs l.joined.mode l.joined.inputs l.input) (take l.rel-index l.section.rels))
