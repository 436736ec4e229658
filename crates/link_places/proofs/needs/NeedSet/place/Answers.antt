use Rattle.std.proofs.Common.{ap, ◌∙◌}
use Rattle.std.specs.Prelude.{position}
use Rattle.std.specs.Map.{keys_of}
use Rattle.link_places.specs.parts.NeedTable.{needs_in}
use Rattle.link_places.proofs.Coded.{same_code, found-at}
use Rattle.link_places.proofs.needs.NeedSet.place.Goals as goal

pub returns : goal.returns
returns c =
    let s = c.args.self.now in
    c.get_index_of.ensures.index ∙ ap (λ k. position (same_code k) (keys_of s.map.entries)) c.code.ensures ∙ found-at c.args.need (needs_in s) s.map.entries s.coded
