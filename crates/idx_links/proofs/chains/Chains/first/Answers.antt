use Rattle.std.proofs.Common.{◌≡◌, ◌<◌, length, get_or, ap, ◌∙◌, arith}
use Rattle.std.proofs.lemmas.List.{get_or_read}
use Rattle.idx_links.specs.declared.links.TheConstants.{NONE}
use Rattle.idx_links.specs.parts.Lists.{list_at}
use Rattle.idx_links.specs.parts.Links.{node_of}
use Rattle.idx_links.proofs.Chained.{node_of-first}
use Rattle.idx_links.proofs.Families.{linked_view}
use Rattle.idx_links.proofs.chains.Chains.first.Goals as goal

pub returns : goal.returns
returns c =
    let heads = c.self.inside.heads.items in
    let links = c.self.inside.links.items in
    let lists = c.args.self.now.lists in
    let linked = linked_view heads links c.args.self.now c.self.view_is c.self.invariant in
    let within : c.args.list < length heads = omega (arith, linked.count, c.requires) in
    let read : c.index.result.now ≡ get_or heads c.args.list NONE = get_or_read heads c.args.list c.index.result.now within c.index.ensures NONE in
    c.node.ensures ∙ ap node_of read ∙ node_of-first links NONE (get_or heads c.args.list NONE) (list_at lists c.args.list) linked.few (linked.chain c.args.list within)
