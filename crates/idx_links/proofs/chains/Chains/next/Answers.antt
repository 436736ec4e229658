use Rattle.std.proofs.Common.{◌≡◌, get_or, ap, ◌∙◌, arith}
use Rattle.std.proofs.lemmas.List.{get_or_read}
use Rattle.idx_links.specs.declared.links.TheConstants.{NONE}
use Rattle.idx_links.specs.parts.Lists.{list_at}
use Rattle.idx_links.specs.parts.Links.{node_of, link_at}
use Rattle.idx_links.proofs.Chained.{node_of-next}
use Rattle.idx_links.proofs.Families.{linked_view, listed_below, chain_of_listed}
use Rattle.idx_links.proofs.chains.Chains.next.Goals as goal

pub index-requires : goal.index-requires
index-requires c =
    let heads = c.self.inside.heads.items in
    let links = c.self.inside.links.items in
    let linked = linked_view heads links c.args.self.now c.self.view_is c.self.invariant in
    omega (arith, listed_below heads links c.args.self.now.lists linked c.requires.0 c.args.id c.requires.1, c.self.inside.links.ok)

pub returns : goal.returns
returns c list there =
    let heads = c.self.inside.heads.items in
    let links = c.self.inside.links.items in
    let lists = c.args.self.now.lists in
    let linked = linked_view heads links c.args.self.now c.self.view_is c.self.invariant in
    let below = listed_below heads links lists linked list c.args.id there in
    let read : c.index.result.now ≡ link_at links c.args.id = get_or_read links c.args.id c.index.result.now below c.index.ensures (record { next = NONE; prev = NONE }) in
    c.node.ensures ∙ ap (λ l. node_of l.next) read
    ∙ node_of-next links NONE (get_or heads list NONE) c.args.id (list_at lists list) linked.few there (chain_of_listed heads links lists linked list c.args.id there)
