use Rattle.std.proofs.Common.{◌≡◌, ◌<◌, length, map, get_or, set, ap, arith}
use Rattle.std.proofs.lemmas.List.{get_or_read, with_items_is}
use Rattle.idx_links.specs.declared.links.TheConstants.{NONE}
use Rattle.idx_links.specs.parts.Lists.{Lists}
use Rattle.idx_links.specs.parts.Links.{IsLinked}
use Rattle.idx_links.proofs.Edited.{less}
use Rattle.idx_links.proofs.Families.{linked_view, listed_below, head_within, linked_without, IsLinked-itself, view_linked, apart_view}
use Rattle.idx_links.proofs.chains.Chains.remove.Goals as goal

pub unlink-requires : goal.unlink-requires
unlink-requires c =
    let heads = c.self.inside.heads.items in
    let links = c.self.inside.links.items in
    let linked = linked_view heads links c.args.self.now c.self.view_is c.self.invariant in
    rw c.as_mut_slice.ensures.value (listed_below heads links c.args.self.now.lists linked c.args.list c.args.id c.requires)

linked_now : (c : goal.After-self-2-1) → IsLinked (set c.self.inside.heads.items c.args.list c.unlink.result) c.unlink.new.links (map (less c.args.id) c.args.self.now.lists)
linked_now c =
    let heads = c.self.inside.heads.items in
    let links = c.self.inside.links.items in
    let lists = c.args.self.now.lists in
    let linked = linked_view heads links c.args.self.now c.self.view_is c.self.invariant in
    let within : c.args.list < length heads = head_within heads links lists linked c.args.list c.args.id c.requires in
    let read : c.index.result.now ≡ get_or heads c.args.list NONE = get_or_read heads c.args.list c.index.result.now within c.index.ensures NONE in
    rw (c.unlink.ensures.links, c.unlink.ensures.first, c.as_mut_slice.ensures.value, read) (linked_without heads links lists linked c.args.list c.args.id c.requires)

pub invariant_of-self : goal.invariant_of-self
invariant_of-self c =
    rw (with_items_is c.self.inside.links c.unlink.new.links (omega arith)) (IsLinked-itself (set c.self.inside.heads.items c.args.list c.unlink.result) _ _ (linked_now c))

pub returns-clause-apart : goal.returns-clause-apart
returns-clause-apart c =
    rw (with_items_is c.self.inside.links c.unlink.new.links (omega arith)) (apart_view (set c.self.inside.heads.items c.args.list c.unlink.result) _ _ (linked_now c))

pub returns-clause-lists : goal.returns-clause-lists
returns-clause-lists c =
    let long : length c.unlink.new.links ≡ c.args.self.now.nodes = omega (arith, c.self.inside.links.ok, ap (λ (v : Lists). v.nodes) c.self.view_is) in
    rw (with_items_is c.self.inside.links c.unlink.new.links (omega arith)) (view_linked (set c.self.inside.heads.items c.args.list c.unlink.result) c.unlink.new.links _ (linked_now c) long)
