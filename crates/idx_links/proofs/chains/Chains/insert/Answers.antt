use Rattle.std.proofs.Common.{◌≡◌, ◌<◌, length, get_or, set, Some, None, ap, arith, Contains}
use Rattle.std.proofs.lemmas.List.{get_or_read, with_items_is}
use Rattle.idx_links.specs.declared.links.TheConstants.{NONE}
use Rattle.idx_links.specs.parts.Lists.{Lists, list_at}
use Rattle.idx_links.specs.parts.Links.{link_at, between, with_next, IsLinked}
use Rattle.idx_links.proofs.Edited.{more}
use Rattle.idx_links.proofs.Families.{linked_view, listed_below, linked_first, linked_behind, IsLinked-itself, view_linked, apart_view}
use Rattle.idx_links.proofs.chains.Chains.insert.Goals as goal

pub link_behind-requires-clause-at : goal.link_behind-requires-clause-at
link_behind-requires-clause-at c =
    let heads = c.self.inside.heads.items in
    let links = c.self.inside.links.items in
    let linked = linked_view heads links c.args.self.now c.self.view_is c.self.invariant in
    let listed : Contains (list_at c.args.self.now.lists c.args.list) c.in-Some.at = rw c.in-Some.is at c.requires.at in
    rw c.as_mut_slice.ensures.value (listed_below heads links c.args.self.now.lists linked c.args.list c.in-Some.at listed)

-- behind a node

written : (c : goal.After-self-1) → c.link_behind.new.links ≡ with_next c.in-Some.at c.args.id (between c.args.id c.in-Some.at (link_at c.self.inside.links.items c.in-Some.at).next c.self.inside.links.items)
written c = rw c.as_mut_slice.ensures.value at c.link_behind.ensures

linked_now : (c : goal.After-self-1) → IsLinked c.self.inside.heads.items c.link_behind.new.links (set c.args.self.now.lists c.args.list (more (Some c.in-Some.at) c.args.id (list_at c.args.self.now.lists c.args.list)))
linked_now c =
    let heads = c.self.inside.heads.items in
    let links = c.self.inside.links.items in
    let lists = c.args.self.now.lists in
    let linked = linked_view heads links c.args.self.now c.self.view_is c.self.invariant in
    let listed : Contains (list_at lists c.args.list) c.in-Some.at = rw c.in-Some.is at c.requires.at in
    let below : c.args.id < length links = omega (arith, c.requires.room, ap (λ (v : Lists). v.nodes) c.self.view_is) in
    rw (written c) (linked_behind heads links lists linked c.args.list c.in-Some.at c.args.id listed below c.requires.unlisted)

pub invariant_of-self : goal.invariant_of-self
invariant_of-self c =
    rw (with_items_is c.self.inside.links c.link_behind.new.links (omega arith)) (IsLinked-itself c.self.inside.heads.items _ _ (linked_now c))

pub returns-in-Some-clause-apart : goal.returns-in-Some-clause-apart
returns-in-Some-clause-apart c =
    rw (with_items_is c.self.inside.links c.link_behind.new.links (omega arith)) (apart_view c.self.inside.heads.items _ _ (linked_now c))

pub returns-in-Some-clause-lists : goal.returns-in-Some-clause-lists
returns-in-Some-clause-lists c =
    let long : length c.link_behind.new.links ≡ c.args.self.now.nodes = omega (arith, c.self.inside.links.ok, ap (λ (v : Lists). v.nodes) c.self.view_is) in
    rw (with_items_is c.self.inside.links c.link_behind.new.links (omega arith), c.in-Some.is) (view_linked c.self.inside.heads.items c.link_behind.new.links _ (linked_now c) long)

-- at the front

first_now : (c : goal.After-self-in-None-2-1) → IsLinked (set c.self.inside.heads.items c.args.list c.link_first.result) c.link_first.new.links (set c.args.self.now.lists c.args.list (more None c.args.id (list_at c.args.self.now.lists c.args.list)))
first_now c =
    let heads = c.self.inside.heads.items in
    let links = c.self.inside.links.items in
    let lists = c.args.self.now.lists in
    let linked = linked_view heads links c.args.self.now c.self.view_is c.self.invariant in
    let within : c.args.list < length heads = omega (arith, c.requires.list, linked.count) in
    let below : c.args.id < length links = omega (arith, c.requires.room, ap (λ (v : Lists). v.nodes) c.self.view_is) in
    let read : c.index.result.now ≡ get_or heads c.args.list NONE = get_or_read heads c.args.list c.index.result.now within c.index.ensures NONE in
    rw (c.link_first.ensures.links, c.link_first.ensures.first, c.as_mut_slice-in-None.ensures.value, read) (linked_first heads links lists linked c.args.list c.args.id within below c.requires.unlisted)

pub invariant_of-self-in-None : goal.invariant_of-self-in-None
invariant_of-self-in-None c =
    rw (with_items_is c.self.inside.links c.link_first.new.links (omega arith)) (IsLinked-itself (set c.self.inside.heads.items c.args.list c.link_first.result) _ _ (first_now c))

pub returns-in-None-clause-apart : goal.returns-in-None-clause-apart
returns-in-None-clause-apart c =
    rw (with_items_is c.self.inside.links c.link_first.new.links (omega arith)) (apart_view (set c.self.inside.heads.items c.args.list c.link_first.result) _ _ (first_now c))

pub returns-in-None-clause-lists : goal.returns-in-None-clause-lists
returns-in-None-clause-lists c =
    let long : length c.link_first.new.links ≡ c.args.self.now.nodes = omega (arith, c.self.inside.links.ok, ap (λ (v : Lists). v.nodes) c.self.view_is) in
    rw (with_items_is c.self.inside.links c.link_first.new.links (omega arith), c.in-None.is) (view_linked (set c.self.inside.heads.items c.args.list c.link_first.result) c.link_first.new.links _ (first_now c) long)
