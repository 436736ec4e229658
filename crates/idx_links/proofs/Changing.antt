-- What contracts see as nodes come and go.
use Rattle.std.proofs.Common.{◌≡◌, ℕ, ◌+◌, ◌-◌, ◌^◌, ◌<◌, List, [], ◌∷◌, ◌++◌, length, map, set, Option, Some, None, IfSome, ap, ap₂, ◌∙◌}
use Rattle.std.specs.Prelude.{Contains, slice_get}
use Rattle.idx_links.specs.declared.pool.Entry.{Entry}
use Rattle.idx_links.specs.parts.Nodes.{Node, Nodes, IsLive, ids, with_node, without_node}
use Rattle.idx_links.specs.parts.Lists.{Lists, list_at, AreApart}
use Rattle.idx_links.specs.parts.Inside.{nodes_of, IsKept}
use Rattle.idx_links.proofs.Edited.{less, more, more_old, more_new}
use Rattle.idx_links.proofs.Entered.{node, HaveEntries, nodes_of-write, nodes_of-push, nodes_of-more, nodes_of-less, entry_at-same}
use Rattle.idx_links.proofs.Keeping.{order_of, free_of, seen, have, order_ids, live_in, first_free, first_unlisted, entry_stays, kept_add, kept_insert, kept_remove}

lists_in : (p q : Lists) → p ≡ q → p.lists ≡ q.lists
lists_in p q is = ap (λ (x : Lists). x.lists) is

nodes_in : (p q : Lists) → p ≡ q → p.nodes ≡ q.nodes
nodes_in p q is = ap (λ (x : Lists). x.nodes) is

same_nodes : {T : Type 0} (order order' : List (Node T)) (chains chains' : List (List ℕ)) (spare : ℕ) → order ≡ order' → chains ≡ chains'
    → ◌≡◌ {A = Nodes T} (record { order = order; chains = chains; spare = spare }) (record { order = order'; chains = chains'; spare = spare })
same_nodes {T} order order' chains chains' spare p q =
    let both : List (Node T) → List (List ℕ) → Nodes T = λ o c. record { order = o; chains = c; spare = spare } in
    ap₂ both p q

module _ {T : Type 0} (places owners : Lists) (entries : List (Option (Entry T))) (spare : ℕ) (kept : IsKept places owners entries spare) where
  -- a free node more, once there is room for it
  module _ (mid places' owners' : Lists)
      (mid_is : mid ≡ record { lists = places.lists; nodes = mid.nodes })
      (places_is : places' ≡ record { lists = set mid.lists 1 (length entries ∷ list_at mid.lists 1); nodes = mid.nodes })
      (owners_is : owners' ≡ record { lists = owners.lists; nodes = owners'.nodes })
      (apart : AreApart places'.lists) (places_room : length entries < mid.nodes) (owners_room : length entries < owners'.nodes) (few : length entries + 1 < 2 ^ 32) where
    both_added : (order_of places' ≡ order_of places) × IsKept places' owners' (entries ++ None ∷ []) (spare + 1)
    both_added =
        let lists : mid.lists ≡ places.lists = lists_in mid (record { lists = places.lists; nodes = mid.nodes }) mid_is in
        let now : places'.lists ≡ set places.lists 1 (length entries ∷ free_of places) = lists_in places' (record { lists = set mid.lists 1 (length entries ∷ list_at mid.lists 1); nodes = mid.nodes }) places_is ∙ ap (λ ls. set ls 1 (length entries ∷ list_at ls 1)) lists in
        let room : length entries < places'.nodes = rw (nodes_in places' (record { lists = set mid.lists 1 (length entries ∷ list_at mid.lists 1); nodes = mid.nodes }) places_is) places_room in
        kept_add places owners entries spare kept places' owners' apart now (lists_in owners' (record { lists = owners.lists; nodes = owners'.nodes }) owners_is) room owners_room few

    pub added_kept : IsKept places' owners' (entries ++ None ∷ []) (spare + 1)
    added_kept = both_added.1

    pub added_seen : (now : Nodes T) → seen places owners entries spare ≡ now → seen places' owners' (entries ++ None ∷ []) (spare + 1) ≡ record { order = now.order; chains = now.chains; spare = now.spare + 1 }
    added_seen now is =
        let later : Nodes T → Nodes T = λ n. record { order = n.order; chains = n.chains; spare = n.spare + 1 } in
        same_nodes (nodes_of (entries ++ None ∷ []) (order_of places')) (nodes_of entries (order_of places)) owners'.lists owners.lists (spare + 1)
        (nodes_of-push entries (order_of places') ∙ ap (nodes_of entries) both_added.0)
        (lists_in owners' (record { lists = owners.lists; nodes = owners'.nodes }) owners_is)
        ∙ ap later is

  -- what is asked of a place to insert at
  pub at_listed : (now : Nodes T) → seen places owners entries spare ≡ now → (at : Option ℕ) → IfSome at (IsLive now) → IfSome at (Contains (order_of places))
  at_listed now is None live = live
  at_listed now is (Some x) live = live_in places owners entries spare kept now is x live

  -- the first free node comes in
  module _ (at : Option ℕ) (y : ℕ) (e : Entry T) (is_first : slice_get (free_of places) 0 ≡ Some y)
      (mid places' owners' : Lists)
      (mid_is : mid ≡ record { lists = map (less y) places.lists; nodes = places.nodes })
      (places_is : places' ≡ record { lists = set mid.lists 0 (more at y (list_at mid.lists 0)); nodes = mid.nodes })
      (owners_is : owners' ≡ record { lists = set owners.lists e.owner (y ∷ list_at owners.lists e.owner); nodes = owners.nodes })
      (places_apart : AreApart places'.lists) (owners_apart : AreApart owners'.lists)
      (listed : IfSome at (Contains (order_of places))) (in_range : e.owner < length owners.lists) where
    both_inserted : (order_of places' ≡ more at y (order_of places)) × IsKept places' owners' (set entries y (Some e)) (spare - 1)
    both_inserted =
        let gone : Lists = record { lists = map (less y) places.lists; nodes = places.nodes } in
        let later : Lists → Lists = λ p. record { lists = set p.lists 0 (more at y (list_at p.lists 0)); nodes = p.nodes } in
        let now : places' ≡ later gone = places_is ∙ ap later mid_is in
        let owned : Lists = record { lists = set owners.lists e.owner (y ∷ list_at owners.lists e.owner); nodes = owners.nodes } in
        kept_insert places owners entries spare kept y is_first at e places' owners' places_apart owners_apart
        (lists_in places' (later gone) now) (lists_in owners' owned owners_is) (nodes_in places' (later gone) now) (nodes_in owners' owned owners_is) listed in_range

    pub inserted_kept : IsKept places' owners' (set entries y (Some e)) (spare - 1)
    inserted_kept = both_inserted.1

    pub inserted_seen : (now : Nodes T) → seen places owners entries spare ≡ now → seen places' owners' (set entries y (Some e)) (spare - 1) ≡ with_node at (node y e) now
    inserted_seen was is =
        let now = set entries y (Some e) in
        let off = first_unlisted places owners entries spare kept y is_first in
        let here = entry_at-same entries y e (kept.free y (first_free places owners entries spare kept y is_first)) in
        let had = have places owners entries spare kept in
        let has : HaveEntries now (order_of places) = λ id there. let t = had id there in (t.0, entry_stays places owners entries spare kept y is_first e id there ∙ t.1) in
        let new = with_node at (node y e) (seen places owners entries spare) in
        same_nodes (nodes_of now (order_of places')) new.order owners'.lists new.chains (spare - 1)
        (rw (both_inserted.0, nodes_of-more now at y e (order_of places) has here, nodes_of-write entries y (Some e) (order_of places) off))
        (lists_in owners' (record { lists = set owners.lists e.owner (y ∷ list_at owners.lists e.owner); nodes = owners.nodes }) owners_is)
        ∙ ap (with_node at (node y e)) is

    ids_now : ids (nodes_of (set entries y (Some e)) (order_of places')) ≡ more at y (order_of places)
    ids_now = order_ids places' owners' (set entries y (Some e)) (spare - 1) inserted_kept ∙ both_inserted.0

    pub inserted_live : IsLive (seen places' owners' (set entries y (Some e)) (spare - 1)) y
    inserted_live = rw ids_now (more_new at y (order_of places) listed)

    pub inserted_stays : (now : Nodes T) → seen places owners entries spare ≡ now → (x : ℕ) → IsLive now x → IsLive (seen places' owners' (set entries y (Some e)) (spare - 1)) x
    inserted_stays was is x live = rw ids_now (more_old at x y (order_of places) (live_in places owners entries spare kept was is x live))

  -- a node goes
  module _ (y : ℕ) (listed : Contains (order_of places) y)
      (mid places' owners' : Lists)
      (mid_is : mid ≡ record { lists = map (less y) places.lists; nodes = places.nodes })
      (places_is : places' ≡ record { lists = set mid.lists 1 (y ∷ list_at mid.lists 1); nodes = mid.nodes })
      (owners_is : owners' ≡ record { lists = map (less y) owners.lists; nodes = owners.nodes })
      (places_apart : AreApart places'.lists) (owners_apart : AreApart owners'.lists) where
    both_removed : (order_of places' ≡ less y (order_of places)) × IsKept places' owners' entries (spare + 1)
    both_removed =
        let gone : Lists = record { lists = map (less y) places.lists; nodes = places.nodes } in
        let later : Lists → Lists = λ p. record { lists = set p.lists 1 (y ∷ list_at p.lists 1); nodes = p.nodes } in
        let now : places' ≡ later gone = places_is ∙ ap later mid_is in
        let owned : Lists = record { lists = map (less y) owners.lists; nodes = owners.nodes } in
        kept_remove places owners entries spare kept y listed places' owners' places_apart owners_apart
        (lists_in places' (later gone) now) (lists_in owners' owned owners_is) (nodes_in places' (later gone) now) (nodes_in owners' owned owners_is)

    pub removed_kept : IsKept places' owners' entries (spare + 1)
    removed_kept = both_removed.1

    pub removed_seen : (now : Nodes T) → seen places owners entries spare ≡ now → seen places' owners' entries (spare + 1) ≡ without_node y now
    removed_seen now is =
        let new = without_node y (seen places owners entries spare) in
        same_nodes (nodes_of entries (order_of places')) new.order owners'.lists new.chains (spare + 1)
        (ap (nodes_of entries) both_removed.0 ∙ nodes_of-less entries y (order_of places) (have places owners entries spare kept))
        (lists_in owners' (record { lists = map (less y) owners.lists; nodes = owners.nodes }) owners_is)
        ∙ ap (without_node y) is
