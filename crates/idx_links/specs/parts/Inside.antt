-- What a pool holds inside: places of nodes, owners' chains and entries.
use Rattle.std.specs.Prelude.{◌≡◌, ℕ, ◌+◌, ◌^◌, ◌<◌, ◌≤◌, List, length, filter_map, option_map, Contains, Option, Some, None, slice_index_or}
use Rattle.idx_links.specs.declared.pool.Entry.{Entry}
use Rattle.idx_links.specs.parts.Nodes.{Node}
use Rattle.idx_links.specs.parts.Lists.{Lists, list_at, AreApart}

module _ {T : Type 0} where
  abbrev pub entry_at : List (Option (Entry T)) → ℕ → Option (Entry T)
  entry_at entries id = slice_index_or entries id None

  abbrev pub node_of : List (Option (Entry T)) → ℕ → Option (Node T)
  node_of entries id = option_map (λ e. record { id = id; owner = e.owner; value = e.value }) (entry_at entries id)

  -- the nodes of these ids
  abbrev pub nodes_of : List (Option (Entry T)) → List ℕ → List (Node T)
  nodes_of entries ids = filter_map (node_of entries) ids

  -- list 0 of the places is the order, and list 1 the free nodes
  pub record IsKept (places owners : Lists) (entries : List (Option (Entry T))) (spare : ℕ) : Type 0 where
    pub two : length places.lists ≡ 2
    pub places_apart : AreApart places.lists
    pub owners_apart : AreApart owners.lists
    -- each node in order has an entry, and is in its owner's chain
    pub entered : (id : ℕ) → Contains (list_at places.lists 0) id → (e : Entry T) × (entry_at entries id ≡ Some e) × Contains (list_at owners.lists e.owner) id
    -- what is in a chain is in order
    pub ordered : (owner id : ℕ) → Contains (list_at owners.lists owner) id → Contains (list_at places.lists 0) id
    pub free : (id : ℕ) → Contains (list_at places.lists 1) id → id < length entries
    pub all : length (list_at places.lists 0) + length (list_at places.lists 1) ≡ length entries
    pub counted : spare ≡ length (list_at places.lists 1)
    pub places_room : length entries ≤ places.nodes
    pub owners_room : length entries ≤ owners.nodes
    pub few : length entries < 2 ^ 32
