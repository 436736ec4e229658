-- Links between nodes, and the lists that they form.
use Rattle.std.specs.Prelude.{◌≡◌, ℕ, zero, suc, ◌<◌, ◌≤◌, ◌==◌, nat_lt, if◌then◌else◌, List, [], ◌∷◌, length, map, Contains, Option, Some, None, slice_index_or, slice_set}
use Rattle.idx_links.specs.declared.links.Link.{Link}
use Rattle.idx_links.specs.declared.links.TheConstants.{NONE}
use Rattle.idx_links.specs.parts.Lists.{list_at}

-- the node of a number, unless it is the number of none
abbrev pub node_of : ℕ → Option ℕ
node_of number = if number == NONE then None else Some number

abbrev pub link_at : List Link → ℕ → Link
link_at links at = slice_index_or links at (record { next = NONE; prev = NONE })

-- ---- writes

abbrev pub with_prev : ℕ → ℕ → List Link → List Link
with_prev at prev links = slice_set links at (record { next = (link_at links at).next; prev = prev })

abbrev pub with_next : ℕ → ℕ → List Link → List Link
with_next at next links = slice_set links at (record { next = next; prev = (link_at links at).prev })

-- a node linked to both neighbours, and the one behind it back to it
abbrev pub between : ℕ → ℕ → ℕ → List Link → List Link
between id prev next links = with_prev next id (slice_set links id (record { next = next; prev = prev }))

-- both neighbours of a node linked to each other
abbrev pub links_without : ℕ → List Link → List Link
links_without id links =
    let link = link_at links id in
    let back = with_prev link.next link.prev links in
    if link.prev == NONE then back else with_next link.prev link.next back

-- the first node of the list, once this node is taken out
abbrev pub first_without : ℕ → List Link → ℕ → ℕ
first_without id links first = let link = link_at links id in if link.prev == NONE then link.next else first

-- ---- lists

-- from the node `at` on, which stands behind `before`, the links lead over these nodes, and back
abbrev pub IsChain : List Link → ℕ → ℕ → List ℕ → Type 0
IsChain links before at [] = at ≡ NONE
IsChain links before at (id ∷ ids) =
    (at ≡ id) × (id < length links) × ((link_at links id).prev ≡ before) × IsChain links id (link_at links id).next ids

-- the nodes from `at` on, as far as the fuel goes
abbrev pub list_from : List Link → ℕ → ℕ → List ℕ
list_from links zero at = []
list_from links (suc fuel) at =
    if nat_lt at (length links) then at ∷ list_from links fuel (link_at links at).next else []

abbrev pub lists_of : List ℕ → List Link → List (List ℕ)
lists_of heads links = map (list_from links (length links)) heads

-- the links from each head on form these lists, of which no two meet
pub record IsLinked (heads : List ℕ) (links : List Link) (lists : List (List ℕ)) : Type 0 where
  pub count : length lists ≡ length heads
  pub chain : (l : ℕ) → l < length heads → IsChain links NONE (slice_index_or heads l NONE) (list_at lists l)
  pub apart : (l m id : ℕ) → Contains (list_at lists l) id → Contains (list_at lists m) id → l ≡ m
  pub few : length links ≤ NONE
