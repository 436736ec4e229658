-- Nodes in one order, and each owner's nodes by age.
use Rattle.std.specs.Prelude.{◌≡◌, ◌≢◌, ℕ, ◌+◌, ◌-◌, ◌^◌, ◌<◌, ◌↔◌, ◌==◌, not, if◌then◌else◌, List, [], ◌∷◌, length, map, filter, find, AllPairs, Contains, Option, Some, None, IsSomeAnd, slice_get, slice_index_or, slice_set, refl}
use Rattle.std.specs.Coded.{Coded, code_by, coded×, coded_ℕ, coded_list}

pub record Node (T : Type 0) : Type 0 where
  pub id : ℕ
  pub owner : ℕ
  pub value : T

pub record Nodes (T : Type 0) : Type 0 where
  pub order : List (Node T)
  -- the ids of each owner's nodes, the newest first
  pub chains : List (List ℕ)
  -- for how many more nodes there is room
  pub spare : ℕ

abbrev pub node_code : {T : Type 0} → Coded T → Coded (Node T)
node_code {T} code =
    code_by (ℕ × (ℕ × T)) (coded× coded_ℕ (coded× coded_ℕ code))
    (λ n. (n.id, (n.owner, n.value)))
    (λ p. record { id = p.0; owner = p.1.0; value = p.1.1 })
    (λ _. refl)

abbrev pub nodes_code : {T : Type 0} → Coded T → Coded (Nodes T)
nodes_code {T} code =
    code_by (List (Node T) × (List (List ℕ) × ℕ)) (coded× (coded_list (node_code code)) (coded× (coded_list (coded_list coded_ℕ)) coded_ℕ))
    (λ n. (n.order, (n.chains, n.spare)))
    (λ p. record { order = p.0; chains = p.1.0; spare = p.1.1 })
    (λ _. refl)

-- ---- lists of things with an id

-- x right behind the one with this id
abbrev pub inserted_behind : {X : Type 0} → (X → ℕ) → ℕ → X → List X → List X
inserted_behind id_of at x [] = []
inserted_behind id_of at x (first ∷ rest) =
    if id_of first == at then first ∷ x ∷ rest else first ∷ inserted_behind id_of at x rest

-- x right behind the one with this id, or at the front
abbrev pub inserted_after : {X : Type 0} → (X → ℕ) → Option ℕ → X → List X → List X
inserted_after id_of None x xs = x ∷ xs
inserted_after id_of (Some at) x xs = inserted_behind id_of at x xs

-- those with another id
abbrev pub without : {X : Type 0} → (X → ℕ) → ℕ → List X → List X
without id_of id xs = filter (λ x. not (id_of x == id)) xs

-- what stands right behind an id
abbrev pub id_behind : ℕ → List ℕ → Option ℕ
id_behind id [] = None
id_behind id (first ∷ rest) = if first == id then slice_get rest 0 else id_behind id rest

-- ---- nodes

module _ {T : Type 0} where
  abbrev pub ids : List (Node T) → List ℕ
  ids order = map (λ node. node.id) order

  abbrev pub IsLive : Nodes T → ℕ → Type 0
  IsLive nodes id = Contains (ids nodes.order) id

  -- the node of an id
  abbrev pub node_at : Nodes T → ℕ → Option (Node T)
  node_at nodes id = find (λ node. node.id == id) nodes.order

  -- the ids of an owner's nodes, the newest first
  abbrev pub chain_of : Nodes T → ℕ → List ℕ
  chain_of nodes owner = slice_index_or nodes.chains owner []

  -- One node more, right behind a live one or at the front. It is its owner's newest.
  abbrev pub with_node : Option ℕ → Node T → Nodes T → Nodes T
  with_node at node nodes = record {
    order = inserted_after (λ other. other.id) at node nodes.order;
    chains = slice_set nodes.chains node.owner (node.id ∷ chain_of nodes node.owner);
    spare = nodes.spare - 1;
  }

  abbrev pub without_node : ℕ → Nodes T → Nodes T
  without_node id nodes = record {
    order = without (λ node. node.id) id nodes.order;
    chains = map (without (λ other. other) id) nodes.chains;
    spare = nodes.spare + 1;
  }

  abbrev pub without_owner : ℕ → Nodes T → Nodes T
  without_owner owner nodes = record {
    order = filter (λ node. not (node.owner == owner)) nodes.order;
    chains = slice_set nodes.chains owner [];
    spare = nodes.spare + length (chain_of nodes owner);
  }

  -- what is so of every pool
  pub record AreTied (nodes : Nodes T) : Type 0 where
    -- no two nodes have the same id
    pub distinct : AllPairs ◌≢◌ (ids nodes.order)
    -- an owner's chain has the ids of just its nodes
    pub chained : (owner id : ℕ) → Contains (chain_of nodes owner) id ↔ IsSomeAnd (node_at nodes id) (λ node. node.owner ≡ owner)
    -- and each of them once
    pub once : (owner : ℕ) → AllPairs ◌≢◌ (chain_of nodes owner)
    pub few : length nodes.order + nodes.spare < 2 ^ 32
