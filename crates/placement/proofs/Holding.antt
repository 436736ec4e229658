-- Held ranges as nodes of a pool: a new one goes behind the last that starts below it.
use Rattle.std.proofs.Common.{◌≡◌, ◌≢◌, ℕ, ◌+◌, ◌<◌, ◌≤◌, inl, inr, not, ◌==◌, List, [], ◌∷◌, ◌++◌, length, map, filter, All, Option, Some, None, refl, sym, ap, ◌∙◌, subst, arith, append_assoc, AllPairs}
use Rattle.std.specs.Prelude.{option_map, slice_get}
use Rattle.std.proofs.lemmas.Bool.{cases_Bool, cases_lt, lt-ltb, le-ltb}
use Rattle.std.proofs.lemmas.List.{map-append}
use Rattle.std.proofs.lemmas.List.Elements.{All-nil, All-head, All-tail, All-push}
use Rattle.idx_links.specs.parts.Nodes.{Node, Nodes, AreTied, IsLive, ids, id_behind, inserted_after, inserted_behind, node_at}
use Rattle.idx_links.proofs.Walked.{from_node, from_first, IsStep, IsStep-live, read_step, inserted_here}
use Rattle.placement.specs.declared.extents.Extent.{Extent}
use Rattle.placement.specs.declared.item.Held.{Held}
use Rattle.placement.specs.declared.item.Item.{Item}
use Rattle.placement.specs.Placed.{range_at}
use Rattle.placement.specs.Space.{held_with, all_held}
use Rattle.placement.specs.parts.Extents.{range_of, ranges_of}

pub ranges_others : (owner : ℕ) (order : List (Node Extent)) → map range_of (filter (λ node. not (node.owner == owner)) order) ≡ filter (λ r. not (r.owner == owner)) (map range_of order)
ranges_others owner [] = refl
ranges_others owner (node ∷ order) = elim (cases_Bool (node.owner == owner)) [
  | inl is ↦ rw (is, ranges_others owner order)
  | inr differs ↦ rw (differs, ranges_others owner order)
]

-- ---- how many are held

length-held_with : (range : Held) (held : List Held) → length (held_with range held) ≡ length held + 1
length-held_with range [] = omega arith
length-held_with range (first ∷ held) = elim (cases_lt first.start range.start) [
  | inl below ↦ rw (lt-ltb first.start range.start below) (omega (arith, length-held_with range held))
  | inr above ↦ rw (le-ltb first.start range.start above) (omega arith)
]

pub length-all_held : (items : List Item) (addrs : List ℕ) (held : List Held) → length addrs ≡ length items → length (all_held items addrs held) ≡ length held + length items
length-all_held [] addrs held same = omega arith
length-all_held (item ∷ items) [] held same = absurd (omega arith)
length-all_held (item ∷ items) (at ∷ addrs) held same =
    omega (arith, length-all_held items addrs (held_with (range_at item at) held) (omega arith), length-held_with (range_at item at) held)

-- ---- the place of a new range

held_behind : (range : Held) (front rest : List Held) → All (λ r. r.start < range.start) front → held_with range (front ++ rest) ≡ front ++ held_with range rest
held_behind range [] rest below = refl
held_behind range (first ∷ front) rest below =
    rw (lt-ltb first.start range.start (All-head (λ r. r.start < range.start) first front below), held_behind range front rest (All-tail (λ r. r.start < range.start) first front below))

pub held_here : (range first : Held) (held : List Held) → range.start ≤ first.start → held_with range (first ∷ held) ≡ range ∷ first ∷ held
held_here range first held le = rw (le-ltb first.start range.start le)

-- the nodes before next start below, and last is the last of them
pub record StartBelow (order : List (Node Extent)) (start : ℕ) (last next : Option ℕ) : Type 0 where
  pub front : List (Node Extent)
  pub whole : order ≡ front ++ from_node next order
  pub below : All (λ r. r.start < start) (map range_of front)
  pub after : (new : Node Extent) → inserted_after (λ other. other.id) last new order ≡ front ++ new ∷ from_node next order

pub StartBelow-none : (order : List (Node Extent)) (start : ℕ) → StartBelow order start None (slice_get (ids order) 0)
StartBelow-none order start = record {
  front = [];
  whole = sym (from_first order);
  below = All-nil (λ r. r.start < start);
  after = λ new. ap (λ nodes. new ∷ nodes) (sym (from_first order));
}

module _ (nodes : Nodes Extent) (tied : AreTied nodes) (id : ℕ) (live : IsLive nodes id) (value : Extent) (read : option_map (λ node. node.value) (node_at nodes id) ≡ Some value) where
  step : IsStep nodes.order id
  step = IsStep-live id nodes.order tied.distinct live

  value_read : step.node.value ≡ value
  value_read = read_step (λ node. node.value) nodes.order id value step read

  pub StartBelow-one : (start : ℕ) (last : Option ℕ) → value.start < start → StartBelow nodes.order start last (Some id) → StartBelow nodes.order start (Some id) (id_behind id (ids nodes.order))
  StartBelow-one start last below passed =
      let node = step.node in
      let rest = from_node (id_behind id (ids nodes.order)) nodes.order in
      let whole : nodes.order ≡ passed.front ++ node ∷ rest = passed.whole ∙ ap (λ later. passed.front ++ later) step.rest in
      let once : AllPairs ◌≢◌ (ids (passed.front ++ node ∷ rest)) = subst (λ (order : List (Node Extent)). AllPairs ◌≢◌ (ids order)) whole tied.distinct in
      let here : node.value.start < start = omega (arith, ap (λ (e : Extent). e.start) value_read) in
      record {
        front = passed.front ++ node ∷ [];
        whole = whole ∙ sym (append_assoc passed.front (node ∷ []) rest);
        below = rw (map-append range_of passed.front (node ∷ [])) (All-push (λ r. r.start < start) (map range_of passed.front) (range_of node) passed.below here);
        after = λ new.
            ap (inserted_behind (λ other. other.id) id new) whole
            ∙ inserted_here id new node passed.front rest step.is once
            ∙ sym (append_assoc passed.front (node ∷ []) (new ∷ rest));
      }

place_of_rest : (order : List (Node Extent)) (range : Held) (last next : Option ℕ) → StartBelow order range.start last next
    → held_with range (map range_of (from_node next order)) ≡ range ∷ map range_of (from_node next order)
    → (new : Node Extent) → range_of new ≡ range → map range_of (inserted_after (λ other. other.id) last new order) ≡ held_with range (map range_of order)
place_of_rest order range last next passed first new is =
    let rest = from_node next order in
    let held = map range_of passed.front in
    let left : map range_of (inserted_after (λ other. other.id) last new order) ≡ held ++ range ∷ map range_of rest =
    ap (map range_of) (passed.after new) ∙ map-append range_of passed.front (new ∷ rest) ∙ ap (λ r. held ++ r ∷ map range_of rest) is in
    let right : held_with range (map range_of order) ≡ held ++ range ∷ map range_of rest =
    ap (held_with range) (ap (map range_of) passed.whole ∙ map-append range_of passed.front rest) ∙ held_behind range held (map range_of rest) passed.below ∙ ap (λ later. held ++ later) first in
    left ∙ sym right

-- before a node that doesn't start below
pub place_before : (nodes : Nodes Extent) (range : Held) (last : Option ℕ) (id : ℕ) (value : Extent) → AreTied nodes → IsLive nodes id → option_map (λ node. node.value) (node_at nodes id) ≡ Some value
    → range.start ≤ value.start → StartBelow nodes.order range.start last (Some id)
    → (new : Node Extent) → range_of new ≡ range → map range_of (inserted_after (λ other. other.id) last new nodes.order) ≡ held_with range (ranges_of nodes)
place_before nodes range last id value tied live read above passed =
    let s = step nodes tied id live value read in
    let here : range.start ≤ s.node.value.start = omega (arith, ap (λ (e : Extent). e.start) (value_read nodes tied id live value read)) in
    place_of_rest nodes.order range last (Some id) passed (rw s.rest (held_here range (range_of s.node) _ here))

-- or behind all
pub place_at_end : (nodes : Nodes Extent) (range : Held) (last : Option ℕ) → StartBelow nodes.order range.start last None
    → (new : Node Extent) → range_of new ≡ range → map range_of (inserted_after (λ other. other.id) last new nodes.order) ≡ held_with range (ranges_of nodes)
place_at_end nodes range last passed = place_of_rest nodes.order range last None passed refl

-- ---- a walk over all

-- the ranges so far, and those that the walk still comes to
abbrev pub IsListed : Nodes Extent → Option ℕ → List Held → Type 0
IsListed nodes next list = ranges_of nodes ≡ list ++ map range_of (from_node next nodes.order)

pub IsListed-none : (nodes : Nodes Extent) → IsListed nodes (slice_get (ids nodes.order) 0) []
IsListed-none nodes = ap (map range_of) (sym (from_first nodes.order))

pub IsListed-one : (nodes : Nodes Extent) (tied : AreTied nodes) (id : ℕ) (live : IsLive nodes id) (value : Extent) (owner : ℕ) (list : List Held)
    → option_map (λ node. node.value) (node_at nodes id) ≡ Some value → option_map (λ node. node.owner) (node_at nodes id) ≡ Some owner
    → IsListed nodes (Some id) list → IsListed nodes (id_behind id (ids nodes.order)) (list ++ record { owner = owner; start = value.start; len = value.len } ∷ [])
IsListed-one nodes tied id live value owner list read read_owner listed =
    let s = step nodes tied id live value read in
    let rest = map range_of (from_node (id_behind id (ids nodes.order)) nodes.order) in
    let made : ℕ → Extent → Held = λ o e. record { owner = o; start = e.start; len = e.len } in
    let same : range_of s.node ≡ made owner value =
    ap (λ o. made o s.node.value) (read_step (λ node. node.owner) nodes.order id owner s read_owner) ∙ ap (made owner) (value_read nodes tied id live value read) in
    listed ∙ ap (λ later. list ++ map range_of later) s.rest ∙ ap (λ r. list ++ r ∷ rest) same ∙ sym (append_assoc list (made owner value ∷ []) rest)

-- the rest of a walk is shorter
pub fewer_behind : (nodes : Nodes Extent) (id : ℕ) → AreTied nodes → IsLive nodes id
    → length (from_node (id_behind id (ids nodes.order)) nodes.order) < length (from_node (Some id) nodes.order)
fewer_behind nodes id tied live = omega (arith, ap length (IsStep-live id nodes.order tied.distinct live).rest)
