-- A walk over all entries that takes those of a module out.
use Rattle.std.proofs.Common.{◌≡◌, ◌≢◌, ℕ, zero, suc, ◌+◌, ◌<◌, ◌==◌, not, inl, inr, Bool, true, false, cond, ◌||◌, List, [], ◌∷◌, ◌++◌, length, get_or, replicate, filter, Option, Some, None, refl, sym, ap, ap₂, ◌∙◌, subst, arith, AllPairs, append_assoc, append-nil, length-append}
use Rattle.std.specs.Prelude.{Contains, slice_get, option_map}
use Rattle.std.proofs.lemmas.Bool.{cases_eq, cases_Bool, eq-eqb, ne_eqb}
use Rattle.std.proofs.lemmas.List.{length-map, map-append}
use Rattle.std.proofs.lemmas.List.Elements.{filter-append, Contains-append_right}
use Rattle.std.proofs.lemmas.List.Kept.{AllPairs-filter}
use Rattle.std.proofs.lemmas.Option.{same_Some}
use Rattle.fd_base.proofs.Members.{contains_first, contains_later, in_filter, map_in}
use Rattle.elf_model.specs.declared.func.Func.{Func}
use Rattle.idx_links.specs.parts.Nodes.{Node, Nodes, AreTied, ids, id_behind, node_at, without, without_node}
use Rattle.idx_links.proofs.Edited.{less, first_apart, rest_once}
use Rattle.idx_links.proofs.Families.{list_at-less}
use Rattle.idx_links.proofs.Owned.{found_itself}
use Rattle.idx_links.proofs.Walked.{from_node}
use Rattle.func_desc.specs.Pool.{slot_addr}
use Rattle.func_desc.specs.parts.Buckets.{AreBucketed, in_bucket, values}
use Rattle.func_desc.proofs.Values.{or_swap}
use Rattle.func_desc.specs.parts.Inside.{is_of_another, is_entered, AreMarked}

abbrev Entry : Type 0
Entry = Node (Func × ℕ)

abbrev stays_in : ℕ → Entry → Bool
stays_in number node = is_of_another number node.value

-- the nodes that stay
abbrev pub kept_of : ℕ → List Entry → List Entry
kept_of number order = filter (stays_in number) order

pub values-kept : (number : ℕ) (order : List Entry) → values (kept_of number order) ≡ filter (is_of_another number) (values order)
values-kept number [] = refl
values-kept number (node ∷ order) = elim (cases_Bool (stays_in number node)) [
  | inl stays ↦ rw stays (ap (λ l. node.value ∷ l) (values-kept number order))
  | inr goes ↦ rw goes (values-kept number order)
]

-- of the nodes up to `at` those of the module went, and just the slots of the others are marked
pub record IsLeft (number base : ℕ) (old now : Nodes (Func × ℕ)) (marks : List Bool) (at : Option ℕ) : Type 0 where
  pub front : List Entry
  pub rest : List Entry
  pub was : old.order ≡ front ++ rest
  pub is : now.order ≡ kept_of number front ++ rest
  pub next : at ≡ slice_get (ids rest) 0
  pub once : AllPairs ◌≢◌ (ids now.order)
  pub sum : now.spare + length now.order ≡ old.spare + length old.order
  pub marked : AreMarked base (values (kept_of number front)) marks

-- ---- a node that goes

without_map : (id : ℕ) (order : List Entry) → ids (without (λ node. node.id) id order) ≡ less id (ids order)
without_map id [] = refl
without_map id (node ∷ order) = elim (cases_eq node.id id) [
  | inl is ↦ rw (eq-eqb node.id id is) (without_map id order)
  | inr differ ↦ rw (ne_eqb node.id id differ) (ap (λ l. node.id ∷ l) (without_map id order))
]

filters_swap : (p q : Entry → Bool) (order : List Entry) → filter p (filter q order) ≡ filter q (filter p order)
filters_swap p q [] = refl
filters_swap p q (node ∷ order) = elim (cases_Bool (p node)) [
  | inl passes ↦ elim (cases_Bool (q node)) [
    | inl both ↦ rw (passes, both) (rw passes (ap (λ l. node ∷ l) (filters_swap p q order)))
    | inr not_q ↦ rw (passes, not_q) (filters_swap p q order)
  ]
  | inr fails ↦ elim (cases_Bool (q node)) [
    | inl only_q ↦ rw (fails, only_q) (rw fails (filters_swap p q order))
    | inr neither ↦ rw (fails, neither) (filters_swap p q order)
  ]
]

pub bucketed-without : (buckets : ℕ) (nodes : Nodes (Func × ℕ)) (id : ℕ) → AreBucketed buckets nodes → AreBucketed buckets (without_node id nodes)
bucketed-without buckets nodes id kept = record {
  some = kept.some;
  count = length-map nodes.chains (less id) ∙ kept.count;
  placed = λ node there. kept.placed node (in_filter (λ n. not (n.id == id)) nodes.order node there).0;
  chained = λ bucket.
      list_at-less nodes.chains id bucket ∙ ap (less id) (kept.chained bucket)
      ∙ sym (without_map id (in_bucket bucket nodes.order))
      ∙ ap ids (filters_swap (λ n. not (n.id == id)) (λ n. n.owner == bucket) nodes.order);
}

-- ---- lists of nodes in two parts

first_other : (first node : Entry) (front rest : List Entry) → AllPairs ◌≢◌ (ids (first ∷ front ++ node ∷ rest)) → first.id ≢ node.id
first_other first node front rest once same =
    let behind = front ++ node ∷ rest in
    first_apart first.id (ids behind) once (subst (Contains (ids behind)) (sym same) (map_in (λ n. n.id) behind node (Contains-append_right front (node ∷ rest) node (contains_first node node rest refl))))

-- what stands behind the first of the second part
behind_first : (node : Entry) (front rest : List Entry) → AllPairs ◌≢◌ (ids (front ++ node ∷ rest)) → id_behind node.id (ids (front ++ node ∷ rest)) ≡ slice_get (ids rest) 0
behind_first node [] rest once = rw (eq-eqb node.id node.id refl)
behind_first node (first ∷ front) rest once =
    let behind = front ++ node ∷ rest in
    rw (ne_eqb first.id node.id (first_other first node front rest once)) (behind_first node front rest (rest_once first.id (ids behind) once))

none_without : (id : ℕ) (order : List Entry) → ¬ Contains (ids order) id → without (λ node. node.id) id order ≡ order
none_without id [] off = refl
none_without id (node ∷ order) off =
    let differ : node.id ≢ id = λ is. off (contains_first node.id id (ids order) is) in
    rw (ne_eqb node.id id differ) (ap (λ l. node ∷ l) (none_without id order (λ there. off (contains_later node.id id (ids order) there))))

without_first : (node : Entry) (front rest : List Entry) → AllPairs ◌≢◌ (ids (front ++ node ∷ rest)) → without (λ n. n.id) node.id (front ++ node ∷ rest) ≡ front ++ rest
without_first node [] rest once = rw (eq-eqb node.id node.id refl) (none_without node.id rest (first_apart node.id (ids rest) once))
without_first node (first ∷ front) rest once =
    let behind = front ++ node ∷ rest in
    rw (ne_eqb first.id node.id (first_other first node front rest once)) (ap (λ l. first ∷ l) (without_first node front rest (rest_once first.id (ids behind) once)))

-- the walk is at the second part
from_rest : (front rest : List Entry) → AllPairs ◌≢◌ (ids (front ++ rest)) → from_node (slice_get (ids rest) 0) (front ++ rest) ≡ rest
from_rest front [] once = refl
from_rest [] (node ∷ rest) once = rw (eq-eqb node.id node.id refl)
from_rest (first ∷ front) (node ∷ rest) once =
    rw (ne_eqb first.id node.id (first_other first node front rest once)) (from_rest front (node ∷ rest) (rest_once first.id (ids (front ++ node ∷ rest)) once))

-- ---- steps of the walk

pub IsLeft-none : (number base : ℕ) (nodes : Nodes (Func × ℕ)) (marks : List Bool) (n : ℕ) (at : Option ℕ) → AreTied nodes → marks ≡ replicate n false → at ≡ slice_get (ids nodes.order) 0 → IsLeft number base nodes nodes marks at
IsLeft-none number base nodes marks n at tied none first = record {
  front = [];
  rest = nodes.order;
  was = refl;
  is = refl;
  next = first;
  once = tied.distinct;
  sum = refl;
  marked = λ i lt. ap (λ m. get_or m i false) none ∙ unmarked n i;
}
  where
    unmarked : (n i : ℕ) → get_or (replicate n false) i false ≡ false
    unmarked zero i = refl
    unmarked (suc n) zero = refl
    unmarked (suc n) (suc i) = unmarked n i

-- the walk is at a node
pub record IsHere (number base : ℕ) (old now : Nodes (Func × ℕ)) (marks : List Bool) (id : ℕ) : Type 0 where
  node : Entry
  front : List Entry
  behind : List Entry
  was : old.order ≡ front ++ node ∷ behind
  is : now.order ≡ kept_of number front ++ node ∷ behind
  id_is : node.id ≡ id
  once : AllPairs ◌≢◌ (ids now.order)
  sum : now.spare + length now.order ≡ old.spare + length old.order
  marked : AreMarked base (values (kept_of number front)) marks

pub here : (number base : ℕ) (old now : Nodes (Func × ℕ)) (marks : List Bool) (at : Option ℕ) (id : ℕ) → at ≡ Some id → IsLeft number base old now marks at → IsHere number base old now marks id
here number base old now marks at id at_is left = go left.rest left.was left.is (sym at_is ∙ left.next)
  where
    go : (rest : List Entry) → old.order ≡ left.front ++ rest → now.order ≡ kept_of number left.front ++ rest → Some id ≡ slice_get (ids rest) 0 → IsHere number base old now marks id
    go [] was is next = cc
    go (node ∷ behind) was is next = record {
      node = node;
      front = left.front;
      behind = behind;
      was = was;
      is = is;
      id_is = sym (same_Some id node.id next);
      once = left.once;
      sum = left.sum;
      marked = left.marked;
    }

is_entered-push : (es : List (Func × ℕ)) (e : Func × ℕ) (x : ℕ) → is_entered (es ++ e ∷ []) x ≡ (e.1 == x || is_entered es x)
is_entered-push [] e x = refl
is_entered-push (first ∷ es) e x = ap (λ b. first.1 == x || b) (is_entered-push es e x) ∙ or_swap (e.1 == x) (first.1 == x) (is_entered es x)

module _ (number base : ℕ) (old now : Nodes (Func × ℕ)) (marks : List Bool) (id : ℕ) (h : IsHere number base old now marks id) where
  abbrev both : List Entry
  both = kept_of number h.front ++ h.node ∷ h.behind

  once_both : AllPairs ◌≢◌ (ids both)
  once_both = subst (λ o. AllPairs ◌≢◌ (ids o)) h.is h.once

  in_both : Contains both h.node
  in_both = Contains-append_right (kept_of number h.front) (h.node ∷ h.behind) h.node (contains_first h.node h.node h.behind refl)

  pub left_live : Contains (ids now.order) id
  left_live = subst (λ o. Contains (ids o) id) (sym h.is) (subst (Contains (ids both)) h.id_is (map_in (λ n. n.id) both h.node in_both))

  found : node_at now id ≡ Some h.node
  found = subst (λ x. node_at now x ≡ Some h.node) h.id_is (found_itself h.node now.order h.once (subst (λ o. Contains o h.node) (sym h.is) in_both))

  module _ (next : Option ℕ) (behind : next ≡ id_behind id (ids now.order)) (value : Func × ℕ) (is_value : option_map (λ n. n.value) (node_at now id) ≡ Some value) where
    next_is : next ≡ slice_get (ids h.behind) 0
    next_is = behind ∙ ap₂ id_behind (sym h.id_is) (ap ids h.is) ∙ behind_first h.node (kept_of number h.front) h.behind once_both

    held : h.node.value ≡ value
    held = same_Some h.node.value value (ap (option_map (λ n. n.value)) (sym found) ∙ is_value)

    split : (xs : List Entry) → xs ++ h.node ∷ h.behind ≡ (xs ++ h.node ∷ []) ++ h.behind
    split xs = sym (append_assoc xs (h.node ∷ []) h.behind)

    from_here : from_node (Some id) now.order ≡ h.node ∷ h.behind
    from_here = ap₂ (λ i o. from_node (Some i) o) (sym h.id_is) h.is ∙ from_rest (kept_of number h.front) (h.node ∷ h.behind) once_both

    kept_more : kept_of number (h.front ++ h.node ∷ []) ≡ kept_of number h.front ++ kept_of number (h.node ∷ [])
    kept_more = filter-append (stays_in number) h.front (h.node ∷ [])

    -- the node is of the module, and goes
    module _ (own : value.0.module ≡ number) where
      order_less : (without_node id now).order ≡ kept_of number h.front ++ h.behind
      order_less = ap₂ (λ i o. without (λ n. n.id) i o) (sym h.id_is) h.is ∙ without_first h.node (kept_of number h.front) h.behind once_both

      goes : stays_in number h.node ≡ false
      goes = ap (λ v. is_of_another number v) held ∙ ap not (eq-eqb value.0.module number own)

      kept_same : kept_of number (h.front ++ h.node ∷ []) ≡ kept_of number h.front
      kept_same = kept_more ∙ ap (λ b. kept_of number h.front ++ cond b (h.node ∷ []) []) goes ∙ append-nil (kept_of number h.front)

      once_less : AllPairs ◌≢◌ (ids (without_node id now).order)
      once_less = subst (AllPairs ◌≢◌) (sym (without_map id now.order)) (AllPairs-filter ◌≢◌ (λ x. not (x == id)) (ids now.order) h.once)

      pub IsLeft-goes : IsLeft number base old (without_node id now) marks next
      IsLeft-goes = record {
        front = h.front ++ h.node ∷ [];
        rest = h.behind;
        was = h.was ∙ split h.front;
        is = order_less ∙ ap (λ l. l ++ h.behind) (sym kept_same);
        next = next_is;
        once = once_less;
        sum = omega (arith, h.sum, ap length order_less, ap length h.is, length-append (kept_of number h.front) h.behind, length-append (kept_of number h.front) (h.node ∷ h.behind));
        marked = subst (λ l. AreMarked base (values l) marks) (sym kept_same) h.marked;
      }

      pub smaller_goes : length (from_node next (without_node id now).order) < length (from_node (Some id) now.order)
      smaller_goes =
          let later : from_node next (without_node id now).order ≡ h.behind = ap₂ from_node next_is order_less ∙ from_rest (kept_of number h.front) h.behind (subst (λ o. AllPairs ◌≢◌ (ids o)) order_less once_less) in
          omega (arith, ap length later, ap length from_here)

    -- the node is of another module, and its slot is marked
    module _ (other : value.0.module ≢ number) where
      stays : stays_in number h.node ≡ true
      stays = ap (λ v. is_of_another number v) held ∙ ap not (ne_eqb value.0.module number other)

      kept_longer : kept_of number (h.front ++ h.node ∷ []) ≡ kept_of number h.front ++ h.node ∷ []
      kept_longer = kept_more ∙ ap (λ b. kept_of number h.front ++ cond b (h.node ∷ []) []) stays

      order_same : now.order ≡ kept_of number (h.front ++ h.node ∷ []) ++ h.behind
      order_same = h.is ∙ split (kept_of number h.front) ∙ ap (λ l. l ++ h.behind) (sym kept_longer)

      pub smaller_stays : length (from_node next now.order) < length (from_node (Some id) now.order)
      smaller_stays =
          let later : from_node next now.order ≡ h.behind = ap₂ from_node next_is order_same ∙ from_rest (kept_of number (h.front ++ h.node ∷ [])) h.behind (subst (λ o. AllPairs ◌≢◌ (ids o)) order_same h.once) in
          omega (arith, ap length later, ap length from_here)

      pub IsLeft-stays : (marks' : List Bool) → length marks' ≡ length marks → ((i : ℕ) → i < length marks → get_or marks' i false ≡ (value.1 == slot_addr base i || get_or marks i false)) → IsLeft number base old now marks' next
      IsLeft-stays marks' count marked = record {
        front = h.front ++ h.node ∷ [];
        rest = h.behind;
        was = h.was ∙ split h.front;
        is = order_same;
        next = next_is;
        once = h.once;
        sum = h.sum;
        marked = λ i lt.
            let within : i < length marks = omega (arith, lt, count) in
            marked i within ∙ ap₂ (λ v b. v.1 == slot_addr base i || b) (sym held) (h.marked i within)
            ∙ sym (ap (λ l. is_entered l (slot_addr base i)) (ap values kept_longer ∙ map-append (λ n. n.value) (kept_of number h.front) (h.node ∷ []))
            ∙ is_entered-push (values (kept_of number h.front)) h.node.value (slot_addr base i));
      }

-- no node is behind the walk
module _ (number base : ℕ) (old now : Nodes (Func × ℕ)) (marks : List Bool) (left : IsLeft number base old now marks None) where
  all_kept : now.order ≡ kept_of number old.order
  all_kept = go left.rest left.was left.is left.next
    where
      go : (rest : List Entry) → old.order ≡ left.front ++ rest → now.order ≡ kept_of number left.front ++ rest → None ≡ slice_get (ids rest) 0 → now.order ≡ kept_of number old.order
      go [] was is next = is ∙ append-nil (kept_of number left.front) ∙ ap (kept_of number) (sym (was ∙ append-nil left.front))
      go (node ∷ rest) was is next = cc

  pub left_values : values now.order ≡ filter (is_of_another number) (values old.order)
  left_values = ap values all_kept ∙ values-kept number old.order

  pub left_marked : AreMarked base (values now.order) marks
  left_marked = go left.rest left.is left.next
    where
      go : (rest : List Entry) → now.order ≡ kept_of number left.front ++ rest → None ≡ slice_get (ids rest) 0 → AreMarked base (values now.order) marks
      go [] is next = subst (λ l. AreMarked base (values l) marks) (sym (is ∙ append-nil (kept_of number left.front))) left.marked
      go (node ∷ rest) is next = cc
