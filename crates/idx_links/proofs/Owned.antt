-- The nodes of one owner, as they go.
use Rattle.std.proofs.Common.{◌≡◌, ◌≢◌, ℕ, ◌+◌, ◌^◌, ◌<◌, inl, inr, Bool, true, false, not, ◌==◌, List, [], ◌∷◌, length, map, set, filter, Option, Some, None, refl, sym, ap, ap₂, ◌∙◌, subst, arith, AllPairs, set-set}
use Rattle.std.specs.Prelude.{Contains, find, IsSomeAnd, slice_get}
use Rattle.std.proofs.lemmas.Bool.{cases_eq, cases_Bool, eq-eqb, ne_eqb, eqb-true, not-false}
use Rattle.std.proofs.lemmas.List.{length-map, set-get_or}
use Rattle.fd_base.proofs.Members.{contains_first, contains_later, first_or_later, nothing_in, contains_at, map_in}
use Rattle.idx_links.specs.parts.Nodes.{Node, Nodes, AreTied, IsLive, ids, node_at, chain_of, without, without_node, without_owner}
use Rattle.idx_links.proofs.Edited.{less, length-less, first_apart, rest_once}
use Rattle.idx_links.proofs.Families.{less-set, list_at-less}

-- ---- filters

module _ {X : Type 0} where
  -- a filter that leaves out what another does
  filter_filter : (p q : X → Bool) (xs : List X) → ((x : X) → Contains xs x → q x ≡ false → p x ≡ false) → filter p (filter q xs) ≡ filter p xs
  filter_filter p q [] less = refl
  filter_filter p q (x ∷ xs) less =
      let rest = filter_filter p q xs (λ y there. less y (contains_later x y xs there)) in
      elim (cases_Bool (q x)) [
        | inl passes ↦ rw (passes, rest)
        | inr fails ↦ rw (fails, less x (contains_first x x xs refl) fails, rest)
      ]

  filter_all : (p : X → Bool) (xs : List X) → ((x : X) → Contains xs x → p x ≡ true) → filter p xs ≡ xs
  filter_all p [] all = refl
  filter_all p (x ∷ xs) all = rw (all x (contains_first x x xs refl), filter_all p xs (λ y there. all y (contains_later x y xs there)))

module _ {T : Type 0} where
  -- ---- nodes by their ids

  live_found : (id : ℕ) (P : Node T → Type 0) (order : List (Node T)) → IsSomeAnd (find (λ n. n.id == id) order) P → Contains (ids order) id
  live_found id P [] found = absurd found
  live_found id P (n ∷ order) found = elim (cases_eq n.id id) [
    | inl is ↦ contains_first n.id id (ids order) is
    | inr differ ↦ contains_later n.id id (ids order) (live_found id P order (rw (ne_eqb n.id id differ) at found))
  ]

  -- a node is what is found at its id
  pub found_itself : (n : Node T) (order : List (Node T)) → AllPairs ◌≢◌ (ids order) → Contains order n → find (λ other. other.id == n.id) order ≡ Some n
  found_itself n [] once there = absurd (nothing_in n there)
  found_itself n (first ∷ order) once there = elim (first_or_later first n order there) [
    | inl is ↦ rw (eq-eqb first.id n.id (ap (λ m. m.id) is)) (ap Some is)
    | inr later ↦
        let differ : first.id ≢ n.id = λ same. first_apart first.id (ids order) once (subst (Contains (ids order)) (sym same) (map_in (λ m. m.id) order n later)) in
        rw (ne_eqb first.id n.id differ) (found_itself n order (rest_once first.id (ids order) once) later)
  ]

  same_owner : (found : Option (Node T)) (a b : ℕ) → IsSomeAnd found (λ n. n.owner ≡ a) → IsSomeAnd found (λ n. n.owner ≡ b) → a ≡ b
  same_owner None a b p q = absurd p
  same_owner (Some n) a b p q = sym p ∙ q

  -- ---- one owner

  -- the nodes of other owners
  abbrev pub others : ℕ → List (Node T) → List (Node T)
  others owner order = filter (λ n. not (n.owner == owner)) order

  module _ (nodes : Nodes T) (tied : AreTied nodes) (owner : ℕ) where
    pub live_in_chain : (id : ℕ) → Contains (chain_of nodes owner) id → IsLive nodes id
    live_in_chain id there = live_found id (λ n. n.owner ≡ owner) nodes.order ((tied.chained owner id).0 there)

    pub some_order : (id : ℕ) → Contains (chain_of nodes owner) id → 0 < length nodes.order
    some_order id there = let live = live_in_chain id there in omega (arith, live.1, length-map nodes.order (λ n. n.id))

    owner_of_id : (id : ℕ) (n : Node T) → Contains (chain_of nodes owner) id → Contains nodes.order n → n.id ≡ id → n.owner ≡ owner
    owner_of_id id n there listed is =
        let found = (tied.chained owner id).0 there in
        let here : node_at nodes id ≡ Some n = subst (λ x. node_at nodes x ≡ Some n) is (found_itself n nodes.order tied.distinct listed) in
        rw here at found

    pub others-without : (id : ℕ) → Contains (chain_of nodes owner) id → others owner (without (λ n. n.id) id nodes.order) ≡ others owner nodes.order
    others-without id there =
        filter_filter (λ n. not (n.owner == owner)) (λ n. not (n.id == id)) nodes.order
        (λ n listed fails. rw (eq-eqb n.owner owner (owner_of_id id n there listed (eqb-true n.id id (not-false (n.id == id) fails)))))

    -- an owner without nodes
    pub others-all : chain_of nodes owner ≡ [] → others owner nodes.order ≡ nodes.order
    others-all none =
        filter_all (λ n. not (n.owner == owner)) nodes.order
        (λ n listed. rw (ne_eqb n.owner owner (λ is.
        let found : IsSomeAnd (node_at nodes n.id) (λ m. m.owner ≡ owner) = rw (found_itself n nodes.order tied.distinct listed) is in
        nothing_in n.id (rw none at ((tied.chained owner n.id).1 found)))))

    -- an owner's chain without one of its ids
    pub chains-without : (id : ℕ) → Contains (chain_of nodes owner) id → map (less id) nodes.chains ≡ set nodes.chains owner (less id (chain_of nodes owner))
    chains-without id there =
        sym (less-set nodes.chains owner id (λ m in_m. same_owner (node_at nodes id) owner m ((tied.chained owner id).0 there) ((tied.chained m id).0 in_m)))

  ids-without : (id : ℕ) (order : List (Node T)) → ids (without (λ n. n.id) id order) ≡ less id (ids order)
  ids-without id [] = refl
  ids-without id (n ∷ order) = elim (cases_eq n.id id) [
    | inl is ↦ rw (eq-eqb n.id id is, ids-without id order)
    | inr differ ↦ rw (ne_eqb n.id id differ, ids-without id order)
  ]

  length-without : (id : ℕ) (order : List (Node T)) → AllPairs ◌≢◌ (ids order) → Contains (ids order) id → length (without (λ n. n.id) id order) + 1 ≡ length order
  length-without id order once there =
      let fewer = without (λ (n : Node T). n.id) id order in
      omega (arith, length-less id (ids order) once there, ap length (ids-without id order), length-map fewer (λ n. n.id), length-map order (λ n. n.id))

  -- ---- the loop that removes an owner's nodes

  -- some of an owner's nodes went, and no others
  pub record HasLeft (owner : ℕ) (old now : Nodes T) (count : ℕ) : Type 0 where
    pub chains : now.chains ≡ set old.chains owner (chain_of now owner)
    pub order : others owner now.order ≡ others owner old.order
    pub spare : now.spare + length (chain_of now owner) ≡ old.spare + length (chain_of old owner)
    pub counted : count + length (chain_of now owner) ≡ length (chain_of old owner)
    pub total : length now.order + now.spare ≡ length old.order + old.spare

  pub HasLeft-none : (owner : ℕ) (old : Nodes T) → HasLeft owner old old 0
  HasLeft-none owner old = record {
    chains = sym (set-get_or old.chains owner []);
    order = refl;
    spare = refl;
    counted = omega arith;
    total = refl;
  }

  module _ (owner : ℕ) (old now : Nodes T) (count id : ℕ) (left : HasLeft owner old now count) (tied : AreTied now) (first : slice_get (chain_of now owner) 0 ≡ Some id) where
    there : Contains (chain_of now owner) id
    there = contains_at (chain_of now owner) 0 id first

    pub left_live : IsLive now id
    left_live = live_in_chain now tied owner id there

    chains_now : map (less id) now.chains ≡ set now.chains owner (less id (chain_of now owner))
    chains_now = chains-without now tied owner id there

    chain_now : chain_of (without_node id now) owner ≡ less id (chain_of now owner)
    chain_now = list_at-less now.chains id owner

    fewer : length (chain_of (without_node id now) owner) + 1 ≡ length (chain_of now owner)
    fewer = omega (arith, ap length chain_now, length-less id (chain_of now owner) (tied.once owner) there)

    pub left_smaller : length (chain_of (without_node id now) owner) < length (chain_of now owner)
    left_smaller = omega (arith, fewer)

    pub left_fits : count + 1 < 2 ^ 32
    left_fits = omega (arith, left.spare, left.counted, fewer, tied.few, some_order now tied owner id there)

    pub HasLeft-one : HasLeft owner old (without_node id now) (count + 1)
    HasLeft-one = record {
      chains =
          chains_now
          ∙ ap (λ (cs : List (List ℕ)). set cs owner (less id (chain_of now owner))) left.chains
          ∙ set-set old.chains owner (chain_of now owner) (less id (chain_of now owner))
          ∙ ap (set old.chains owner) (sym chain_now);
      order = others-without now tied owner id there ∙ left.order;
      spare = omega (arith, fewer, left.spare);
      counted = omega (arith, fewer, left.counted);
      total = omega (arith, length-without id now.order tied.distinct left_live, left.total);
    }

  -- once none is left
  pub HasLeft-all : (owner : ℕ) (old now : Nodes T) (count : ℕ) → HasLeft owner old now count → AreTied now → slice_get (chain_of now owner) 0 ≡ None
      → (count ≡ length (chain_of old owner)) × (now ≡ without_owner owner old)
  HasLeft-all owner old now count left tied none =
      let empty : chain_of now owner ≡ [] = nothing_first (chain_of now owner) none in
      let build : List (Node T) → List (List ℕ) → ℕ → Nodes T = λ o c s. record { order = o; chains = c; spare = s } in
      let order : now.order ≡ others owner old.order = sym (others-all now tied owner empty) ∙ left.order in
      let chains : now.chains ≡ set old.chains owner [] = left.chains ∙ ap (set old.chains owner) empty in
      let spare : now.spare ≡ old.spare + length (chain_of old owner) = omega (arith, left.spare, ap length empty) in
      (omega (arith, left.counted, ap length empty), ap₂ (λ o c. build o c now.spare) order chains ∙ ap (build (others owner old.order) (set old.chains owner [])) spare)
    where
      nothing_first : (xs : List ℕ) → slice_get xs 0 ≡ None → xs ≡ []
      nothing_first [] is = refl
      nothing_first (x ∷ xs) is = absurd (cc)
