-- Walking the nodes of a pool in order.
use Rattle.std.proofs.Common.{◌≡◌, ◌≢◌, ℕ, ◌==◌, if◌then◌else◌, inl, inr, List, [], ◌∷◌, ◌++◌, Option, Some, None, IfSome, refl, sym, ap, ◌∙◌, subst, AllPairs}
use Rattle.std.specs.Prelude.{Contains, find, slice_get, option_map}
use Rattle.std.proofs.lemmas.Bool.{cases_eq, eq-eqb, ne_eqb}
use Rattle.std.proofs.lemmas.List.Elements.{Contains-append_right}
use Rattle.std.proofs.lemmas.Option.{same_Some}
use Rattle.fd_base.proofs.Members.{contains_first, first_or_later, nothing_in, map_in}
use Rattle.idx_links.specs.parts.Nodes.{Node, ids, id_behind, inserted_behind}
use Rattle.idx_links.proofs.Edited.{first_apart, rest_once, first_in, behind_in}

module _ {T : Type 0} where
  -- the nodes from the one of this id on
  abbrev pub from_id : ℕ → List (Node T) → List (Node T)
  from_id id [] = []
  from_id id (node ∷ order) = if node.id == id then node ∷ order else from_id id order

  -- those that a walk still comes to
  abbrev pub from_node : Option ℕ → List (Node T) → List (Node T)
  from_node None order = []
  from_node (Some id) order = from_id id order

  pub from_first : (order : List (Node T)) → from_node (slice_get (ids order) 0) order ≡ order
  from_first [] = refl
  from_first (node ∷ order) = rw (eq-eqb node.id node.id refl)

  from_later : (next : Option ℕ) (first : Node T) (order : List (Node T)) → AllPairs ◌≢◌ (ids (first ∷ order)) → IfSome next (Contains (ids order)) → from_node next (first ∷ order) ≡ from_node next order
  from_later None first order once there = refl
  from_later (Some id) first order once there =
      let differ : first.id ≢ id = λ same. first_apart first.id (ids order) once (subst (Contains (ids order)) (sym same) there) in
      rw (ne_eqb first.id id differ)

  -- a walk comes to the node of this id, and then to those behind it
  pub record IsStep (order : List (Node T)) (id : ℕ) : Type 0 where
    pub node : Node T
    pub is : node.id ≡ id
    pub found : find (λ other. other.id == id) order ≡ Some node
    pub rest : from_id id order ≡ node ∷ from_node (id_behind id (ids order)) order

  pub IsStep-live : (id : ℕ) (order : List (Node T)) → AllPairs ◌≢◌ (ids order) → Contains (ids order) id → IsStep order id
  IsStep-live id [] once there = absurd (nothing_in id there)
  IsStep-live id (first ∷ order) once there = elim (cases_eq first.id id) [
    | inl is ↦ record {
      node = first;
      is = is;
      found = rw (eq-eqb first.id id is);
      rest = rw (eq-eqb first.id id is) (ap (λ nodes. first ∷ nodes) (sym (from_later (slice_get (ids order) 0) first order once (first_in (ids order)) ∙ from_first order)));
    }
    | inr differ ↦
        let later : Contains (ids order) id = elim (first_or_later first.id id (ids order) there) [ inl is ↦ absurd (differ is) | inr later ↦ later ] in
        let step = IsStep-live id order (rest_once first.id (ids order) once) later in
        record {
          node = step.node;
          is = step.is;
          found = rw (ne_eqb first.id id differ) step.found;
          rest = rw (ne_eqb first.id id differ) (step.rest ∙ ap (λ nodes. step.node ∷ nodes) (sym (from_later (id_behind id (ids order)) first order once (behind_in id (ids order)))));
        }
  ]

  -- what is read of a live node is read of the node that the walk comes to
  pub read_step : {X : Type 0} (read : Node T → X) (order : List (Node T)) (id : ℕ) (x : X) (step : IsStep order id) → option_map read (find (λ node. node.id == id) order) ≡ Some x → read step.node ≡ x
  read_step read order id x step is = same_Some (read step.node) x (ap (option_map read) (sym step.found) ∙ is)

  -- a new node right behind one that others stand before
  pub inserted_here : (id : ℕ) (new node : Node T) (front rest : List (Node T)) → node.id ≡ id → AllPairs ◌≢◌ (ids (front ++ node ∷ rest)) → inserted_behind (λ other. other.id) id new (front ++ node ∷ rest) ≡ front ++ node ∷ new ∷ rest
  inserted_here id new node [] rest is once = rw (eq-eqb node.id id is)
  inserted_here id new node (first ∷ front) rest is once =
      let behind = front ++ node ∷ rest in
      let there : Contains (ids behind) node.id = map_in (λ other. other.id) behind node (Contains-append_right front (node ∷ rest) node (contains_first node node rest refl)) in
      let differ : first.id ≢ id = λ same. first_apart first.id (ids behind) once (subst (Contains (ids behind)) (is ∙ sym same) there) in
      rw (ne_eqb first.id id differ) (ap (λ nodes. first ∷ nodes) (inserted_here id new node front rest is (rest_once first.id (ids behind) once)))
