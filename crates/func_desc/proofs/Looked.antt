-- Looking a function up in its bucket.
use Rattle.std.proofs.Common.{◌≡◌, ◌≢◌, ℕ, ◌<◌, inl, inr, Bool, true, false, cond, ◌==◌, List, [], ◌∷◌, length, Option, Some, IfSome, refl, sym, ap, ◌∙◌, subst, arith, AllPairs}
use Rattle.std.specs.Prelude.{Contains, slice_get, option_map}
use Rattle.std.specs.Prelude as prelude
use Rattle.std.specs.Ordering.{eq_by_cmp}
use Rattle.std.specs.FinMap.{find}
use Rattle.std.proofs.lemmas.Bool.{cases_eq, eq-eqb, ne_eqb, eqb-true}
use Rattle.std.proofs.lemmas.Option.{same_Some}
use Rattle.fd_base.proofs.Members.{contains_first, contains_later, in_filter, map_in}
use Rattle.elf_model.specs.declared.func.Func.{Func}
use Rattle.idx_links.specs.parts.Nodes.{Node, Nodes, AreTied, ids, id_behind, chain_of, node_at}
use Rattle.idx_links.proofs.Edited.{first_in, behind_in}
use Rattle.idx_links.proofs.Owned.{found_itself}
use Rattle.idx_links.proofs.Walked.{from_node, from_first, IsStep, IsStep-live}
use Rattle.func_desc.specs.Functions.{func_cmp}
use Rattle.func_desc.specs.parts.Buckets.{AreBucketed, bucket_of, in_bucket, values}
use Rattle.func_desc.proofs.Values.{tied_func}

abbrev Entry : Type 0
Entry = Node (Func × ℕ)

-- the bucket's nodes that are still to be looked at have the function's entry, if any has it
pub record IsLooked (buckets : ℕ) (nodes : Nodes (Func × ℕ)) (f : Func) (at : Option ℕ) : Type 0 where
  pub found : find func_cmp f (values (from_node at (in_bucket (bucket_of buckets f) nodes.order))) ≡ find func_cmp f (values nodes.order)
  pub live : IfSome at (Contains (ids (in_bucket (bucket_of buckets f) nodes.order)))
  pub tied : AreTied nodes

pub looked_at : (buckets : ℕ) (nodes : Nodes (Func × ℕ)) (f : Func) (at : Option ℕ) (id : ℕ) → at ≡ Some id → IsLooked buckets nodes f at → IsLooked buckets nodes f (Some id)
looked_at buckets nodes f at id is looked = subst (IsLooked buckets nodes f) is looked

-- what a search finds is a member
found_member : (p : Entry → Bool) (order : List Entry) (node : Entry) → prelude.find p order ≡ Some node → Contains order node
found_member p [] node is = cc
found_member p (first ∷ order) node is =
    elim (p first) as (λ b. cond b (Some first) (prelude.find p order) ≡ Some node → Contains (first ∷ order) node) [
      | true ↦ λ here. contains_first first node order (same_Some first node here)
      | false ↦ λ later. contains_later first node order (found_member p order node later)
    ] is

module _ (buckets : ℕ) (f : Func) where
  -- the other buckets don't have the function
  pub find-in_bucket : (order : List Entry) → ((node : Entry) → Contains order node → node.owner ≡ bucket_of buckets node.value.0)
      → find func_cmp f (values (in_bucket (bucket_of buckets f) order)) ≡ find func_cmp f (values order)
  find-in_bucket [] placed = refl
  find-in_bucket (node ∷ order) placed =
      let rest = find-in_bucket order (λ n there. placed n (contains_later node n order there)) in
      elim (cases_eq node.owner (bucket_of buckets f)) [
        | inl is ↦ rw (eq-eqb node.owner (bucket_of buckets f) is) (ap (cond (eq_by_cmp func_cmp f node.value.0) (Some node.value.1)) rest)
        | inr differ ↦ rw (ne_eqb node.owner (bucket_of buckets f) differ)
            (elim (eq_by_cmp func_cmp f node.value.0) as (λ b. eq_by_cmp func_cmp f node.value.0 ≡ b → find func_cmp f (values (in_bucket (bucket_of buckets f) order)) ≡ cond b (Some node.value.1) (find func_cmp f (values order))) [
              | true ↦ λ same. absurd (differ (placed node (contains_first node node order refl) ∙ ap (bucket_of buckets) (sym (tied_func f node.value.0 same))))
              | false ↦ λ other. rest
            ] refl)
      ]

  module _ (nodes : Nodes (Func × ℕ)) (kept : AreBucketed buckets nodes) where
    abbrev bucket : List Entry
    bucket = in_bucket (bucket_of buckets f) nodes.order

    pub IsLooked-first : (at : Option ℕ) → AreTied nodes → at ≡ slice_get (chain_of nodes (bucket_of buckets f)) 0 → IsLooked buckets nodes f at
    IsLooked-first at tied is =
        let here : at ≡ slice_get (ids bucket) 0 = is ∙ ap (λ c. slice_get c 0) (kept.chained (bucket_of buckets f)) in
        rw here (record {
          found = ap (λ l. find func_cmp f (values l)) (from_first bucket) ∙ find-in_bucket nodes.order kept.placed;
          live = first_in (ids bucket);
          tied = tied;
        })

    module _ (id : ℕ) (looked : IsLooked buckets nodes f (Some id)) where
      step : IsStep bucket id
      step = IsStep-live id bucket (subst (AllPairs ◌≢◌) (kept.chained (bucket_of buckets f)) (looked.tied.once (bucket_of buckets f))) looked.live

      in_order : Contains nodes.order step.node × ((step.node.owner == bucket_of buckets f) ≡ true)
      in_order = in_filter (λ node. node.owner == bucket_of buckets f) nodes.order step.node (found_member (λ other. other.id == id) bucket step.node step.found)

      at_id : node_at nodes id ≡ Some step.node
      at_id = subst (λ x. node_at nodes x ≡ Some step.node) step.is (found_itself step.node nodes.order looked.tied.distinct in_order.0)

      pub looked_live : Contains (ids nodes.order) id
      looked_live = subst (Contains (ids nodes.order)) step.is (map_in (λ n. n.id) nodes.order step.node in_order.0)

      module _ (own : Func) (addr : ℕ) (value : option_map (λ node. node.value) (node_at nodes id) ≡ Some (own, addr)) where
        held : step.node.value ≡ (own, addr)
        held = same_Some step.node.value (own, addr) (ap (option_map (λ node. node.value)) (sym at_id) ∙ value)

        -- the entry, and what is found behind it
        found_here : cond (eq_by_cmp func_cmp f own) (Some addr) (find func_cmp f (values (from_node (id_behind id (ids bucket)) bucket))) ≡ find func_cmp f (values nodes.order)
        found_here =
            ap (λ v. cond (eq_by_cmp func_cmp f v.0) (Some v.1) (find func_cmp f (values (from_node (id_behind id (ids bucket)) bucket)))) (sym held)
            ∙ ap (λ l. find func_cmp f (values l)) (sym step.rest) ∙ looked.found

        pub looked_found : true ≡ eq_by_cmp func_cmp f own → Some addr ≡ find func_cmp f (values nodes.order)
        looked_found same = ap (λ b. cond b (Some addr) (find func_cmp f (values (from_node (id_behind id (ids bucket)) bucket)))) same ∙ found_here

        module _ (next : Option ℕ) (behind : IfSome (node_at nodes id) (λ node. next ≡ id_behind id (chain_of nodes node.owner))) where
          next_is : next ≡ id_behind id (ids bucket)
          next_is =
              let here = rw at_id at behind in
              here ∙ ap (λ b. id_behind id (chain_of nodes b)) (eqb-true step.node.owner (bucket_of buckets f) in_order.1) ∙ ap (id_behind id) (kept.chained (bucket_of buckets f))

          pub IsLooked-next : false ≡ eq_by_cmp func_cmp f own → IsLooked buckets nodes f next
          IsLooked-next other = rw next_is (record {
            found = ap (λ b. cond b (Some addr) (find func_cmp f (values (from_node (id_behind id (ids bucket)) bucket)))) other ∙ found_here;
            live = behind_in id (ids bucket);
            tied = looked.tied;
          })

          pub looked_smaller : length (from_node next bucket) < length (from_node (Some id) bucket)
          looked_smaller = rw next_is (omega (arith, ap length step.rest))
