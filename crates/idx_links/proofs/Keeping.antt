-- What a pool holds inside, as nodes come and go.
use Rattle.std.proofs.Common.{◌≡◌, ℕ, zero, suc, ◌+◌, ◌-◌, ◌^◌, ◌<◌, ◌≤◌, inl, inr, List, [], ◌∷◌, ◌++◌, length, map, get_or, set, replicate, Option, Some, None, IfSome, refl, sym, ap, ◌∙◌, subst, arith, length-set}
use Rattle.std.specs.Prelude.{◌≢◌, Contains, slice_get}
use Rattle.std.proofs.lemmas.Bool.{cases_eq, cases_lt}
use Rattle.std.proofs.lemmas.List.{length_push, length-map, get_or_past, get_or_read}
use Rattle.fd_base.proofs.Members.{contains_first, contains_later, first_or_later, contains_at}
use Rattle.idx_links.specs.declared.links.TheConstants.{NONE}
use Rattle.idx_links.specs.declared.pool.Entry.{Entry}
use Rattle.idx_links.specs.parts.Nodes.{Nodes, AreTied, IsLive, ids, id_behind, node_at, chain_of}
use Rattle.idx_links.specs.parts.Lists.{Lists, list_at, AreApart}
use Rattle.idx_links.specs.parts.Inside.{entry_at, nodes_of, IsKept}
use Rattle.idx_links.proofs.Edited.{less, less-none, in_less, not_in_less, stays_in_less, length-less, more, in_more, more_old, more_new, length-more}
use Rattle.idx_links.proofs.Families.{AreApart-linked, linked_none, empty_at, listed_within, list_at-same, list_at-other, list_at-less}
use Rattle.idx_links.proofs.Entered.{node, HaveEntries, ids-nodes_of, entry_at-same, entry_at-other, entry_at-push, find_node, found_listed}

abbrev pub order_of : Lists → List ℕ
order_of places = list_at places.lists 0

abbrev pub free_of : Lists → List ℕ
free_of places = list_at places.lists 1

abbrev pub seen : {T : Type 0} → Lists → Lists → List (Option (Entry T)) → ℕ → Nodes T
seen places owners entries spare = record { order = nodes_of entries (order_of places); chains = owners.lists; spare = spare }

-- a number that was taken out of all lists
pub gone : (places : Lists) (y l : ℕ) → ¬ Contains (list_at (map (less y) places.lists) l) y
gone places y l there = not_in_less y (list_at places.lists l) (rw (list_at-less places.lists y l) at there)

has_within : {T : Type 0} (entries : List (Option (Entry T))) (x : ℕ) (e : Entry T) → entry_at entries x ≡ Some e → x < length entries
has_within entries x e is = elim (cases_lt x (length entries)) [
  | inl lt ↦ lt
  | inr past ↦ let none = get_or_past entries x None past in absurd (cc)
]

module _ {T : Type 0} (places owners : Lists) (entries : List (Option (Entry T))) (spare : ℕ) (kept : IsKept places owners entries spare) where
  pub have : HaveEntries entries (order_of places)
  have id there = let t = kept.entered id there in (t.0, t.1)

  pub order_ids : ids (nodes_of entries (order_of places)) ≡ order_of places
  order_ids = ids-nodes_of entries (order_of places) have

  pub length_order : length (nodes_of entries (order_of places)) ≡ length (order_of places)
  length_order = sym (length-map (nodes_of entries (order_of places)) (λ n. n.id)) ∙ ap length order_ids

  pub live_listed : (x : ℕ) → IsLive (seen places owners entries spare) x → Contains (order_of places) x
  live_listed x live = rw order_ids at live

  -- what contracts see of a live node
  pub ids_in : (now : Nodes T) → seen places owners entries spare ≡ now → ids now.order ≡ order_of places
  ids_in now is = subst (λ (n : Nodes T). ids n.order ≡ order_of places) is order_ids

  pub live_in : (now : Nodes T) → seen places owners entries spare ≡ now → (x : ℕ) → IsLive now x → Contains (order_of places) x
  live_in now is x live = live_listed x (subst (λ (n : Nodes T). IsLive n x) (sym is) live)

  pub node_in : (now : Nodes T) → seen places owners entries spare ≡ now → (x : ℕ) (e : Entry T) → Contains (order_of places) x → entry_at entries x ≡ Some e → node_at now x ≡ Some (node x e)
  node_in now is x e there has = subst (λ (n : Nodes T). node_at n x ≡ Some (node x e)) is (find_node entries x e (order_of places) have there has)

  listed_within_entries : (x : ℕ) → Contains (order_of places) x → x < length entries
  listed_within_entries x there = let t = kept.entered x there in has_within entries x t.0 t.1

  -- what is read at a live node is its entry, and its owner's chain has it
  pub live_entry : (now : Nodes T) → seen places owners entries spare ≡ now → (x : ℕ) (read : Option (Entry T)) → IsLive now x → read ≡ get_or entries x read
      → (e : Entry T) × (read ≡ Some e) × (node_at now x ≡ Some (node x e)) × Contains (list_at owners.lists e.owner) x
  live_entry now is x read live read_is =
      let there = live_in now is x live in
      let has = kept.entered x there in
      (has.0, get_or_read entries x read (listed_within_entries x there) read_is None ∙ has.1, node_in now is x has.0 there has.1, has.2)

  pub live_within : (now : Nodes T) → seen places owners entries spare ≡ now → (x : ℕ) → IsLive now x → x < length entries
  live_within now is x live = listed_within_entries x (live_in now is x live)

  -- what stands in a list is live
  pub listed_live : (now : Nodes T) → seen places owners entries spare ≡ now → (x : ℕ) → Contains (order_of places) x → IsLive now x
  listed_live now is x there = rw (ids_in now is) there

  pub owned_live : (now : Nodes T) → seen places owners entries spare ≡ now → (owner x : ℕ) → Contains (list_at owners.lists owner) x → IsLive now x
  owned_live now is owner x there = listed_live now is x (kept.ordered owner x there)

  -- what stands behind a node in its owner's chain
  pub next_in_chain : (now : Nodes T) → seen places owners entries spare ≡ now → (x : ℕ) (next : Option ℕ) → IsLive now x
      → ((l : ℕ) → Contains (list_at owners.lists l) x → next ≡ id_behind x (list_at owners.lists l))
      → IfSome (node_at now x) (λ n. next ≡ id_behind x (chain_of now n.owner))
  next_in_chain now is x next live behind =
      let there = live_in now is x live in
      let has = kept.entered x there in
      let P : Nodes T → Type 0 = λ nodes. IfSome (node_at nodes x) (λ n. next ≡ id_behind x (chain_of nodes n.owner)) in
      let here : P (seen places owners entries spare) = rw (find_node entries x has.0 (order_of places) have there has.1) (behind has.0.owner has.2) in
      subst P is here

  below : (l x : ℕ) → Contains (list_at places.lists l) x → x < length entries
  below zero x there = listed_within_entries x there
  below (suc zero) x there = kept.free x there
  below (suc (suc l)) x there = absurd (omega (arith, listed_within places.lists (suc (suc l)) x there, kept.two))

  -- the next number of a node is in no list
  pub next_unlisted : (l : ℕ) → ¬ Contains (list_at places.lists l) (length entries)
  next_unlisted l there = omega (arith, below l (length entries) there)

  pub tied : AreTied (seen places owners entries spare)
  tied = record {
    distinct = rw order_ids (kept.places_apart.once 0);
    chained = λ owner id. (
      λ there.
          let o = kept.ordered owner id there in
          let t = kept.entered id o in
          rw (find_node entries id t.0 (order_of places) have o t.1) (kept.owners_apart.apart t.0.owner owner id t.2 there),
      λ found.
          let o = found_listed entries id (λ n. n.owner ≡ owner) (order_of places) have found in
          let t = kept.entered id o in
          let same : t.0.owner ≡ owner = rw (find_node entries id t.0 (order_of places) have o t.1) at found in
          subst (λ x. Contains (list_at owners.lists x) id) same t.2,
    );
    once = kept.owners_apart.once;
    few = omega (arith, length_order, kept.counted, kept.all, kept.few);
  }

  -- how many nodes have entries or room for them
  pub all_in : (now : Nodes T) → seen places owners entries spare ≡ now → length now.order + now.spare ≡ length entries
  all_in now is =
      let P : Nodes T → Type 0 = λ n. length n.order + n.spare ≡ length entries in
      let here : P (seen places owners entries spare) = omega (arith, length_order, kept.counted, kept.all) in
      subst P is here

  -- more room
  pub kept_roomier : (places' owners' : Lists) → places' ≡ record { lists = places.lists; nodes = places'.nodes } → places.nodes ≤ places'.nodes
      → owners' ≡ record { lists = owners.lists; nodes = owners'.nodes } → owners.nodes ≤ owners'.nodes → IsKept places' owners' entries spare
  kept_roomier places' owners' places_is places_more owners_is owners_more =
      let places_same : places'.lists ≡ places.lists = ap (λ (p : Lists). p.lists) places_is in
      let owners_same : owners'.lists ≡ owners.lists = ap (λ (p : Lists). p.lists) owners_is in
      record {
        two = ap length places_same ∙ kept.two;
        places_apart = rw places_same kept.places_apart;
        owners_apart = rw owners_same kept.owners_apart;
        entered = λ id there. let t = kept.entered id (rw places_same at there) in (t.0, t.1, rw owners_same t.2);
        ordered = λ owner id there. rw places_same (kept.ordered owner id (rw owners_same at there));
        free = λ id there. kept.free id (rw places_same at there);
        all = rw places_same kept.all;
        counted = rw places_same kept.counted;
        places_room = omega (arith, kept.places_room);
        owners_room = omega (arith, kept.owners_room);
        few = kept.few;
      }

  -- ---- a free node more

  pub kept_add : (places' owners' : Lists) → AreApart places'.lists → places'.lists ≡ set places.lists 1 (length entries ∷ free_of places) → owners'.lists ≡ owners.lists
      → length entries < places'.nodes → length entries < owners'.nodes → length entries + 1 < 2 ^ 32
      → (order_of places' ≡ order_of places) × IsKept places' owners' (entries ++ None ∷ []) (spare + 1)
  kept_add places' owners' apart places_is owners_is places_room owners_room few = (
    order_is,
    record {
      two = ap length places_is ∙ length-set places.lists 1 (length entries ∷ free_of places) ∙ kept.two;
      places_apart = apart;
      owners_apart = rw owners_is kept.owners_apart;
      entered = λ id there. let t = kept.entered id (rw order_is at there) in (t.0, entry_at-push entries id ∙ t.1, rw owners_is t.2);
      ordered = λ owner id there. rw order_is (kept.ordered owner id (rw owners_is at there));
      free = λ id there. elim (first_or_later (length entries) id (free_of places) (rw free_is at there)) [
        | inl is ↦ omega (arith, is, longer)
        | inr old ↦ omega (arith, kept.free id old, longer)
      ];
      all = omega (arith, ap length order_is, ap length free_is, longer, kept.all);
      counted = omega (arith, ap length free_is, kept.counted);
      places_room = omega (arith, longer);
      owners_room = omega (arith, longer);
      few = omega (arith, longer);
    },
  )
    where
      longer : length (entries ++ None ∷ []) ≡ length entries + 1
      longer = length_push entries None

      order_is : order_of places' ≡ order_of places
      order_is = ap (λ ls. list_at ls 0) places_is ∙ list_at-other places.lists 1 0 (length entries ∷ free_of places) (λ is. omega arith)

      free_is : free_of places' ≡ length entries ∷ free_of places
      free_is = ap (λ ls. list_at ls 1) places_is ∙ list_at-same places.lists 1 (length entries ∷ free_of places) (omega (arith, kept.two))

  -- ---- a node comes in

  module _ (y : ℕ) (is_first : slice_get (free_of places) 0 ≡ Some y) where
    pub first_free : Contains (free_of places) y
    first_free = contains_at (free_of places) 0 y is_first

    pub first_unlisted : ¬ Contains (order_of places) y
    first_unlisted there = omega (arith, kept.places_apart.apart 0 1 y there first_free)

    pub first_unowned : (owner : ℕ) → ¬ Contains (list_at owners.lists owner) y
    first_unowned owner there = first_unlisted (kept.ordered owner y there)

    pub order_without_free : list_at (map (less y) places.lists) 0 ≡ order_of places
    order_without_free = list_at-less places.lists y 0 ∙ less-none y (order_of places) first_unlisted

    pub entry_stays : (e : Entry T) (id : ℕ) → Contains (order_of places) id → entry_at (set entries y (Some e)) id ≡ entry_at entries id
    entry_stays e id there = entry_at-other entries y id (Some e) (λ same. first_unlisted (subst (Contains (order_of places)) same there))

    pub kept_insert : (at : Option ℕ) (e : Entry T) (places' owners' : Lists) → AreApart places'.lists → AreApart owners'.lists
        → places'.lists ≡ set (map (less y) places.lists) 0 (more at y (list_at (map (less y) places.lists) 0))
        → owners'.lists ≡ set owners.lists e.owner (y ∷ list_at owners.lists e.owner)
        → places'.nodes ≡ places.nodes → owners'.nodes ≡ owners.nodes
        → IfSome at (Contains (order_of places)) → e.owner < length owners.lists
        → (order_of places' ≡ more at y (order_of places)) × IsKept places' owners' (set entries y (Some e)) (spare - 1)
    kept_insert at e places' owners' places_apart owners_apart places_is owners_is places_nodes owners_nodes at_listed in_range = (
      order_is,
      record {
        two = ap length places_is ∙ length-set (map (less y) places.lists) 0 (more at y (list_at (map (less y) places.lists) 0)) ∙ length-map places.lists (less y) ∙ kept.two;
        places_apart = places_apart;
        owners_apart = owners_apart;
        entered = λ id there. elim (in_more at id y (order_of places) (rw order_is at there)) [
          | inl is ↦ (e, subst (λ z. entry_at (set entries y (Some e)) z ≡ Some e) is (entry_at-same entries y e (kept.free y first_free)), subst (λ z. Contains (list_at owners'.lists e.owner) z) is new_owned)
          | inr old ↦
              let t = kept.entered id old in
              (t.0, entry_stays e id old ∙ t.1, still_owned t.0.owner id t.2)
        ];
        ordered = λ owner id there. rw order_is (ordered_now owner id there);
        free = λ id there. omega (arith, kept.free id (in_less id y (free_of places) (rw free_is at there)), long);
        all = omega (arith, ap length order_is, ap length free_is, length-more at y (order_of places) at_listed, fewer, kept.all, long);
        counted = omega (arith, ap length free_is, fewer, kept.counted);
        places_room = omega (arith, kept.places_room, long);
        owners_room = omega (arith, kept.owners_room, long);
        few = omega (arith, kept.few, long);
      },
    )
      where
        long : length (set entries y (Some e)) ≡ length entries
        long = length-set entries y (Some e)

        fewer : length (less y (free_of places)) + 1 ≡ length (free_of places)
        fewer = length-less y (free_of places) (kept.places_apart.once 1) first_free

        order_is : order_of places' ≡ more at y (order_of places)
        order_is =
            ap (λ ls. list_at ls 0) places_is
            ∙ list_at-same (map (less y) places.lists) 0 (more at y (list_at (map (less y) places.lists) 0)) (omega (arith, length-map places.lists (less y), kept.two))
            ∙ ap (more at y) order_without_free

        free_is : free_of places' ≡ less y (free_of places)
        free_is =
            ap (λ ls. list_at ls 1) places_is
            ∙ list_at-other (map (less y) places.lists) 0 1 (more at y (list_at (map (less y) places.lists) 0)) (λ is. omega arith)
            ∙ list_at-less places.lists y 1

        chain_is : list_at owners'.lists e.owner ≡ y ∷ list_at owners.lists e.owner
        chain_is = ap (λ ls. list_at ls e.owner) owners_is ∙ list_at-same owners.lists e.owner (y ∷ list_at owners.lists e.owner) in_range

        other_chain : (o : ℕ) → o ≢ e.owner → list_at owners'.lists o ≡ list_at owners.lists o
        other_chain o differ = ap (λ ls. list_at ls o) owners_is ∙ list_at-other owners.lists e.owner o (y ∷ list_at owners.lists e.owner) differ

        new_owned : Contains (list_at owners'.lists e.owner) y
        new_owned = rw chain_is (contains_first y y (list_at owners.lists e.owner) refl)

        still_owned : (o x : ℕ) → Contains (list_at owners.lists o) x → Contains (list_at owners'.lists o) x
        still_owned o x there = elim (cases_eq o e.owner) [
          | inl is ↦ rw (is, chain_is) (contains_later y x (list_at owners.lists e.owner) (rw is at there))
          | inr differ ↦ rw (other_chain o differ) there
        ]

        ordered_now : (o x : ℕ) → Contains (list_at owners'.lists o) x → Contains (more at y (order_of places)) x
        ordered_now o x there = elim (cases_eq o e.owner) [
          | inl is ↦ elim (first_or_later y x (list_at owners.lists e.owner) (rw (is, chain_is) at there)) [
            | inl new ↦ subst (Contains (more at y (order_of places))) new (more_new at y (order_of places) at_listed)
            | inr old ↦ more_old at x y (order_of places) (kept.ordered e.owner x old)
          ]
          | inr differ ↦ more_old at x y (order_of places) (kept.ordered o x (rw (other_chain o differ) at there))
        ]

  -- ---- a node goes

  module _ (y : ℕ) (listed : Contains (order_of places) y) where
    pub listed_not_free : ¬ Contains (free_of places) y
    listed_not_free there = omega (arith, kept.places_apart.apart 0 1 y listed there)

    pub kept_remove : (places' owners' : Lists) → AreApart places'.lists → AreApart owners'.lists
        → places'.lists ≡ set (map (less y) places.lists) 1 (y ∷ list_at (map (less y) places.lists) 1)
        → owners'.lists ≡ map (less y) owners.lists
        → places'.nodes ≡ places.nodes → owners'.nodes ≡ owners.nodes
        → (order_of places' ≡ less y (order_of places)) × IsKept places' owners' entries (spare + 1)
    kept_remove places' owners' places_apart owners_apart places_is owners_is places_nodes owners_nodes = (
      order_is,
      record {
        two = ap length places_is ∙ length-set (map (less y) places.lists) 1 (y ∷ list_at (map (less y) places.lists) 1) ∙ length-map places.lists (less y) ∙ kept.two;
        places_apart = places_apart;
        owners_apart = owners_apart;
        entered = λ id there.
            let still : Contains (less y (order_of places)) id = rw order_is at there in
            let t = kept.entered id (in_less id y (order_of places) still) in
            let differ : id ≢ y = λ same. not_in_less y (order_of places) (subst (Contains (less y (order_of places))) same still) in
            (t.0, t.1, rw (chain_is t.0.owner) (stays_in_less id y (list_at owners.lists t.0.owner) differ t.2));
        ordered = λ owner id there.
            let still : Contains (less y (list_at owners.lists owner)) id = rw (chain_is owner) at there in
            let differ : id ≢ y = λ same. not_in_less y (list_at owners.lists owner) (subst (Contains (less y (list_at owners.lists owner))) same still) in
            rw order_is (stays_in_less id y (order_of places) differ (kept.ordered owner id (in_less id y (list_at owners.lists owner) still)));
        free = λ id there. elim (first_or_later y id (free_of places) (rw free_is at there)) [
          | inl is ↦ subst (λ z. z < length entries) is (listed_within_entries y listed)
          | inr old ↦ kept.free id old
        ];
        all = omega (arith, ap length order_is, ap length free_is, length-less y (order_of places) (kept.places_apart.once 0) listed, kept.all);
        counted = omega (arith, ap length free_is, kept.counted);
        places_room = omega (arith, kept.places_room);
        owners_room = omega (arith, kept.owners_room);
        few = kept.few;
      },
    )
      where
        order_is : order_of places' ≡ less y (order_of places)
        order_is =
            ap (λ ls. list_at ls 0) places_is
            ∙ list_at-other (map (less y) places.lists) 1 0 (y ∷ list_at (map (less y) places.lists) 1) (λ is. omega arith)
            ∙ list_at-less places.lists y 0

        free_is : free_of places' ≡ y ∷ free_of places
        free_is =
            ap (λ ls. list_at ls 1) places_is
            ∙ list_at-same (map (less y) places.lists) 1 (y ∷ list_at (map (less y) places.lists) 1) (omega (arith, length-map places.lists (less y), kept.two))
            ∙ ap (λ xs. y ∷ xs) (list_at-less places.lists y 1 ∙ less-none y (free_of places) listed_not_free)

        chain_is : (o : ℕ) → list_at owners'.lists o ≡ less y (list_at owners.lists o)
        chain_is o = ap (λ ls. list_at ls o) owners_is ∙ list_at-less owners.lists y o

-- ---- no nodes

pub kept_none : {T : Type 0} (owners : ℕ) → IsKept {T = T} (record { lists = replicate 2 []; nodes = 0 }) (record { lists = replicate owners []; nodes = 0 }) [] 0
kept_none owners =
    let apart : (n : ℕ) → AreApart (replicate n []) = λ n. AreApart-linked (replicate n NONE) [] (replicate n []) (linked_none n) in
    let nothing : (x : ℕ) → ¬ Contains {X = ℕ} [] x = λ x there. omega (arith, there.1) in
    record {
      two = refl;
      places_apart = apart 2;
      owners_apart = apart owners;
      entered = λ id there. absurd (nothing id there);
      ordered = λ owner id there. absurd (nothing id (rw (empty_at owners owner) at there));
      free = λ id there. absurd (nothing id there);
      all = refl;
      counted = refl;
      places_room = omega arith;
      owners_room = omega arith;
      few = omega arith;
    }
