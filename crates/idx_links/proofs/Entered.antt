-- The nodes of a list of ids, by their entries.
use Rattle.std.proofs.Common.{◌≡◌, ℕ, zero, suc, ◌<◌, inl, inr, ◌==◌, List, [], ◌∷◌, ◌++◌, length, set, Option, Some, None, refl, sym, ap, ◌∙◌, get_or-set_same, get_or-set_other}
use Rattle.std.specs.Prelude.{◌≢◌, Contains, find, IsSomeAnd}
use Rattle.std.proofs.lemmas.Bool.{cases_eq, eq-eqb, ne_eqb}
use Rattle.fd_base.proofs.Members.{contains_first, contains_later, first_or_later, nothing_in}
use Rattle.idx_links.specs.declared.pool.Entry.{Entry}
use Rattle.idx_links.specs.parts.Nodes.{Node, ids, inserted_behind, inserted_after, without}
use Rattle.idx_links.specs.parts.Inside.{entry_at, node_of, nodes_of}
use Rattle.idx_links.proofs.Edited.{not_first, not_later, less, more, more_behind}

module _ {T : Type 0} where
  abbrev pub node : ℕ → Entry T → Node T
  node id e = record { id = id; owner = e.owner; value = e.value }

  abbrev pub HasEntry : List (Option (Entry T)) → ℕ → Type 0
  HasEntry entries id = (e : Entry T) × (entry_at entries id ≡ Some e)

  -- each of the ids has an entry
  abbrev pub HaveEntries : List (Option (Entry T)) → List ℕ → Type 0
  HaveEntries entries xs = (id : ℕ) → Contains xs id → HasEntry entries id

  later_have : (entries : List (Option (Entry T))) (x : ℕ) (xs : List ℕ) → HaveEntries entries (x ∷ xs) → HaveEntries entries xs
  later_have entries x xs have = λ id there. have id (contains_later x id xs there)

  first_has : (entries : List (Option (Entry T))) (x : ℕ) (xs : List ℕ) → HaveEntries entries (x ∷ xs) → HasEntry entries x
  first_has entries x xs have = have x (contains_first x x xs refl)

  pub node_of-some : (entries : List (Option (Entry T))) (id : ℕ) (e : Entry T) → entry_at entries id ≡ Some e → node_of entries id ≡ Some (node id e)
  node_of-some entries id e is = rw is

  pub ids-nodes_of : (entries : List (Option (Entry T))) (xs : List ℕ) → HaveEntries entries xs → ids (nodes_of entries xs) ≡ xs
  ids-nodes_of entries [] have = refl
  ids-nodes_of entries (x ∷ xs) have =
      let e = first_has entries x xs have in
      rw (node_of-some entries x e.0 e.1, ids-nodes_of entries xs (later_have entries x xs have))

  -- ---- writes of entries

  pub entry_at-same : (entries : List (Option (Entry T))) (y : ℕ) (e : Entry T) → y < length entries → entry_at (set entries y (Some e)) y ≡ Some e
  entry_at-same entries y e lt = get_or-set_same entries y (Some e) None lt

  pub entry_at-other : (entries : List (Option (Entry T))) (y x : ℕ) (e : Option (Entry T)) → x ≢ y → entry_at (set entries y e) x ≡ entry_at entries x
  entry_at-other entries y x e differ = get_or-set_other entries y x e None differ

  pub entry_at-push : (entries : List (Option (Entry T))) (x : ℕ) → entry_at (entries ++ None ∷ []) x ≡ entry_at entries x
  entry_at-push [] zero = refl
  entry_at-push [] (suc x) = refl
  entry_at-push (e ∷ entries) zero = refl
  entry_at-push (e ∷ entries) (suc x) = entry_at-push entries x

  pub nodes_of-write : (entries : List (Option (Entry T))) (y : ℕ) (e : Option (Entry T)) (xs : List ℕ) → ¬ Contains xs y → nodes_of (set entries y e) xs ≡ nodes_of entries xs
  nodes_of-write entries y e [] off = refl
  nodes_of-write entries y e (x ∷ xs) off =
      rw (entry_at-other entries y x e (not_first x y xs off), nodes_of-write entries y e xs (not_later x y xs off))

  pub nodes_of-push : (entries : List (Option (Entry T))) (xs : List ℕ) → nodes_of (entries ++ None ∷ []) xs ≡ nodes_of entries xs
  nodes_of-push entries [] = refl
  nodes_of-push entries (x ∷ xs) = rw (entry_at-push entries x, nodes_of-push entries xs)

  -- ---- one comes in, or goes

  nodes_of-more_behind : (entries : List (Option (Entry T))) (at y : ℕ) (e : Entry T) (xs : List ℕ) → HaveEntries entries xs → entry_at entries y ≡ Some e
      → nodes_of entries (more_behind at y xs) ≡ inserted_behind (λ n. n.id) at (node y e) (nodes_of entries xs)
  nodes_of-more_behind entries at y e [] have is = refl
  nodes_of-more_behind entries at y e (x ∷ xs) have is =
      let first = first_has entries x xs have in
      let here = node_of-some entries x first.0 first.1 in
      elim (cases_eq x at) [
        | inl same ↦ rw (here, eq-eqb x at same, here, node_of-some entries y e is)
        | inr differ ↦ rw (here, ne_eqb x at differ, here, nodes_of-more_behind entries at y e xs (later_have entries x xs have) is)
      ]

  pub nodes_of-more : (entries : List (Option (Entry T))) (at : Option ℕ) (y : ℕ) (e : Entry T) (xs : List ℕ) → HaveEntries entries xs → entry_at entries y ≡ Some e
      → nodes_of entries (more at y xs) ≡ inserted_after (λ n. n.id) at (node y e) (nodes_of entries xs)
  nodes_of-more entries None y e xs have is = rw (node_of-some entries y e is)
  nodes_of-more entries (Some at) y e xs have is = nodes_of-more_behind entries at y e xs have is

  pub nodes_of-less : (entries : List (Option (Entry T))) (y : ℕ) (xs : List ℕ) → HaveEntries entries xs → nodes_of entries (less y xs) ≡ without (λ n. n.id) y (nodes_of entries xs)
  nodes_of-less entries y [] have = refl
  nodes_of-less entries y (x ∷ xs) have =
      let first = first_has entries x xs have in
      let here = node_of-some entries x first.0 first.1 in
      let rest = nodes_of-less entries y xs (later_have entries x xs have) in
      elim (cases_eq x y) [
        | inl same ↦ rw (here, eq-eqb x y same, rest)
        | inr differ ↦ rw (here, ne_eqb x y differ, here, rest)
      ]

  -- ---- the node of an id

  pub find_node : (entries : List (Option (Entry T))) (y : ℕ) (e : Entry T) (xs : List ℕ) → HaveEntries entries xs → Contains xs y → entry_at entries y ≡ Some e
      → find (λ n. n.id == y) (nodes_of entries xs) ≡ Some (node y e)
  find_node entries y e [] have there is = absurd (nothing_in y there)
  find_node entries y e (x ∷ xs) have there is =
      let first = first_has entries x xs have in
      let here = node_of-some entries x first.0 first.1 in
      elim (cases_eq x y) [
        | inl same ↦
            let found : Some (node x first.0) ≡ Some (node y e) = sym here ∙ ap (node_of entries) same ∙ node_of-some entries y e is in
            rw (here, eq-eqb x y same) found
        | inr differ ↦
            let later : Contains xs y = elim (first_or_later x y xs there) [ inl same ↦ absurd (differ same) | inr later ↦ later ] in
            rw (here, ne_eqb x y differ) (find_node entries y e xs (later_have entries x xs have) later is)
      ]

  pub found_listed : (entries : List (Option (Entry T))) (y : ℕ) (P : Node T → Type 0) (xs : List ℕ) → HaveEntries entries xs → IsSomeAnd (find (λ n. n.id == y) (nodes_of entries xs)) P → Contains xs y
  found_listed entries y P [] have found = absurd found
  found_listed entries y P (x ∷ xs) have found =
      let first = first_has entries x xs have in
      let here = node_of-some entries x first.0 first.1 in
      elim (cases_eq x y) [
        | inl same ↦ contains_first x y xs same
        | inr differ ↦ contains_later x y xs (found_listed entries y P xs (later_have entries x xs have) (rw (here, ne_eqb x y differ) at found))
      ]
