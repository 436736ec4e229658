-- The lists of linked nodes: what they are as links are written.
use Rattle.std.proofs.Common.{◌≡◌, ℕ, ◌<◌, ◌≤◌, ◌⊎◌, inl, inr, List, [], ◌∷◌, ◌++◌, length, map, get_or, set, replicate, Some, sym, ap, ◌∙◌, subst, ap₂, arith, length-set, get_or-set_same, get_or-set_other, AllPairs}
use Rattle.std.specs.Prelude.{◌≢◌, Contains}
use Rattle.std.proofs.lemmas.Bool.{cases_eq, cases_lt, eq-eqb, ne_eqb}
use Rattle.std.proofs.lemmas.List.{length_push, length-map, length-replicate, get_or-map, get_or_past, get_or-replicate, set-get_or, ext_get_or}
use Rattle.fd_base.proofs.Members.{first_or_later, nothing_in}
use Rattle.idx_links.specs.declared.links.Link.{Link}
use Rattle.idx_links.specs.declared.links.TheConstants.{NONE}
use Rattle.idx_links.specs.parts.Lists.{Lists, list_at, AreApart}
use Rattle.idx_links.specs.parts.Links.{link_at, with_prev, with_next, between, links_without, first_without, IsChain, list_from, lists_of, IsLinked}
use Rattle.idx_links.proofs.Edited.{less, less-none, in_less, more_behind, in_more}
use Rattle.idx_links.proofs.Chained.{list_from-chain, chain_once, chain_below, chain_length, begin_in, next_in, prev_of, IsChain-write, IsChain-first, IsChain-behind, IsChain-without, IsChain-push}

-- ---- lists by number

pub list_at-past : (lists : List (List ℕ)) (l : ℕ) → length lists ≤ l → list_at lists l ≡ []
list_at-past lists l past = get_or_past lists l [] past

pub listed_within : (lists : List (List ℕ)) (l x : ℕ) → Contains (list_at lists l) x → l < length lists
listed_within lists l x there = elim (cases_lt l (length lists)) [
  | inl lt ↦ lt
  | inr past ↦ absurd (nothing_in x (rw (list_at-past lists l past) at there))
]

pub list_at-same : (lists : List (List ℕ)) (l : ℕ) (xs : List ℕ) → l < length lists → list_at (set lists l xs) l ≡ xs
list_at-same lists l xs lt = get_or-set_same lists l xs [] lt

pub list_at-other : (lists : List (List ℕ)) (l m : ℕ) (xs : List ℕ) → m ≢ l → list_at (set lists l xs) m ≡ list_at lists m
list_at-other lists l m xs differ = get_or-set_other lists l m xs [] differ

pub list_at-less : (lists : List (List ℕ)) (y l : ℕ) → list_at (map (less y) lists) l ≡ less y (list_at lists l)
list_at-less lists y l = elim (cases_lt l (length lists)) [
  | inl lt ↦ get_or-map (less y) lists l [] [] lt
  | inr past ↦ list_at-past (map (less y) lists) l (omega (arith, length-map lists (less y))) ∙ ap (less y) (sym (list_at-past lists l past))
]

-- a number that is in one list alone
pub less-set : (lists : List (List ℕ)) (l y : ℕ) → ((m : ℕ) → Contains (list_at lists m) y → l ≡ m) → set lists l (less y (list_at lists l)) ≡ map (less y) lists
less-set lists l y only =
    let new = set lists l (less y (list_at lists l)) in
    let long : length new ≡ length lists = length-set lists l (less y (list_at lists l)) in
    ext_get_or [] new (map (less y) lists) (omega (arith, long, length-map lists (less y)))
    (λ m lt. elim (cases_eq m l) [
      | inl is ↦ ap (list_at new) is ∙ list_at-same lists l (less y (list_at lists l)) (omega (arith, long)) ∙ sym (list_at-less lists y l) ∙ ap (list_at (map (less y) lists)) (sym is)
      | inr differ ↦ list_at-other lists l m (less y (list_at lists l)) differ ∙ sym (less-none y (list_at lists m) (λ there. differ (sym (only m there)))) ∙ sym (list_at-less lists y m)
    ])

-- ---- what is linked

module _ (heads : List ℕ) (links : List Link) (lists : List (List ℕ)) (linked : IsLinked heads links lists) where
  pub lists_of-linked : lists_of heads links ≡ lists
  lists_of-linked =
      ext_get_or [] (lists_of heads links) lists (length-map heads (list_from links (length links)) ∙ sym linked.count)
      (λ l lt. let within : l < length heads = omega (arith, length-map heads (list_from links (length links))) in
      let c = linked.chain l within in
      get_or-map (list_from links (length links)) heads l NONE [] within
      ∙ list_from-chain links (length links) NONE (get_or heads l NONE) (list_at lists l) linked.few (chain_length links NONE (get_or heads l NONE) (list_at lists l) linked.few c) c)

  pub IsLinked-itself : IsLinked heads links (lists_of heads links)
  IsLinked-itself = rw lists_of-linked linked

  pub head_within : (l x : ℕ) → Contains (list_at lists l) x → l < length heads
  head_within l x there = omega (arith, listed_within lists l x there, linked.count)

  pub chain_of_listed : (l x : ℕ) → Contains (list_at lists l) x → IsChain links NONE (get_or heads l NONE) (list_at lists l)
  chain_of_listed l x there = linked.chain l (head_within l x there)

  pub listed_below : (l x : ℕ) → Contains (list_at lists l) x → x < length links
  listed_below l x there = chain_below links NONE (get_or heads l NONE) x (list_at lists l) (chain_of_listed l x there) there

  once_at : (l : ℕ) → (l < length heads) ⊎ (length heads ≤ l) → AllPairs ◌≢◌ (list_at lists l)
  once_at l (inl lt) = chain_once links NONE (get_or heads l NONE) (list_at lists l) linked.few (linked.chain l lt)
  once_at l (inr past) = rw (list_at-past lists l (omega (arith, linked.count))) (λ i j d lt within. absurd (omega arith))

  pub AreApart-linked : AreApart lists
  AreApart-linked = record { apart = linked.apart; once = λ l. once_at l (cases_lt l (length heads)) }

  -- what ends a list or is in one isn't in another
  off_others : (l m w : ℕ) → m ≢ l → (w ≡ NONE) ⊎ Contains (list_at lists l) w → ¬ Contains (list_at lists m) w
  off_others l m w differ (inl none) there = omega (arith, none, linked.few, listed_below m w there)
  off_others l m w differ (inr in_it) there = differ (linked.apart m l w there in_it)

  -- one list is another one now, with the links that stand for it, and no other list has changed
  one_changed : (l h : ℕ) (later : List Link) (xs : List ℕ) → l < length heads → length later ≡ length links
      → IsChain later NONE h xs
      → ((m : ℕ) → m ≢ l → m < length heads → IsChain later NONE (get_or heads m NONE) (list_at lists m))
      → ((x m : ℕ) → Contains xs x → Contains (list_at lists m) x → l ≡ m)
      → IsLinked (set heads l h) later (set lists l xs)
  one_changed l h later xs lt long new others alone = record {
    count = length-set lists l xs ∙ linked.count ∙ sym (length-set heads l h);
    chain = chained;
    apart = λ m n x in_m in_n. apart_now m n x (cases_eq m l) (cases_eq n l) in_m in_n;
    few = omega (arith, long, linked.few);
  }
    where
      within : l < length lists
      within = omega (arith, linked.count)

      chained : (m : ℕ) → m < length (set heads l h) → IsChain later NONE (get_or (set heads l h) m NONE) (list_at (set lists l xs) m)
      chained m lt' = elim (cases_eq m l) [
        | inl is ↦ rw (is, get_or-set_same heads l h NONE lt, list_at-same lists l xs within) new
        | inr differ ↦ rw (get_or-set_other heads l m h NONE differ, list_at-other lists l m xs differ) (others m differ (omega (arith, length-set heads l h)))
      ]

      apart_now : (m n x : ℕ) → (m ≡ l) ⊎ (m ≢ l) → (n ≡ l) ⊎ (n ≢ l) → Contains (list_at (set lists l xs) m) x → Contains (list_at (set lists l xs) n) x → m ≡ n
      apart_now m n x (inl p) (inl q) in_m in_n = p ∙ sym q
      apart_now m n x (inl p) (inr q) in_m in_n = p ∙ alone x n (rw (p, list_at-same lists l xs within) at in_m) (rw (list_at-other lists l n xs q) at in_n)
      apart_now m n x (inr p) (inl q) in_m in_n = sym (q ∙ alone x m (rw (q, list_at-same lists l xs within) at in_n) (rw (list_at-other lists l m xs p) at in_m))
      apart_now m n x (inr p) (inr q) in_m in_n = linked.apart m n x (rw (list_at-other lists l m xs p) at in_m) (rw (list_at-other lists l n xs q) at in_n)

  -- a new number is in no list, or in this one that gains it
  alone_more : (l y : ℕ) (xs : List ℕ) → ((m : ℕ) → ¬ Contains (list_at lists m) y) → ((x : ℕ) → Contains xs x → (y ≡ x) ⊎ Contains (list_at lists l) x) → (x m : ℕ) → Contains xs x → Contains (list_at lists m) x → l ≡ m
  alone_more l y xs off cases x m in_it in_m = elim (cases x in_it) [
    | inl is ↦ absurd (off m (rw is in_m))
    | inr old ↦ linked.apart l m x old in_m
  ]

  -- a node comes in at the front of a list
  pub linked_first : (l y : ℕ) → l < length heads → y < length links → ((m : ℕ) → ¬ Contains (list_at lists m) y)
      → IsLinked (set heads l y) (between y NONE (get_or heads l NONE) links) (set lists l (y ∷ list_at lists l))
  linked_first l y lt below off =
      let first = get_or heads l NONE in
      let xs = list_at lists l in
      let put : Link = record { next = first; prev = NONE } in
      let back : Link = record { next = (link_at (set links y put) first).next; prev = y } in
      let c = linked.chain l lt in
      one_changed l y (between y NONE first links) (y ∷ xs) lt (length-set (set links y put) first back ∙ length-set links y put)
      (IsChain-first links NONE first y xs linked.few below (off l) c)
      (λ m differ within.
      IsChain-write (set links y put) first NONE (get_or heads m NONE) back (list_at lists m) (off_others l m first differ (begin_in links NONE first xs c))
      (IsChain-write links y NONE (get_or heads m NONE) put (list_at lists m) (off m) (linked.chain m within)))
      (alone_more l y (y ∷ xs) off (λ x there. first_or_later y x xs there))

  -- a node comes in behind another
  pub linked_behind : (l p y : ℕ) → Contains (list_at lists l) p → y < length links → ((m : ℕ) → ¬ Contains (list_at lists m) y)
      → IsLinked heads (with_next p y (between y p (link_at links p).next links)) (set lists l (more_behind p y (list_at lists l)))
  linked_behind l p y there below off =
      let xs = list_at lists l in
      let next = (link_at links p).next in
      let put : Link = record { next = next; prev = p } in
      let back : Link = record { next = (link_at (set links y put) next).next; prev = y } in
      let mid = between y p next links in
      let fore : Link = record { next = y; prev = (link_at mid p).prev } in
      let c = chain_of_listed l p there in
      let linked_now : IsLinked (set heads l (get_or heads l NONE)) (set mid p fore) (set lists l (more_behind p y xs)) =
      one_changed l (get_or heads l NONE) (set mid p fore) (more_behind p y xs) (head_within l p there)
      (length-set mid p fore ∙ length-set (set links y put) next back ∙ length-set links y put)
      (IsChain-behind links NONE (get_or heads l NONE) p y xs linked.few below there (off l) c)
      (λ m differ within.
      IsChain-write mid p NONE (get_or heads m NONE) fore (list_at lists m) (off_others l m p differ (inr there))
      (IsChain-write (set links y put) next NONE (get_or heads m NONE) back (list_at lists m) (off_others l m next differ (next_in links NONE (get_or heads l NONE) p xs c there))
      (IsChain-write links y NONE (get_or heads m NONE) put (list_at lists m) (off m) (linked.chain m within))))
      (alone_more l y (more_behind p y xs) off (λ x in_it. in_more (Some p) x y xs in_it)) in
      rw set-get_or at linked_now

  -- what is linked to both neighbours' links keeps other lists
  off_neighbours : (l m y : ℕ) → m ≢ l → Contains (list_at lists l) y → m < length heads → IsChain (links_without y links) NONE (get_or heads m NONE) (list_at lists m)
  off_neighbours l m y differ there within =
      let next = (link_at links y).next in
      let prev = (link_at links y).prev in
      let c = chain_of_listed l y there in
      let back : Link = record { next = (link_at links next).next; prev = prev } in
      let mid = set links next back in
      let kept : IsChain mid NONE (get_or heads m NONE) (list_at lists m) =
      IsChain-write links next NONE (get_or heads m NONE) back (list_at lists m) (off_others l m next differ (next_in links NONE (get_or heads l NONE) y (list_at lists l) c there)) (linked.chain m within) in
      elim (cases_eq prev NONE) [
        | inl none ↦ rw (eq-eqb prev NONE none) kept
        | inr some ↦
            rw (ne_eqb prev NONE some)
            (IsChain-write mid prev NONE (get_or heads m NONE) (record { next = next; prev = (link_at mid prev).prev }) (list_at lists m) (off_others l m prev differ (prev_of links NONE (get_or heads l NONE) y (list_at lists l) c there)) kept)
      ]

  length_without : (y : ℕ) → length (links_without y links) ≡ length links
  length_without y =
      let next = (link_at links y).next in
      let prev = (link_at links y).prev in
      let mid = with_prev next prev links in
      let long : length mid ≡ length links = length-set links next (record { next = (link_at links next).next; prev = prev }) in
      elim (cases_eq prev NONE) [
        | inl none ↦ rw (eq-eqb prev NONE none) long
        | inr some ↦ rw (ne_eqb prev NONE some) (length-set mid prev (record { next = next; prev = (link_at mid prev).prev }) ∙ long)
      ]

  -- a node goes
  pub linked_without : (l y : ℕ) → Contains (list_at lists l) y → IsLinked (set heads l (first_without y links (get_or heads l NONE))) (links_without y links) (map (less y) lists)
  linked_without l y there =
      let xs = list_at lists l in
      let c = chain_of_listed l y there in
      rw (← less-set lists l y (λ m in_m. linked.apart l m y there in_m))
      (one_changed l (first_without y links (get_or heads l NONE)) (links_without y links) (less y xs) (head_within l y there) (length_without y)
      (IsChain-without links (get_or heads l NONE) y xs linked.few there c)
      (λ m differ within. off_neighbours l m y differ there within)
      (λ x m in_it in_m. linked.apart l m x (in_less x y xs in_it) in_m))

  -- a link more
  pub linked_push : (link : Link) → length links < NONE → IsLinked heads (links ++ link ∷ []) lists
  linked_push link room = record {
    count = linked.count;
    chain = λ l lt. IsChain-push links NONE (get_or heads l NONE) link (list_at lists l) (linked.chain l lt);
    apart = linked.apart;
    few = omega (arith, length_push links link);
  }

-- empty lists
pub empty_at : (n l : ℕ) → list_at (replicate n []) l ≡ []
empty_at n l = elim (cases_lt l n) [ inl lt ↦ get_or-replicate n l [] [] lt | inr past ↦ list_at-past (replicate n []) l (omega (arith, length-replicate {A = List ℕ} n [])) ]

pub linked_none : (n : ℕ) → IsLinked (replicate n NONE) [] (replicate n [])
linked_none n = record {
  count = length-replicate n [] ∙ sym (length-replicate n NONE);
  chain = λ l lt. rw (empty_at n l) (get_or-replicate n l NONE NONE (omega (arith, length-replicate n NONE)));
  apart = λ l m x in_l in_m. absurd (nothing_in x (rw (empty_at n l) at in_l));
  few = omega arith;
}

-- ---- what contracts see

abbrev seen : List ℕ → List Link → Lists
seen heads links = record { lists = lists_of heads links; nodes = length links }

pub linked_view : (heads : List ℕ) (links : List Link) (now : Lists) → seen heads links ≡ now → IsLinked heads links (lists_of heads links) → IsLinked heads links now.lists
linked_view heads links now is linked = subst (IsLinked heads links) (ap (λ (v : Lists). v.lists) is) linked

pub view_linked : (heads : List ℕ) (links : List Link) (now : Lists) → IsLinked heads links now.lists → length links ≡ now.nodes → seen heads links ≡ now
view_linked heads links now linked count =
    let both : List (List ℕ) → ℕ → Lists = λ lists nodes. record { lists = lists; nodes = nodes } in
    ap₂ both (lists_of-linked heads links now.lists linked) count

pub apart_view : (heads : List ℕ) (links : List Link) (lists : List (List ℕ)) → IsLinked heads links lists → AreApart (lists_of heads links)
apart_view heads links lists linked = rw (lists_of-linked heads links lists linked) (AreApart-linked heads links lists linked)
