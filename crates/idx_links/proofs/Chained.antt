-- One list of linked nodes: what it is as links are written.
use Rattle.std.proofs.Common.{◌≡◌, ℕ, zero, suc, ◌+◌, ◌<◌, ◌≤◌, ◌⊎◌, inl, inr, true, eqb, List, [], ◌∷◌, ◌++◌, length, set, refl, sym, ap, ◌∙◌, subst, arith, length-set, get_or-set_same, get_or-set_other, AllPairs}
use Rattle.std.specs.Prelude.{◌≢◌, Contains, slice_get}
use Rattle.std.specs.List.{list_any}
use Rattle.std.proofs.lemmas.Bool.{cases_eq, eq-eqb, false≢true, or_cases, eqb-true, lt-ltb, le-ltb, ne_eqb}
use Rattle.std.proofs.lemmas.Bool.Decides.{Decides-eqb}
use Rattle.std.proofs.lemmas.List.{get_or_append_left, length_push}
use Rattle.std.proofs.lemmas.List.Kept.{AllPairs-cons}
use Rattle.std.proofs.lemmas.Map.Made.{IsDistinct-from_AllPairs}
use Rattle.std.proofs.lemmas.Map.Steps.{length-le_from_distinct_below}
use Rattle.fd_base.proofs.Members.{contains_first, contains_later, first_or_later, nothing_in, all_contained}
use Rattle.idx_links.specs.declared.links.Link.{Link}
use Rattle.idx_links.specs.declared.links.TheConstants.{NONE}
use Rattle.idx_links.specs.parts.Nodes.{id_behind}
use Rattle.idx_links.specs.parts.Links.{node_of, link_at, with_prev, with_next, between, links_without, first_without, IsChain, list_from}
use Rattle.idx_links.proofs.Edited.{not_first, not_later, less, less-first, less-other, less-none, more_behind, more_behind-other}

-- ---- reads after writes

link_at-same : (links : List Link) (at : ℕ) (link : Link) → at < length links → link_at (set links at link) at ≡ link
link_at-same links at link lt = get_or-set_same links at link (record { next = NONE; prev = NONE }) lt

link_at-other : (links : List Link) (at x : ℕ) (link : Link) → x ≢ at → link_at (set links at link) x ≡ link_at links x
link_at-other links at x link differ = get_or-set_other links at x link (record { next = NONE; prev = NONE }) differ

-- ---- the list that a chain is

pub list_from-chain : (links : List Link) (fuel before at : ℕ) (ids : List ℕ) → length links ≤ NONE → length ids ≤ fuel → IsChain links before at ids → list_from links fuel at ≡ ids
list_from-chain links zero before at [] few enough c = refl
list_from-chain links zero before at (id ∷ ids) few enough c = absurd (omega arith)
list_from-chain links (suc fuel) before at [] few enough c = rw (le-ltb at (length links) (omega (arith, few, c)))
list_from-chain links (suc fuel) before at (id ∷ ids) few enough c =
    let rest = list_from-chain links fuel id (link_at links id).next ids few (omega arith) c.3 in
    rw (c.0, lt-ltb id (length links) c.1, rest)

pub same_chain : (links : List Link) (b b' at : ℕ) (xs ys : List ℕ) → length links ≤ NONE → IsChain links b at xs → IsChain links b' at ys → xs ≡ ys
same_chain links b b' at xs ys few c d =
    sym (list_from-chain links (length xs + length ys) b at xs few (omega arith) c) ∙ list_from-chain links (length xs + length ys) b' at ys few (omega arith) d

-- the chain behind one of its nodes
chain_behind : (links : List Link) (b at y : ℕ) (xs : List ℕ) → IsChain links b at xs → Contains xs y → (ys : List ℕ) × IsChain links y (link_at links y).next ys × (length ys < length xs)
chain_behind links b at y [] c there = absurd (nothing_in y there)
chain_behind links b at y (x ∷ xs) c there = elim (first_or_later x y xs there) [
  | inl is ↦ (xs, subst (λ z. IsChain links z (link_at links z).next xs) is c.3, omega arith)
  | inr later ↦ let rest = chain_behind links x (link_at links x).next y xs c.3 later in (rest.0, rest.1, omega (arith, rest.2))
]

pub not_again : (links : List Link) (b at x : ℕ) (xs : List ℕ) → length links ≤ NONE → IsChain links b at (x ∷ xs) → ¬ Contains xs x
not_again links b at x xs few c there =
    let rest = chain_behind links x (link_at links x).next x xs c.3 there in
    let same : xs ≡ rest.0 = same_chain links x x (link_at links x).next xs rest.0 few c.3 rest.1 in
    omega (arith, ap length same, rest.2)

pub chain_once : (links : List Link) (b at : ℕ) (xs : List ℕ) → length links ≤ NONE → IsChain links b at xs → AllPairs ◌≢◌ xs
chain_once links b at [] few c = λ i j d lt within. absurd (omega arith)
chain_once links b at (x ∷ xs) few c =
    let off = not_again links b at x xs few c in
    AllPairs-cons ◌≢◌ x xs
    (all_contained (λ y. x ≢ y) xs (λ y there is. off (subst (Contains xs) (sym is) there)))
    (chain_once links x (link_at links x).next xs few c.3)

pub chain_below : (links : List Link) (b at y : ℕ) (xs : List ℕ) → IsChain links b at xs → Contains xs y → y < length links
chain_below links b at y [] c there = absurd (nothing_in y there)
chain_below links b at y (x ∷ xs) c there = elim (first_or_later x y xs there) [
  | inl is ↦ subst (λ z. z < length links) is c.1
  | inr later ↦ chain_below links x (link_at links x).next y xs c.3 later
]

any_below : (links : List Link) (b at y : ℕ) (xs : List ℕ) → IsChain links b at xs → list_any (eqb y) xs ≡ true → y < length links
any_below links b at y [] c found = absurd (false≢true found)
any_below links b at y (x ∷ xs) c found = elim (or_cases (eqb y x) (list_any (eqb y) xs) found) [
  | inl here ↦ omega (arith, eqb-true y x here, c.1)
  | inr later ↦ any_below links x (link_at links x).next y xs c.3 later
]

-- a list has no more nodes than there are
pub chain_length : (links : List Link) (b at : ℕ) (xs : List ℕ) → length links ≤ NONE → IsChain links b at xs → length xs ≤ length links
chain_length links b at xs few c =
    length-le_from_distinct_below xs (length links) (IsDistinct-from_AllPairs Decides-eqb xs (chain_once links b at xs few c)) (λ y. any_below links b at y xs c)

-- ---- neighbours

-- a node that isn't in the list isn't its first either
begin_apart : (links : List Link) (b at y : ℕ) (xs : List ℕ) → length links ≤ NONE → y < length links → IsChain links b at xs → ¬ Contains xs y → y ≢ at
begin_apart links b at y [] few lt c off is = omega (arith, c)
begin_apart links b at y (x ∷ xs) few lt c off is = not_first x y xs off (sym c.0 ∙ sym is)

-- a node of which nothing is in the list isn't behind one of the list
next_apart : (links : List Link) (b at p y : ℕ) (xs : List ℕ) → length links ≤ NONE → y < length links → IsChain links b at xs → Contains xs p → ¬ Contains xs y → y ≢ (link_at links p).next
next_apart links b at p y [] few lt c there off = absurd (nothing_in p there)
next_apart links b at p y (x ∷ xs) few lt c there off = elim (first_or_later x p xs there) [
  | inl is ↦ subst (λ z. y ≢ (link_at links z).next) is (begin_apart links x (link_at links x).next y xs few lt c.3 (not_later x y xs off))
  | inr later ↦ next_apart links x (link_at links x).next p y xs few lt c.3 later (not_later x y xs off)
]

pub begin_in : (links : List Link) (b at : ℕ) (xs : List ℕ) → IsChain links b at xs → (at ≡ NONE) ⊎ Contains xs at
begin_in links b at [] c = inl c
begin_in links b at (x ∷ xs) c = inr (contains_first x at xs (sym c.0))

-- what is behind a node is in the list, or it is the last
pub next_in : (links : List Link) (b at y : ℕ) (xs : List ℕ) → IsChain links b at xs → Contains xs y → ((link_at links y).next ≡ NONE) ⊎ Contains xs (link_at links y).next
next_in links b at y [] c there = absurd (nothing_in y there)
next_in links b at y (x ∷ xs) c there =
    let next = (link_at links y).next in
    let rest : (next ≡ NONE) ⊎ Contains xs next = elim (first_or_later x y xs there) [
      | inl is ↦ subst (λ z. ((link_at links z).next ≡ NONE) ⊎ Contains xs (link_at links z).next) is (begin_in links x (link_at links x).next xs c.3)
      | inr later ↦ next_in links x (link_at links x).next y xs c.3 later
    ] in
    elim rest [ inl none ↦ inl none | inr behind ↦ inr (contains_later x next xs behind) ]

-- what is before a node that isn't the first is in the list
pub prev_in : (links : List Link) (b at y x : ℕ) (xs : List ℕ) → IsChain links b at (x ∷ xs) → Contains xs y → Contains (x ∷ xs) (link_at links y).prev
prev_in links b at y x [] c there = absurd (nothing_in y there)
prev_in links b at y x (z ∷ zs) c there = elim (first_or_later z y zs there) [
  | inl is ↦ contains_first x (link_at links y).prev (z ∷ zs) (subst (λ w. x ≡ (link_at links w).prev) is (sym c.3.2))
  | inr later ↦ contains_later x (link_at links y).prev (z ∷ zs) (prev_in links x (link_at links x).next y z zs c.3 later)
]

pub prev_of : (links : List Link) (b at y : ℕ) (xs : List ℕ) → IsChain links b at xs → Contains xs y → ((link_at links y).prev ≡ b) ⊎ Contains xs (link_at links y).prev
prev_of links b at y [] c there = absurd (nothing_in y there)
prev_of links b at y (x ∷ xs) c there = elim (first_or_later x y xs there) [
  | inl is ↦ inl (subst (λ z. (link_at links z).prev ≡ b) is c.2)
  | inr later ↦ inr (prev_in links b at y x xs c later)
]

-- ---- writes

-- a write at a node that isn't in the list
pub IsChain-write : (links : List Link) (w b at : ℕ) (link : Link) (xs : List ℕ) → ¬ Contains xs w → IsChain links b at xs → IsChain (set links w link) b at xs
IsChain-write links w b at link [] off c = c
IsChain-write links w b at link (x ∷ xs) off c =
    let same : link_at (set links w link) x ≡ link_at links x = link_at-other links w x link (not_first x w xs off) in
    (c.0, omega (arith, length-set links w link, c.1), ap (λ l. l.prev) same ∙ c.2, rw same (IsChain-write links w x (link_at links x).next link xs (not_later x w xs off) c.3))

-- another node stands before the list
pub IsChain-back : (links : List Link) (b b' at : ℕ) (xs : List ℕ) → length links ≤ NONE → IsChain links b at xs → IsChain (with_prev at b' links) b' at xs
IsChain-back links b b' at [] few c = c
IsChain-back links b b' at (x ∷ xs) few c = subst (λ z. IsChain (with_prev z b' links) b' z (x ∷ xs)) (sym c.0) (
    let link : Link = record { next = (link_at links x).next; prev = b' } in
    let same : link_at (set links x link) x ≡ link = link_at-same links x link c.1 in
    (refl, omega (arith, length-set links x link, c.1), ap (λ l. l.prev) same, rw same (IsChain-write links x x (link_at links x).next link xs (not_again links b at x xs few c) c.3)))

-- a node comes in before the list
pub IsChain-first : (links : List Link) (b at y : ℕ) (xs : List ℕ) → length links ≤ NONE → y < length links → ¬ Contains xs y → IsChain links b at xs → IsChain (between y b at links) b y (y ∷ xs)
IsChain-first links b at y xs few lt off c =
    let link : Link = record { next = at; prev = b } in
    let put = set links y link in
    let long : length put ≡ length links = length-set links y link in
    let kept = IsChain-write links y b at link xs off c in
    let back = IsChain-back put b y at xs (omega arith) kept in
    let read : link_at (with_prev at y put) y ≡ link =
    link_at-other put at y (record { next = (link_at put at).next; prev = y }) (begin_apart links b at y xs few lt c off) ∙ link_at-same links y link lt in
    (refl, omega (arith, length-set put at (record { next = (link_at put at).next; prev = y })), ap (λ l. l.prev) read, rw read back)

-- a node comes in behind one of the list
pub IsChain-behind : (links : List Link) (b at p y : ℕ) (xs : List ℕ) → length links ≤ NONE → y < length links → Contains xs p → ¬ Contains xs y → IsChain links b at xs → IsChain (with_next p y (between y p (link_at links p).next links)) b at (more_behind p y xs)
IsChain-behind links b at p y [] few lt there off c = absurd (nothing_in p there)
IsChain-behind links b at p y (x ∷ xs) few lt there off c =
    let next = (link_at links p).next in
    let mid = between y p next links in
    let link : Link = record { next = y; prev = (link_at mid p).prev } in
    let put : Link = record { next = next; prev = p } in
    let back : Link = record { next = (link_at (set links y put) next).next; prev = y } in
    let long : length mid ≡ length links = length-set (set links y put) next back ∙ length-set links y put in
    let longer : length (set mid p link) ≡ length links = length-set mid p link ∙ long in
    let again = not_again links b at x xs few c in
    let new : x ≢ y = not_first x y xs off in
    elim (cases_eq x p) [
      | inl is ↦
          let next_is : next ≡ (link_at links x).next = ap (λ z. (link_at links z).next) (sym is) in
          let behind : IsChain links x next xs = subst (λ z. IsChain links x z xs) (sym next_is) c.3 in
          let differ : x ≢ next = begin_apart links x next x xs few c.1 behind again in
          let mid_read : link_at mid x ≡ link_at links x = link_at-other (set links y put) next x back differ ∙ link_at-other links y x put new in
          let read : link_at (set mid p link) x ≡ link = subst (λ z. link_at (set mid p link) z ≡ link) (sym is) (link_at-same mid p link (omega (arith, is, c.1, long))) in
          let first : IsChain mid p y (y ∷ xs) = IsChain-first links p next y xs few lt (not_later x y xs off) (subst (λ z. IsChain links z next xs) is behind) in
          let off_p : ¬ Contains (y ∷ xs) p = λ at_p. elim (first_or_later y p xs at_p) [ inl same ↦ new (is ∙ sym same) | inr later ↦ again (subst (Contains xs) (sym is) later) ] in
          let kept : IsChain (set mid p link) p y (y ∷ xs) = IsChain-write mid p p y link (y ∷ xs) off_p first in
          let here : more_behind p y (x ∷ xs) ≡ x ∷ y ∷ xs = rw (eq-eqb x p is) in
          rw here (c.0, omega (arith, longer, c.1), ap (λ l. l.prev) read ∙ ap (λ z. (link_at mid z).prev) (sym is) ∙ ap (λ l. l.prev) mid_read ∙ c.2, rw read (subst (λ z. IsChain (set mid p link) z y (y ∷ xs)) (sym is) kept))
      | inr differ ↦
          let later : Contains xs p = elim (first_or_later x p xs there) [ inl is ↦ absurd (differ is) | inr later ↦ later ] in
          let apart : x ≢ next = next_apart links x (link_at links x).next p x xs few c.1 c.3 later again in
          let read : link_at (set mid p link) x ≡ link_at links x =
          link_at-other mid p x link differ ∙ link_at-other (set links y put) next x back apart ∙ link_at-other links y x put new in
          let rest = IsChain-behind links x (link_at links x).next p y xs few lt later (not_later x y xs off) c.3 in
          rw (more_behind-other x p y xs differ) (c.0, omega (arith, longer, c.1), ap (λ l. l.prev) read ∙ c.2, rw read rest)
    ]

-- a later node goes
IsChain-without_later : (links : List Link) (b at y x : ℕ) (xs : List ℕ) → length links ≤ NONE → Contains xs y → IsChain links b at (x ∷ xs) → IsChain (with_next (link_at links y).prev (link_at links y).next (with_prev (link_at links y).next (link_at links y).prev links)) b at (less y (x ∷ xs))
IsChain-without_later links b at y x [] few there c = absurd (nothing_in y there)
IsChain-without_later links b at y x (z ∷ zs) few there c =
    let next = (link_at links y).next in
    let prev = (link_at links y).prev in
    let back : Link = record { next = (link_at links next).next; prev = prev } in
    let mid = set links next back in
    let link : Link = record { next = next; prev = (link_at mid prev).prev } in
    let longer : length (set mid prev link) ≡ length links = length-set mid prev link ∙ length-set links next back in
    let again = not_again links b at x (z ∷ zs) few c in
    let apart : x ≢ next = next_apart links x (link_at links x).next y x (z ∷ zs) few c.1 c.3 there again in
    let differ : x ≢ y = λ is. again (subst (Contains (z ∷ zs)) (sym is) there) in
    let mid_read : link_at mid x ≡ link_at links x = link_at-other links next x back apart in
    elim (cases_eq z y) [
      | inl is ↦
          let before : prev ≡ x = subst (λ w. (link_at links w).prev ≡ x) is c.3.2 in
          let read : link_at (set mid prev link) x ≡ link = subst (λ w. link_at (set mid prev link) w ≡ link) before (link_at-same mid prev link (omega (arith, before, c.1, length-set links next back))) in
          let first : IsChain mid prev next zs = subst (λ w. IsChain (with_prev (link_at links w).next prev links) prev (link_at links w).next zs) is (IsChain-back links z prev (link_at links z).next zs few c.3.3) in
          let off : ¬ Contains zs prev = λ at_prev. again (contains_later z x zs (subst (Contains zs) before at_prev)) in
          let kept : IsChain (set mid prev link) prev next zs = IsChain-write mid prev prev next link zs off first in
          let gone : less y (z ∷ zs) ≡ zs = subst (λ w. less w (z ∷ zs) ≡ zs) is (less-first z zs ∙ less-none z zs (not_again links x (link_at links x).next z zs few c.3)) in
          rw (less-other x y (z ∷ zs) differ, gone) (c.0, omega (arith, longer, c.1), ap (λ l. l.prev) read ∙ ap (λ w. (link_at mid w).prev) before ∙ ap (λ l. l.prev) mid_read ∙ c.2, rw read (subst (λ w. IsChain (set mid prev link) w next zs) before kept))
      | inr other ↦
          let later : Contains zs y = elim (first_or_later z y zs there) [ inl is ↦ absurd (other is) | inr later ↦ later ] in
          let in_rest = prev_in links x (link_at links x).next y z zs c.3 later in
          let off : x ≢ prev = λ is. again (subst (Contains (z ∷ zs)) (sym is) in_rest) in
          let read : link_at (set mid prev link) x ≡ link_at links x = link_at-other mid prev x link off ∙ mid_read in
          let rest = IsChain-without_later links x (link_at links x).next y z zs few later c.3 in
          rw (less-other x y (z ∷ zs) differ) (c.0, omega (arith, longer, c.1), ap (λ l. l.prev) read ∙ c.2, rw read rest)
    ]

-- a node goes
pub IsChain-without : (links : List Link) (at y : ℕ) (xs : List ℕ) → length links ≤ NONE → Contains xs y → IsChain links NONE at xs → IsChain (links_without y links) NONE (first_without y links at) (less y xs)
IsChain-without links at y [] few there c = absurd (nothing_in y there)
IsChain-without links at y (x ∷ xs) few there c = elim (first_or_later x y xs there) [
  | inl is ↦
      let none : (link_at links y).prev ≡ NONE = subst (λ z. (link_at links z).prev ≡ NONE) is c.2 in
      let gone : less y (x ∷ xs) ≡ xs = subst (λ z. less z (x ∷ xs) ≡ xs) is (less-first x xs ∙ less-none x xs (not_again links NONE at x xs few c)) in
      let back : IsChain (with_prev (link_at links y).next (link_at links y).prev links) (link_at links y).prev (link_at links y).next xs =
      IsChain-back links y (link_at links y).prev (link_at links y).next xs few (subst (λ z. IsChain links z (link_at links z).next xs) is c.3) in
      rw (eq-eqb (link_at links y).prev NONE none, gone) (subst (λ z. IsChain (with_prev (link_at links y).next (link_at links y).prev links) z (link_at links y).next xs) none back)
  | inr later ↦
      let before = chain_below links NONE at (link_at links y).prev (x ∷ xs) c (prev_in links NONE at y x xs c later) in
      rw (ne_eqb (link_at links y).prev NONE (λ is. omega arith)) (IsChain-without_later links NONE at y x xs few later c)
]

-- a link more
pub IsChain-push : (links : List Link) (b at : ℕ) (link : Link) (xs : List ℕ) → IsChain links b at xs → IsChain (links ++ link ∷ []) b at xs
IsChain-push links b at link [] c = c
IsChain-push links b at link (x ∷ xs) c =
    let same : link_at (links ++ link ∷ []) x ≡ link_at links x = get_or_append_left links (link ∷ []) (record { next = NONE; prev = NONE }) x c.1 in
    (c.0, omega (arith, length_push links link, c.1), ap (λ l. l.prev) same ∙ c.2, rw same (IsChain-push links x (link_at links x).next link xs c.3))

-- ---- what is read

pub node_of-first : (links : List Link) (b at : ℕ) (xs : List ℕ) → length links ≤ NONE → IsChain links b at xs → node_of at ≡ slice_get xs 0
node_of-first links b at [] few c = rw (eq-eqb at NONE c)
node_of-first links b at (x ∷ xs) few c = rw (c.0, ne_eqb x NONE (λ is. omega (arith, c.1)))

pub node_of-next : (links : List Link) (b at y : ℕ) (xs : List ℕ) → length links ≤ NONE → Contains xs y → IsChain links b at xs → node_of (link_at links y).next ≡ id_behind y xs
node_of-next links b at y [] few there c = absurd (nothing_in y there)
node_of-next links b at y (x ∷ xs) few there c = elim (cases_eq x y) [
  | inl is ↦ rw (eq-eqb x y is) (ap (λ z. node_of (link_at links z).next) (sym is) ∙ node_of-first links x (link_at links x).next xs few c.3)
  | inr differ ↦
      let later : Contains xs y = elim (first_or_later x y xs there) [ inl is ↦ absurd (differ is) | inr later ↦ later ] in
      rw (ne_eqb x y differ) (node_of-next links x (link_at links x).next y xs few later c.3)
]
