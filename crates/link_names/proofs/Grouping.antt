-- One more symbol among those of its name.
use Rattle.std.proofs.Common.{◌≡◌, ◌≢◌, ◌+◌, ℕ, suc, Bool, true, false, not, cond, List, [], ◌∷◌, ◌++◌, map, get_or, slice_set, refl, ap, sym, ◌∙◌, arith, All, AllPairs}
use Rattle.std.specs.Prelude.{◌||◌}
use Rattle.std.specs.List.{list_any, position_or_len}
use Rattle.std.specs.Str.{bytes_eq}
use Rattle.std.proofs.lemmas.Bool.{false≢true}
use Rattle.std.proofs.lemmas.List.{map-append, append-nil}
use Rattle.std.proofs.lemmas.List.Elements.{filter-append}
use Rattle.std.proofs.lemmas.Slice.Eq.{bytes_eq-Decides}
use Rattle.symbol_scope.specs.Closure.{has, with_one, firsts}
use Rattle.symbol_scope.proofs.Growing.{gained, with_new-append}
use Rattle.link_model.specs.Inputs.{InputSymbol}
use Rattle.link_model.specs.Joined.{name_of}
use Rattle.link_model.proofs.Positions.{firsts_once}
use Rattle.link_names.specs.parts.Grouped.{Groups, names_among, named, groups_of}

-- ---- names

names_more : (xs : List InputSymbol) (x : InputSymbol) → names_among (xs ++ x ∷ []) ≡ with_one bytes_eq (names_among xs) (name_of x)
names_more xs x = ap (firsts bytes_eq) (map-append name_of xs (x ∷ [])) ∙ with_new-append bytes_eq [] (map name_of xs) (name_of x ∷ [])

same : (n : List ℕ) → bytes_eq n n ≡ true
same n = (bytes_eq-Decides n n).1 refl

flipped : (n m : List ℕ) (b : Bool) → bytes_eq n m ≡ b → bytes_eq m n ≡ b
flipped n m true e = (bytes_eq-Decides m n).1 (sym ((bytes_eq-Decides n m).0 e))
flipped n m false e = by (bytes_eq m n) refl
  where
    by : (b : Bool) → bytes_eq m n ≡ b → bytes_eq m n ≡ false
    by false is = is
    by true is = absurd (false≢true (sym e ∙ (bytes_eq-Decides n m).1 (sym ((bytes_eq-Decides m n).0 is))))

-- ---- symbols of a name

module _ (xs : List InputSymbol) (x : InputSymbol) where
  kept : (m : List ℕ) → bytes_eq (name_of x) m ≡ false → named (xs ++ x ∷ []) m ≡ named xs m
  kept m e = filter-append (λ y. bytes_eq (name_of y) m) xs (x ∷ []) ∙ ap (λ b. named xs m ++ cond b (x ∷ []) []) e ∙ append-nil (named xs m)

  grown : (m : List ℕ) → bytes_eq (name_of x) m ≡ true → named (xs ++ x ∷ []) m ≡ named xs m ++ x ∷ []
  grown m e = filter-append (λ y. bytes_eq (name_of y) m) xs (x ∷ []) ∙ ap (λ b. named xs m ++ cond b (x ∷ []) []) e

  all_kept : (ms : List (List ℕ)) → list_any (bytes_eq (name_of x)) ms ≡ false → map (named (xs ++ x ∷ [])) ms ≡ map (named xs) ms
  all_kept [] none = refl
  all_kept (m ∷ ms) none = by (all_kept ms) (bytes_eq (name_of x) m) refl none
    where
      by : (list_any (bytes_eq (name_of x)) ms ≡ false → map (named (xs ++ x ∷ [])) ms ≡ map (named xs) ms) → (b : Bool) → bytes_eq (name_of x) m ≡ b → (b || list_any (bytes_eq (name_of x)) ms) ≡ false → map (named (xs ++ x ∷ [])) (m ∷ ms) ≡ map (named xs) (m ∷ ms)
      by rest true e none = absurd (false≢true (sym none))
      by rest false e none = ap (λ g. g ∷ map (named (xs ++ x ∷ [])) ms) (kept m e) ∙ ap (λ gs. named xs m ∷ gs) (rest none)

nothing_named : (ys : List InputSymbol) (n : List ℕ) → list_any (bytes_eq n) (map name_of ys) ≡ false → named ys n ≡ []
nothing_named [] n none = refl
nothing_named (y ∷ ys) n none = by (nothing_named ys n) (bytes_eq n (name_of y)) refl none
  where
    by : (list_any (bytes_eq n) (map name_of ys) ≡ false → named ys n ≡ []) → (b : Bool) → bytes_eq n (name_of y) ≡ b → (b || list_any (bytes_eq n) (map name_of ys)) ≡ false → named (y ∷ ys) n ≡ []
    by rest true e none = absurd (false≢true (sym none))
    by rest false e none = ap (λ b. cond b (y ∷ named ys n) (named ys n)) (flipped n (name_of y) false e) ∙ rest none

-- a name that isn't among them names none
unnamed : (xs : List InputSymbol) (n : List ℕ) → has bytes_eq (names_among xs) n ≡ false → named xs n ≡ []
unnamed xs n none = nothing_named xs n (by (list_any (bytes_eq n) (map name_of xs)) refl)
  where
    by : (b : Bool) → list_any (bytes_eq n) (map name_of xs) ≡ b → list_any (bytes_eq n) (map name_of xs) ≡ false
    by false e = e
    by true e = absurd (false≢true (sym none ∙ gained bytes_eq bytes_eq-Decides [] (map name_of xs) n e))

-- ---- a symbol of a new name

pub first_of_name : (xs : List InputSymbol) (x : InputSymbol) → has bytes_eq (names_among xs) (name_of x) ≡ false
    → ◌≡◌ {A = Groups} (record { names = names_among xs ++ name_of x ∷ []; groups = map (named xs) (names_among xs) ++ (x ∷ []) ∷ [] }) (groups_of (xs ++ x ∷ []))
first_of_name xs x none =
    let names : names_among (xs ++ x ∷ []) ≡ names_among xs ++ name_of x ∷ [] = names_more xs x ∙ ap (λ b. cond b (names_among xs) (names_among xs ++ name_of x ∷ [])) none in
    let own : named (xs ++ x ∷ []) (name_of x) ≡ x ∷ [] = grown xs x (name_of x) (same (name_of x)) ∙ ap (λ g. g ++ x ∷ []) (unnamed xs (name_of x) none) in
    let groups : map (named (xs ++ x ∷ [])) (names_among xs ++ name_of x ∷ []) ≡ map (named xs) (names_among xs) ++ (x ∷ []) ∷ [] =
    map-append (named (xs ++ x ∷ [])) (names_among xs) (name_of x ∷ []) ∙ ap (λ gs. gs ++ named (xs ++ x ∷ []) (name_of x) ∷ []) (all_kept xs x (names_among xs) none)
    ∙ ap (λ g. map (named xs) (names_among xs) ++ g ∷ []) own in
    sym (ap (λ ns. record { names = ns; groups = map (named (xs ++ x ∷ [])) ns }) names ∙ ap (λ gs. record { names = names_among xs ++ name_of x ∷ []; groups = gs }) groups)

-- ---- a further symbol of a name

not_among : (m : List ℕ) (n : List ℕ) (ms : List (List ℕ)) → n ≡ m → All (λ k. m ≢ k) ms → list_any (bytes_eq n) ms ≡ false
not_among m n [] is apart = refl
not_among m n (k ∷ ks) is apart = by (not_among m n ks is (λ i d l. apart (suc i) d (omega (arith, l)))) (bytes_eq n k) refl
  where
    by : list_any (bytes_eq n) ks ≡ false → (b : Bool) → bytes_eq n k ≡ b → list_any (bytes_eq n) (k ∷ ks) ≡ false
    by rest true e = absurd (apart 0 k (omega arith) (sym is ∙ (bytes_eq-Decides n k).0 e))
    by rest false e = ap (λ b. b || list_any (bytes_eq n) ks) e ∙ rest

at_its_place : (xs : List InputSymbol) (x : InputSymbol) (ms : List (List ℕ)) → AllPairs (λ a b. a ≢ b) ms → list_any (bytes_eq (name_of x)) ms ≡ true
    → map (named (xs ++ x ∷ [])) ms ≡ slice_set (map (named xs) ms) (position_or_len (bytes_eq (name_of x)) ms) (get_or (map (named xs) ms) (position_or_len (bytes_eq (name_of x)) ms) [] ++ x ∷ [])
at_its_place xs x [] once some = absurd (false≢true some)
at_its_place xs x (m ∷ ms) once some = by (at_its_place xs x ms (λ i j d l u. once (suc i) (suc j) d (omega (arith, l)) (omega (arith, u)))) (bytes_eq (name_of x) m) refl some
  where
    place : ℕ
    place = position_or_len (bytes_eq (name_of x)) ms

    Grows : List (List ℕ) → Type 0
    Grows ks =
        map (named (xs ++ x ∷ [])) ks ≡ slice_set (map (named xs) ks) (position_or_len (bytes_eq (name_of x)) ks) (get_or (map (named xs) ks) (position_or_len (bytes_eq (name_of x)) ks) [] ++ x ∷ [])

    by : (list_any (bytes_eq (name_of x)) ms ≡ true → Grows ms) → (b : Bool) → bytes_eq (name_of x) m ≡ b → (b || list_any (bytes_eq (name_of x)) ms) ≡ true
        → map (named (xs ++ x ∷ [])) (m ∷ ms) ≡ slice_set (map (named xs) (m ∷ ms)) (position_or_len (bytes_eq (name_of x)) (m ∷ ms)) (get_or (map (named xs) (m ∷ ms)) (position_or_len (bytes_eq (name_of x)) (m ∷ ms)) [] ++ x ∷ [])
    by rest true e some =
        let here : position_or_len (bytes_eq (name_of x)) (m ∷ ms) ≡ 0 = ap (λ b. cond (not b) (1 + place) 0) e in
        rw here (ap (λ g. g ∷ map (named (xs ++ x ∷ [])) ms) (grown xs x m e)
        ∙ ap (λ gs. (named xs m ++ x ∷ []) ∷ gs) (all_kept xs x ms (not_among m (name_of x) ms ((bytes_eq-Decides (name_of x) m).0 e) (λ i d l. once 0 (suc i) d (omega arith) (omega (arith, l))))))
    by rest false e some =
        let next : 1 + place ≡ suc place = omega arith in
        let behind : position_or_len (bytes_eq (name_of x)) (m ∷ ms) ≡ suc place = ap (λ b. cond (not b) (1 + place) 0) e ∙ next in
        rw behind (ap (λ g. g ∷ map (named (xs ++ x ∷ [])) ms) (kept xs x m e) ∙ ap (λ gs. named xs m ∷ gs) (rest some))

pub more_of_name : (xs : List InputSymbol) (x : InputSymbol) → has bytes_eq (names_among xs) (name_of x) ≡ true
    → ◌≡◌ {A = Groups} (record { names = names_among xs; groups = slice_set (map (named xs) (names_among xs)) (position_or_len (bytes_eq (name_of x)) (names_among xs)) (get_or (map (named xs) (names_among xs)) (position_or_len (bytes_eq (name_of x)) (names_among xs)) [] ++ x ∷ []) }) (groups_of (xs ++ x ∷ []))
more_of_name xs x some =
    let names : names_among (xs ++ x ∷ []) ≡ names_among xs = names_more xs x ∙ ap (λ b. cond b (names_among xs) (names_among xs ++ name_of x ∷ [])) some in
    sym (ap (λ ns. record { names = ns; groups = map (named (xs ++ x ∷ [])) ns }) names
    ∙ ap (λ gs. record { names = names_among xs; groups = gs }) (at_its_place xs x (names_among xs) (firsts_once bytes_eq bytes_eq-Decides (map name_of xs)) some))
