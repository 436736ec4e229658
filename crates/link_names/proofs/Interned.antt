-- A set of names in order, and the list of them.
use Rattle.std.proofs.Common.{◌≡◌, ℕ, Bool, true, false, not, cond, List, [], ◌∷◌, ◌++◌, map, length, ◌<◌, get_or, slice_set, refl, sym, ap, ◌∙◌}
use Rattle.std.specs.Prelude.{◌+◌, ◌||◌, nat_lt, position, Some, None}
use Rattle.std.specs.Borrow.{Bor}
use Rattle.std.specs.List.{list_any, position_or_len}
use Rattle.std.specs.Str.{bytes_eq}
use Rattle.std.proofs.lemmas.List.{map-append, length-map}
use Rattle.std.proofs.lemmas.Option.{get_or_from_slice_get, slice_get_read}
use Rattle.indexmap.specs.IndexSet.{insert_key}
use Rattle.link_model.specs.Inputs.{InputSymbol}
use Rattle.link_model.specs.Joined.{name_of}
use Rattle.link_names.specs.parts.Grouped.{Groups, names_among, named, groups_of}
use Rattle.link_names.proofs.Grouping.{first_of_name, more_of_name}

abbrev pub now : Bor (List ℕ) → List ℕ
now b = b.now

abbrev pub same : Bor (List ℕ) → Bor (List ℕ) → Bool
same a b = bytes_eq a.now b.now

pub any_same : (k : Bor (List ℕ)) (ks : List (Bor (List ℕ))) → list_any (same k) ks ≡ list_any (bytes_eq k.now) (map now ks)
any_same k [] = refl
any_same k (j ∷ ks) = ap (λ b. bytes_eq k.now j.now || b) (any_same k ks)

pub place_same : (k : Bor (List ℕ)) (ks : List (Bor (List ℕ))) → position_or_len (same k) ks ≡ position_or_len (bytes_eq k.now) (map now ks)
place_same k [] = refl
place_same k (j ∷ ks) = ap (λ n. cond (not (bytes_eq k.now j.now)) (1 + n) 0) (place_same k ks)

pub position_same : (k : Bor (List ℕ)) (ks : List (Bor (List ℕ))) → position (same k) ks ≡ position (bytes_eq k.now) (map now ks)
position_same k ks = λ i. cond (nat_lt (place_same k ks i) (sym (length-map ks now) i)) (Some (place_same k ks i)) None

is_false : (b : Bool) → true ≡ not b → b ≡ false
is_false true e = cc
is_false false e = refl

is_true : (b : Bool) → false ≡ not b → b ≡ true
is_true true e = refl
is_true false e = cc

module _ (xs : List InputSymbol) (x : InputSymbol) (k : Bor (List ℕ)) (ks new : List (Bor (List ℕ))) (groups more : List (List InputSymbol))
    (named_so : k.now ≡ name_of x) (old : ◌≡◌ {A = Groups} (record { names = map now ks; groups = groups }) (groups_of xs)) (inserted : new ≡ insert_key same ks k) where
  names_old : map now ks ≡ names_among xs
  names_old = ap (λ (g : Groups). g.names) old

  groups_old : groups ≡ map (named xs) (names_among xs)
  groups_old = ap (λ (g : Groups). g.groups) old

  among : list_any (same k) ks ≡ list_any (bytes_eq (name_of x)) (names_among xs)
  among = any_same k ks ∙ ap (λ n. list_any (bytes_eq n) (map now ks)) named_so ∙ ap (list_any (bytes_eq (name_of x))) names_old

  pub put_first : true ≡ not (list_any (same k) ks) → more ≡ groups ++ (x ∷ []) ∷ [] → ◌≡◌ {A = Groups} (record { names = map now new; groups = more }) (groups_of (xs ++ x ∷ []))
  put_first absent pushed =
      let none = is_false (list_any (same k) ks) absent in
      let keys : new ≡ ks ++ k ∷ [] = inserted ∙ ap (λ b. cond b ks (ks ++ k ∷ [])) none in
      let names : map now new ≡ names_among xs ++ name_of x ∷ [] = ap (map now) keys ∙ map-append now ks (k ∷ []) ∙ ap (λ ns. ns ++ k.now ∷ []) names_old ∙ ap (λ n. names_among xs ++ n ∷ []) named_so in
      let lists : more ≡ map (named xs) (names_among xs) ++ (x ∷ []) ∷ [] = pushed ∙ ap (λ gs. gs ++ (x ∷ []) ∷ []) groups_old in
      ap (λ ns. record { names = ns; groups = more }) names ∙ ap (λ gs. record { names = names_among xs ++ name_of x ∷ []; groups = gs }) lists
      ∙ first_of_name xs x (sym among ∙ none)

  pub put_more : (place : ℕ) (group grown : List InputSymbol) → false ≡ not (list_any (same k) ks) → place ≡ position_or_len (same k) ks → place < length groups → group ≡ get_or groups place group
      → grown ≡ group ++ x ∷ [] → more ≡ slice_set groups place grown
      → ◌≡◌ {A = Groups} (record { names = map now new; groups = more }) (groups_of (xs ++ x ∷ []))
  put_more place group grown present at within is grows set =
      let pushed : more ≡ slice_set groups place (get_or groups place [] ++ x ∷ []) =
      set ∙ ap (slice_set groups place) (grows ∙ ap (λ g. g ++ x ∷ []) (sym (get_or_from_slice_get groups place group [] (slice_get_read groups (length groups) place group refl within is)))) in
      let some = is_true (list_any (same k) ks) present in
      let keys : new ≡ ks = inserted ∙ ap (λ b. cond b ks (ks ++ k ∷ [])) some in
      let names : map now new ≡ names_among xs = ap (map now) keys ∙ names_old in
      let there : place ≡ position_or_len (bytes_eq (name_of x)) (names_among xs) = at ∙ place_same k ks ∙ ap (λ n. position_or_len (bytes_eq n) (map now ks)) named_so ∙ ap (position_or_len (bytes_eq (name_of x))) names_old in
      let lists : more ≡ slice_set (map (named xs) (names_among xs)) (position_or_len (bytes_eq (name_of x)) (names_among xs)) (get_or (map (named xs) (names_among xs)) (position_or_len (bytes_eq (name_of x)) (names_among xs)) [] ++ x ∷ []) =
      pushed ∙ ap (λ gs. slice_set gs place (get_or gs place [] ++ x ∷ [])) groups_old ∙ ap (λ p. slice_set (map (named xs) (names_among xs)) p (get_or (map (named xs) (names_among xs)) p [] ++ x ∷ [])) there in
      ap (λ ns. record { names = ns; groups = more }) names ∙ ap (λ gs. record { names = names_among xs; groups = gs }) lists
      ∙ more_of_name xs x (sym among ∙ some)
