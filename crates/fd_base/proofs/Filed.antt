-- The entries of a store in memory, as its files.
use Rattle.std.proofs.Common.{◌≡◌, ℕ, Bool, true, false, cond, Option, Some, List, [], ◌∷◌, map, refl, sym, ap, ◌∙◌, Ordering, Vec, Global}
use Rattle.std.specs.declared.cmp.Ordering.TheVariants.{Less, Equal, Greater}
use Rattle.std.specs.Ordering.{nat_cmp, is_eq, match_ordering}
use Rattle.std.specs.Cmp.Lexicographic.{slice_cmp, nat_list_cmp_total}
use Rattle.std.specs.FinMap.{get, insert, find, get-from_entries, get-insert, same_map, slice_cmp-IsAntisymmetric, nat_cmp-IsAntisymmetric}
use Rattle.std.specs.Cmp.{eq_by_cmp_equiv}
use Rattle.std.proofs.lemmas.Bool.{false≢true}
use Rattle.std.specs.BTreeMap.{insert_entry}
use Rattle.std.specs.Map.{lookup}
use Rattle.fd_base.specs.parts.Entries.{entry_of, files_of}

abbrev compared : List ℕ → List ℕ → Ordering
compared = slice_cmp nat_cmp

-- equal names are one name
one_name : (a b : List ℕ) → compared a b ≡ Equal → a ≡ b
one_name = slice_cmp-IsAntisymmetric nat_cmp-IsAntisymmetric

found : (name : List ℕ) (entries : List (Vec ℕ Global × List ℕ)) → find compared name (map entry_of entries) ≡ lookup (λ key. is_eq (compared name key.items)) entries
found name [] = refl
found name (entry ∷ entries) = ap (cond (is_eq (compared name entry.0.items)) (Some entry.1)) (found name entries)

-- a name is looked up in the entries
pub get-files_of : (entries : List (Vec ℕ Global × List ℕ)) (name : List ℕ) → get (files_of entries) name ≡ lookup (λ key. is_eq (compared name key.items)) entries
get-files_of entries name = get-from_entries nat_list_cmp_total (map entry_of entries) name ∙ found name entries

replaced : (b : Bool) (x y : Option (List ℕ)) (z : Option (List ℕ)) → cond b x z ≡ cond b x (cond b y z)
replaced true x y z = refl
replaced false x y z = refl

swapped : (a b : Bool) (x y z : Option (List ℕ)) → (a ≡ true → b ≡ true → ⊥) → cond a x (cond b y z) ≡ cond b y (cond a x z)
swapped true true x y z apart = absurd (apart refl refl)
swapped true false x y z apart = refl
swapped false b x y z apart = refl

is_eq-Equal : (r : Ordering) → is_eq r ≡ true → r ≡ Equal
is_eq-Equal Less e = cc
is_eq-Equal Equal e = refl
is_eq-Equal Greater e = cc

-- two names that aren't one aren't both equal to a third
no_third : (name a b : List ℕ) → compared a b ≡ Greater → is_eq (compared name b) ≡ true → is_eq (compared name a) ≡ true → ⊥
no_third name a b is p q =
    let first : name ≡ a = one_name name a (is_eq-Equal (compared name a) q) in
    let second : name ≡ b = one_name name b (is_eq-Equal (compared name b) p) in
    let same : compared a b ≡ compared name name = ap (λ x. compared x b) (sym first) ∙ ap (compared name) (sym second) in
    false≢true (ap is_eq (sym is ∙ same) ∙ (eq_by_cmp_equiv nat_list_cmp_total).refl name)

-- a name that has been entered, and each other one
entered : (name : List ℕ) (key : Vec ℕ Global) (bytes : List ℕ) (entries : List (Vec ℕ Global × List ℕ))
    → find compared name (map entry_of (insert_entry (λ a b. compared a.items b.items) entries key bytes))
    ≡ cond (is_eq (compared name key.items)) (Some bytes) (find compared name (map entry_of entries))
entered name key bytes [] = refl
entered name key bytes (entry ∷ entries) =
    elim (compared key.items entry.0.items) as (λ r. compared key.items entry.0.items ≡ r
    → find compared name (map entry_of (match_ordering r ((key, bytes) ∷ entry ∷ entries) ((entry.0, bytes) ∷ entries) (entry ∷ insert_entry (λ a b. compared a.items b.items) entries key bytes)))
    ≡ cond (is_eq (compared name key.items)) (Some bytes) (cond (is_eq (compared name entry.0.items)) (Some entry.1) (find compared name (map entry_of entries)))) [
      | Less ↦ λ is. refl
      | Equal ↦ λ is.
          rw (one_name key.items entry.0.items is) (replaced (is_eq (compared name entry.0.items)) (Some bytes) (Some entry.1) (find compared name (map entry_of entries)))
      | Greater ↦ λ is.
          ap (cond (is_eq (compared name entry.0.items)) (Some entry.1)) (entered name key bytes entries)
          ∙ swapped (is_eq (compared name entry.0.items)) (is_eq (compared name key.items)) (Some entry.1) (Some bytes) (find compared name (map entry_of entries)) (no_third name key.items entry.0.items is)
    ] refl

-- to enter a name is to insert its file
pub files_of-insert_entry : (entries : List (Vec ℕ Global × List ℕ)) (key : Vec ℕ Global) (bytes : List ℕ)
    → files_of (insert_entry (λ a b. compared a.items b.items) entries key bytes) ≡ insert (files_of entries) key.items bytes
files_of-insert_entry entries key bytes =
    same_map nat_list_cmp_total (slice_cmp-IsAntisymmetric nat_cmp-IsAntisymmetric) _ _ (λ name.
    get-from_entries nat_list_cmp_total (map entry_of (insert_entry (λ a b. compared a.items b.items) entries key bytes)) name
    ∙ entered name key bytes entries
    ∙ sym (get-insert nat_list_cmp_total (files_of entries) key.items bytes name ∙ ap (cond (is_eq (compared name key.items)) (Some bytes)) (get-from_entries nat_list_cmp_total (map entry_of entries) name)))

pub ruleset filed = (get-files_of, files_of-insert_entry)
