-- A set of names in order, and the list of them.
use Rattle.std.proofs.Common.{◌≡◌, ℕ, Bool, true, false, not, List, [], ◌∷◌, ◌++◌, map, length, get_or, ◌<◌, Some, None, inl, inr, refl, sym, ap, ◌∙◌, arith}
use Rattle.std.specs.Prelude.{if◌then◌else◌, ◌+◌, ◌||◌, cond, nat_lt}
use Rattle.std.specs.Borrow.{Bor}
use Rattle.std.specs.List.{list_any, position, position_or_len}
use Rattle.std.specs.Str.{bytes_eq}
use Rattle.std.proofs.lemmas.Bool.{cases_lt, lt-ltb}
use Rattle.std.proofs.lemmas.Option.{cond_some}
use Rattle.std.proofs.lemmas.List.{map-append}
use Rattle.std.proofs.lemmas.List.Sums.{fails_before_first, position_or_len_is}
use Rattle.indexmap.specs.IndexSet.{insert_key}
use Rattle.a32_asm.specs.declared.said.Facts.{Facts}
use Rattle.a32_asm.specs.Known.{Names, no_facts, place_of, with_name}

abbrev pub now : Bor (List ℕ) → List ℕ
now b = b.now

abbrev pub same : Bor (List ℕ) → Bor (List ℕ) → Bool
same a b = bytes_eq a.now b.now

pub any_same : (k : Bor (List ℕ)) (ks : List (Bor (List ℕ))) → list_any (same k) ks ≡ list_any (bytes_eq k.now) (map now ks)
any_same k [] = refl
any_same k (j ∷ ks) = ap (λ b. bytes_eq k.now j.now || b) (any_same k ks)

pub place_same : (k : Bor (List ℕ)) (ks : List (Bor (List ℕ))) → position_or_len (same k) ks ≡ place_of k.now (map now ks)
place_same k [] = refl
place_same k (j ∷ ks) = ap (λ n. cond (not (bytes_eq k.now j.now)) (1 + n) 0) (place_same k ks)

is_false : (b : Bool) → true ≡ not b → b ≡ false
is_false true e = cc
is_false false e = refl

is_true : (b : Bool) → false ≡ not b → b ≡ true
is_true true e = refl
is_true false e = cc

pub added_is : (k : Bor (List ℕ)) (ks new : List (Bor (List ℕ))) (facts more : List Facts) → new ≡ insert_key same ks k → true ≡ not (list_any (same k) ks) → more ≡ facts ++ no_facts ∷ []
    → ◌≡◌ {A = Names} (record { names = map now new; facts = more }) (with_name k.now (record { names = map now ks; facts = facts }))
added_is k ks new facts more e absent f =
    let none = is_false (list_any (same k) ks) absent in
    let there : list_any (bytes_eq k.now) (map now ks) ≡ false = sym (any_same k ks) ∙ none in
    let keys : new ≡ ks ++ k ∷ [] = e ∙ ap (λ b. if b then ks else ks ++ k ∷ []) none in
    rw there (ap (λ ns. record { names = ns; facts = more }) (ap (map now) keys ∙ map-append now ks (k ∷ [])) ∙ ap (λ fs. record { names = map now ks ++ k.now ∷ []; facts = fs }) f)

pub present_is : (k : Bor (List ℕ)) (ks new : List (Bor (List ℕ))) (facts : List Facts) → new ≡ insert_key same ks k → false ≡ not (list_any (same k) ks)
    → ◌≡◌ {A = Names} (record { names = map now new; facts = facts }) (with_name k.now (record { names = map now ks; facts = facts }))
present_is k ks new facts e present =
    let some = is_true (list_any (same k) ks) present in
    let there : list_any (bytes_eq k.now) (map now ks) ≡ true = sym (any_same k ks) ∙ some in
    let keys : new ≡ ks = e ∙ ap (λ b. if b then ks else ks ++ k ∷ []) some in
    rw there (ap (λ ns. record { names = map now ns; facts = facts }) keys)

-- ---- where a key stands, and that none does

pub found : (p : Bor (List ℕ) → Bool) (ks : List (Bor (List ℕ))) (i : ℕ) → position p ks ≡ Some i → i ≡ position_or_len p ks
found p ks i e = sym (cond_some (nat_lt (position_or_len p ks) (length ks)) (position_or_len p ks) i e).1

abbrev none : Bor (List ℕ)
none = record { ref_ptr = (0, 0); now = [] }

none_pass : (p : Bor (List ℕ) → Bool) (ks : List (Bor (List ℕ))) → position p ks ≡ None → (k : ℕ) → k < length ks → p (get_or ks k none) ≡ false
none_pass p ks e k l =
    elim (cases_lt (position_or_len p ks) (length ks)) [
      | inl lt ↦
          let there : position p ks ≡ Some (position_or_len p ks) = rw (lt-ltb _ _ lt) refl in
          let never : None ≡ Some (position_or_len p ks) = sym e ∙ there in
          absurd cc
      | inr le ↦ fails_before_first p ks k none (omega arith)
    ]

pub found_nowhere : (p : Bor (List ℕ) → Bool) (ks : List (Bor (List ℕ))) → position p ks ≡ None → length ks ≡ position_or_len p ks
found_nowhere p ks e = sym (position_or_len_is p ks (length ks) none (omega arith) (none_pass p ks e) (λ l. absurd (omega arith)))
