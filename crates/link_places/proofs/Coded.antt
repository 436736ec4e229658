-- Needs are told apart by their codes.
use Rattle.std.proofs.Common.{◌≡◌, ℕ, zero, suc, ◌+◌, Bool, true, false, cond, not, ◌&&◌, ◌||◌, ◌==◌, List, [], ◌∷◌, ◌++◌, length, Option, Some, None, refl, ap, sym, ◌∙◌}
use Rattle.std.specs.Prelude.{nat_lt, position, slice_get, get_or, Result, Ok, Err, OnOk, OnErr}
use Rattle.std.specs.List.{prefix_len}
use Rattle.std.specs.Map.{lookup, keys_of, values_of}
use Rattle.std.specs.Option.{is_some}
use Rattle.std.proofs.lemmas.Bool.{and_parts, or_parts, eqb-true, eq-eqb}
use Rattle.std.proofs.lemmas.List.Quantifiers.{position-Some}
use Rattle.std.proofs.lemmas.Option.{slice_get-get_or}
use Rattle.fd_base.proofs.Options.{is_some-cond}
use Rattle.indexmap.specs.IndexMap.{insert_entry}
use Rattle.symbol_scope.specs.Closure.{has, with_one}
use Rattle.link_model.specs.declared.need.Need.{Need}
use Rattle.link_model.specs.declared.need.Need.TheVariants.{Word, FuncWord, Descriptor, NoFunction, Slot}
use Rattle.link_model.specs.declared.target.Key.TheVariants.{Name, Own}
use Rattle.link_model.specs.Needs.{is_same_need}
use Rattle.link_model.proofs.Needed.{same_need}
use Rattle.link_places.specs.parts.NeedList.{code_of, entries_of}

abbrev Code : Type 0
Code = ℕ × ℕ × ℕ

abbrev pub same_code : Code → Code → Bool
same_code a b = (a.0 == b.0 && a.1 == b.1) && a.2 == b.2

-- ---- one code, one need

back : ℕ → ℕ → ℕ → Option Need
back zero a b = Some (Word (Name a))
back (suc zero) a b = Some (Word (Own a b))
back (suc (suc zero)) a b = Some (FuncWord (Name a))
back (suc (suc (suc zero))) a b = Some (FuncWord (Own a b))
back (suc (suc (suc (suc zero)))) a b = Some (NoFunction (Name a))
back (suc (suc (suc (suc (suc zero))))) a b = Some (NoFunction (Own a b))
back (suc (suc (suc (suc (suc (suc zero)))))) a b = Some (Slot (Name a))
back (suc (suc (suc (suc (suc (suc (suc zero))))))) a b = Some (Slot (Own a b))
back (suc (suc (suc (suc (suc (suc (suc (suc n)))))))) a b = Some (Descriptor a)

abbrev back_of : Code → Option Need
back_of c = back c.0 c.1 c.2

back_is : (n : Need) → back_of (code_of n) ≡ Some n
unfolding back
back_is (Word (Name k)) = refl
back_is (Word (Own i n)) = refl
back_is (FuncWord (Name k)) = refl
back_is (FuncWord (Own i n)) = refl
back_is (NoFunction (Name k)) = refl
back_is (NoFunction (Own i n)) = refl
back_is (Slot (Name k)) = refl
back_is (Slot (Own i n)) = refl
back_is (Descriptor address) = refl

one_code : (a b : Code) → same_code a b ≡ true → a ≡ b
one_code a b is =
    let parts = and_parts (a.0 == b.0 && a.1 == b.1) (a.2 == b.2) is in
    let first = and_parts (a.0 == b.0) (a.1 == b.1) parts.0 in
    let p = eqb-true a.0 b.0 first.0 in
    let q = eqb-true a.1 b.1 first.1 in
    let r = eqb-true a.2 b.2 parts.1 in
    λ i. (p i, q i, r i)

code_itself : (a : Code) → same_code a a ≡ true
code_itself a = rw (eq-eqb a.0 a.0 refl, eq-eqb a.1 a.1 refl, eq-eqb a.2 a.2 refl) refl

equal_tests : (a b : Bool) → (a ≡ true → b ≡ true) → (b ≡ true → a ≡ true) → a ≡ b
equal_tests true b f g = sym (f refl)
equal_tests false true f g = g refl
equal_tests false false f g = refl

pub coded : (a b : Need) → same_code (code_of a) (code_of b) ≡ is_same_need a b
coded a b = equal_tests (same_code (code_of a) (code_of b)) (is_same_need a b) to from
  where
    to : same_code (code_of a) (code_of b) ≡ true → is_same_need a b ≡ true
    to is =
        let both : Some a ≡ Some b = sym (back_is a) ∙ ap back_of (one_code (code_of a) (code_of b) is) ∙ back_is b in
        let one : a ≡ b = cc in
        (same_need a b).1 one

    from : is_same_need a b ≡ true → same_code (code_of a) (code_of b) ≡ true
    from is = ap (λ n. same_code (code_of a) (code_of n)) (sym ((same_need a b).0 is)) ∙ code_itself (code_of a)

-- ---- entries

module _ (n : Need) where
  pub has_entry : (list : List Need) → is_some (lookup (same_code (code_of n)) (entries_of list)) ≡ has is_same_need list n
  has_entry [] = refl
  has_entry (x ∷ xs) =
      is_some-cond (same_code (code_of n) (code_of x)) x (lookup (same_code (code_of n)) (entries_of xs)) ∙ (λ i. coded n x i || has_entry xs i)

  entered : (list : List Need) → has is_same_need list n ≡ false → insert_entry same_code (entries_of list) (code_of n) n ≡ entries_of (list ++ n ∷ [])
  entered [] none = refl
  entered (x ∷ xs) none =
      let parts = or_parts (is_same_need n x) (has is_same_need xs n) none in
      ap (λ b. cond b ((code_of x, n) ∷ entries_of xs) ((code_of x, x) ∷ insert_entry same_code (entries_of xs) (code_of n) n)) (coded n x ∙ parts.0)
      ∙ ap (λ es. (code_of x, x) ∷ es) (entered xs parts.1)

  with-one : (b : Bool) (list : List Need) → has is_same_need list n ≡ b → with_one is_same_need list n ≡ cond b list (list ++ n ∷ [])
  with-one b list is = ap (λ c. cond c list (list ++ n ∷ [])) is

  -- a need that isn't there is put behind the others
  pub put-new : (list : List Need) (old new : List (Code × Need)) → is_some (lookup (same_code (code_of n)) old) ≡ false → old ≡ entries_of list
      → new ≡ insert_entry same_code old (code_of n) n → new ≡ entries_of (with_one is_same_need list n)
  put-new list old new none is put =
      let out : has is_same_need list n ≡ false = sym (has_entry list) ∙ ap (λ es. is_some (lookup (same_code (code_of n)) es)) (sym is) ∙ none in
      put ∙ ap (λ es. insert_entry same_code es (code_of n) n) is ∙ entered list out ∙ ap entries_of (sym (with-one false list out))

  pub stays : (list : List Need) (old : List (Code × Need)) → is_some (lookup (same_code (code_of n)) old) ≡ true → old ≡ entries_of list → old ≡ entries_of (with_one is_same_need list n)
  stays list old there is =
      let in' : has is_same_need list n ≡ true = sym (has_entry list) ∙ ap (λ es. is_some (lookup (same_code (code_of n)) es)) (sym is) ∙ there in
      is ∙ ap entries_of (sym (with-one true list in'))

  -- ---- places

  prefix : (list : List Need) → prefix_len (λ c. not (same_code (code_of n) c)) (keys_of (entries_of list)) ≡ prefix_len (λ x. not (is_same_need n x)) list
  prefix [] = refl
  prefix (x ∷ xs) = λ i. cond (not (coded n x i)) (1 + prefix xs i) 0

  count : (list : List Need) → length (keys_of (entries_of list)) ≡ length list
  count [] = refl
  count (x ∷ xs) = ap suc (count xs)

  pub found-at : (list : List Need) (es : List (Code × Need)) → es ≡ entries_of list → position (same_code (code_of n)) (keys_of es) ≡ position (is_same_need n) list
  found-at list es is =
      ap (λ xs. position (same_code (code_of n)) (keys_of xs)) is ∙ (λ i. cond (nat_lt (prefix list i) (count list i)) (Some (prefix list i)) None)

-- ---- lists and their entries

pub needs-back : (list : List Need) → values_of (entries_of list) ≡ list
needs-back [] = refl
needs-back (x ∷ xs) = ap (λ ys. x ∷ ys) (needs-back xs)

pub of-entries : (es : List (Code × Need)) (list : List Need) → es ≡ entries_of list → values_of es ≡ list
of-entries es list is = ap values_of is ∙ needs-back list

pub coded-again : (es : List (Code × Need)) (list : List Need) → es ≡ entries_of list → es ≡ entries_of (values_of es)
coded-again es list is = is ∙ ap entries_of (sym (of-entries es list is))

-- a need stands where it is found
pub at-found : (list : List Need) (n : Need) (k : ℕ) → Some k ≡ position (is_same_need n) list → slice_get list k ≡ Some n
at-found list n k is =
    let p = position-Some (is_same_need n) list k n (sym is) in
    slice_get-get_or list k n p.0 ∙ ap Some (sym ((same_need n (get_or list k n)).0 p.1))

-- what holds whether a call succeeds or not
pub either : {A E : Type 0} (r : Result A E) (P Q X : Type 0) → OnOk r P → OnErr r Q → (P → X) → (Q → X) → X
either (Ok x) P Q X p q f g = f p
either (Err e) P Q X p q f g = g q
