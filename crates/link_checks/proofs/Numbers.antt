-- The numbers of symbols, as these are put one behind the other.
use Rattle.std.proofs.Common.{◌≡◌, ◌≢◌, ℕ, ◌+◌, ◌<◌, ◌≤◌, inl, inr, Bool, true, false, cond, List, [], ◌∷◌, ◌++◌, length, get_or, take, All, Option, Some, None, refl, ap, sym, subst, ◌∙◌, arith}
use Rattle.std.specs.Prelude.{filter, position, slice_get, unwrap_or}
use Rattle.std.specs.List.{position_or_len}
use Rattle.std.proofs.lemmas.Bool.{cases_lt}
use Rattle.std.proofs.lemmas.Bool.Decides.{nat_tests}
use Rattle.std.proofs.Math.ListN.{get_or-eq_default}
use Rattle.std.proofs.lemmas.List.{append-nil, length-append, length-take, take_more, get_or_push, get_or_append_left}
use Rattle.std.proofs.lemmas.Option.{slice_get-get_or, slice_get-map}
use Rattle.std.proofs.lemmas.List.Elements.{All-get_or, filter-append}
use Rattle.std.proofs.lemmas.List.Folds.{position_or_len_push}
use Rattle.std.proofs.lemmas.List.Sums.{position_or_len_is}
use Rattle.fd_base.proofs.Lists.{take-slice_get}
use Rattle.fd_base.proofs.Members.{all_contained, at_contained, in_filter}
use Rattle.fd_base.proofs.Options.{from_map}
use Rattle.elf_model.specs.declared.relocatable.RelObject.{RelObject}
use Rattle.link_model.specs.declared.input.Mode.{Mode}
use Rattle.link_model.specs.declared.target.Key.TheVariants.{Name, Own}
use Rattle.link_model.specs.declared.target.Target.{Target}
use Rattle.link_model.specs.DynamicSymbols.{is_shown, shown_targets}
use Rattle.link_model.specs.Inputs.{InputSymbol}
use Rattle.link_model.specs.Joined.{definition_taken, names_of, of_name}
use Rattle.link_model.specs.Targets.{is_same_key, is_static, joined_target, name_number, target_of_name, targets_of}
use Rattle.link_model.proofs.Needed.{same_key}
use Rattle.link_names.proofs.Agreeing.{number_at}
use Rattle.link_checks.specs.parts.Shown.{number_in, AreNumbered, AreNamed}

-- ---- the place of the first that passes, with one more

module _ {X : Type 0} (p : X → Bool) (xs : List X) (x : X) where
  skipped : p x ≡ false → unwrap_or (position p (xs ++ x ∷ [])) 0 ≡ unwrap_or (position p xs) 0
  skipped fails =
      let place = position_or_len_push p xs x in
      let size = length-append xs (x ∷ []) in
      grind (arith, nat_tests, fails, place, size)

  found : All (λ y. p y ≡ false) xs → p x ≡ true → unwrap_or (position p (xs ++ x ∷ [])) 0 ≡ length xs
  found none passes =
      let before : position_or_len p xs ≡ length xs =
      position_or_len_is p xs (length xs) x (omega arith) (λ k lt. All-get_or (λ y. p y ≡ false) xs k x lt none) (λ lt. absurd (omega arith)) in
      let place = position_or_len_push p xs x in
      let size = length-append xs (x ∷ []) in
      grind (arith, nat_tests, passes, before, place, size)

-- ---- a list with one more

module _ (ns : List ℕ) (n : ℕ) where
  abbrev more : List ℕ
  more = ns ++ n ∷ []

  front : (k d : ℕ) → k < length ns → get_or more k d ≡ get_or ns k d
  front k d lt = get_or_append_left ns (n ∷ []) d k lt

  last : (k d : ℕ) → k ≡ length ns → get_or more k d ≡ n
  last k d is = get_or_push ns n d k (sym is)

  past : (k d : ℕ) → length ns < k → get_or more k d ≡ get_or ns k d
  past k d lt =
      let size : length more ≡ length ns + 1 = length-append ns (n ∷ []) in
      get_or-eq_default more d {n = k} (omega (arith, size)) ∙ sym (get_or-eq_default ns d {n = k} (omega arith))

-- ---- numbers

-- no symbol has a number
pub numbered_none : AreNumbered [] []
numbered_none = record { named = λ k. refl; own = λ i n. refl }

-- one more name, which the loader doesn't see
pub numbered_unseen : (ts : List Target) (ns : List ℕ) → AreNumbered ts ns → AreNumbered ts (ns ++ 1 ∷ [])
numbered_unseen ts ns are = record { named = λ k. same k ∙ are.named k; own = are.own }
  where
    same : (k : ℕ) → get_or (ns ++ 1 ∷ []) k 1 ≡ get_or ns k 1
    same k = elim (cases_lt k (length ns)) [
      | inl before ↦ front ns 1 k 1 before
      | inr le ↦ elim (cases_lt (length ns) k) [
        | inl behind ↦ past ns 1 k 1 behind
        | inr ge ↦ last ns 1 k 1 (omega arith) ∙ sym (get_or-eq_default ns 1 {n = k} le)
      ]
    ]

-- and one that it sees
module _ (ts : List Target) (ns : List ℕ) (t : Target) (number : ℕ) (are : AreNumbered ts ns) (key : t.key ≡ Name (length ns))
    (none : All (λ u. is_same_key (Name (length ns)) u.key ≡ false) ts) (is : number ≡ length ts + 1) where
  unlike : (k : ℕ) (b : Bool) → is_same_key (Name k) (Name (length ns)) ≡ b → k ≢ length ns → b ≡ false
  unlike k true same ne =
      let one : Name k ≡ Name (length ns) = (same_key (Name k) (Name (length ns))).0 same in
      let place : k ≡ length ns = cc in
      absurd (ne place)
  unlike k false same ne = refl

  other : (k : ℕ) → k ≢ length ns → number_in (ts ++ t ∷ []) (Name k) ≡ number_in ts (Name k)
  other k ne = ap (λ m. 1 + m) (skipped (λ u. is_same_key (Name k) u.key) ts t (ap (is_same_key (Name k)) key ∙ unlike k (is_same_key (Name k) (Name (length ns))) refl ne))

  this : (k : ℕ) → k ≡ length ns → number_in (ts ++ t ∷ []) (Name k) ≡ number
  this k here =
      let at = found (λ u. is_same_key (Name (length ns)) u.key) ts t none (ap (is_same_key (Name (length ns))) key ∙ (same_key (Name (length ns)) (Name (length ns))).1 refl) in
      ap (λ m. number_in (ts ++ t ∷ []) (Name m)) here ∙ omega (arith, at, is)

  pub numbered_seen : AreNumbered (ts ++ t ∷ []) (ns ++ number ∷ [])
  numbered_seen = record {
    named = λ k. elim (cases_lt k (length ns)) [
      | inl before ↦ front ns number k 1 before ∙ are.named k ∙ sym (other k (omega arith))
      | inr le ↦ elim (cases_lt (length ns) k) [
        | inl behind ↦ past ns number k 1 behind ∙ are.named k ∙ sym (other k (omega arith))
        | inr ge ↦ last ns number k 1 (omega arith) ∙ sym (this k (omega arith))
      ]
    ];
    own = λ i n. ap (λ m. 1 + m) (skipped (λ u. is_same_key (Own i n) u.key) ts t (ap (is_same_key (Own i n)) key)) ∙ are.own i n;
  }

-- ---- the symbols of names

-- the earlier ones have other names
pub unnamed_before : (all : List Target) (k : ℕ) → AreNamed all → All (λ u. is_same_key (Name k) u.key ≡ false) (filter is_shown (take k all))
unnamed_before all k named =
    all_contained (λ u. is_same_key (Name k) u.key ≡ false) (filter is_shown (take k all)) (λ u there.
    let at = at_contained (take k all) u (in_filter is_shown (take k all) u there).0 in
    let before : at.0 < k = omega (arith, at.1, length-take k all) in
    let key : u.key ≡ Name at.0 = named.each at.0 u (sym (take-slice_get k at.0 all before) ∙ at.2) in
    ap (is_same_key (Name k)) key ∙ differ k at.0 (is_same_key (Name k) (Name at.0)) refl before)
  where
    differ : (j i : ℕ) (b : Bool) → is_same_key (Name j) (Name i) ≡ b → i < j → b ≡ false
    differ j i true same lt =
        let one : Name j ≡ Name i = (same_key (Name j) (Name i)).0 same in
        let place : j ≡ i = cc in
        absurd (omega (arith, place))
    differ j i false same lt = refl

-- ---- one name more

-- the first k names, with the symbols among them that the loader sees
pub record AreFirst (all : List Target) (k : ℕ) (ts : List Target) (ns : List ℕ) : Type 0 where
  pub shown : ts ≡ filter is_shown (take k all)
  pub few : length ts ≤ k
  pub names : length ns ≡ k
  pub numbered : AreNumbered ts ns

module _ (all : List Target) (named : AreNamed all) (k : ℕ) (d : Target) (within : k < length all) (ts : List Target) (ns : List ℕ) (are : AreFirst all k ts ns) where
  abbrev t : Target
  t = get_or all k d

  filtered : (b : Bool) → is_shown t ≡ b → filter is_shown (take (k + 1) all) ≡ ts ++ cond b (t ∷ []) []
  filtered b is =
      ap (filter is_shown) (take_more all k d within) ∙ filter-append is_shown (take k all) (t ∷ [])
      ∙ (λ i. sym are.shown i ++ cond (is i) (t ∷ []) [])

  pub first_seen : (ts' : List Target) (ns' : List ℕ) (number : ℕ) → is_shown t ≡ true → ts' ≡ ts ++ t ∷ [] → number ≡ length ts'
      → ns' ≡ ns ++ number ∷ [] → AreFirst all (k + 1) ts' ns'
  first_seen ts' ns' number is put n put' =
      let key : t.key ≡ Name (length ns) = named.each k t (slice_get-get_or all k d within) ∙ ap Name (sym are.names) in
      let none : All (λ u. is_same_key (Name (length ns)) u.key ≡ false) ts =
      subst (λ us. All (λ u. is_same_key (Name (length ns)) u.key ≡ false) us) (sym are.shown)
      (subst (λ m. All (λ u. is_same_key (Name m) u.key ≡ false) (filter is_shown (take k all))) (sym are.names) (unnamed_before all k named)) in
      let count : length ts' ≡ length ts + 1 = ap length put ∙ length-append ts (t ∷ []) in
      let more : length ns' ≡ length ns + 1 = ap length put' ∙ length-append ns (number ∷ []) in
      record {
        shown = put ∙ sym (filtered true is);
        few = omega (arith, count, are.few);
        names = omega (arith, more, are.names);
        numbered = subst (λ us. AreNumbered us ns') (sym put) (subst (AreNumbered (ts ++ t ∷ [])) (sym put') (numbered_seen ts ns t number are.numbered key none (n ∙ count)));
      }

  pub first_unseen : (ns' : List ℕ) → is_shown t ≡ false → ns' ≡ ns ++ 1 ∷ [] → AreFirst all (k + 1) ts ns'
  first_unseen ns' is put' =
      let more : length ns' ≡ length ns + 1 = ap length put' ∙ length-append ns (1 ∷ []) in
      record {
        shown = sym (filtered false is ∙ append-nil ts);
        few = omega (arith, are.few);
        names = omega (arith, more, are.names);
        numbered = subst (AreNumbered ts) (sym put') (numbered_unseen ts ns are.numbered);
      }

-- ---- the symbols of a link

module _ (mode : Mode) (inputs : List RelObject) where
  named_so : (k : ℕ) (xs : List InputSymbol) (taken : Option InputSymbol) → (joined_target mode inputs k xs taken).key ≡ Name k
  named_so k xs None = refl
  named_so k xs (Some x) = refl

  pub joined_named : (targets : List Target) → targets ≡ targets_of mode inputs → AreNamed targets
  joined_named targets are = record {
    each = λ k t there.
        let from = from_map (target_of_name mode inputs) (slice_get (names_of inputs) k) t (sym (slice_get-map (target_of_name mode inputs) (names_of inputs) k) ∙ ap (λ ts. slice_get ts k) (sym are) ∙ there) in
        let xs = of_name inputs from.0 in
        ap (λ (u : Target). u.key) (sym from.2) ∙ named_so (name_number inputs from.0) xs (definition_taken xs) ∙ ap Name (number_at inputs k from.0 from.1);
  }

  pub none_shown : is_static mode ≡ true → [] ≡ shown_targets mode inputs
  unfolding shown_targets
  none_shown static = sym (ap (λ b. cond b [] (filter is_shown (targets_of mode inputs))) static)

  pub all_shown : (targets : List Target) → targets ≡ targets_of mode inputs → is_static mode ≡ false
      → filter is_shown targets ≡ shown_targets mode inputs
  unfolding shown_targets
  all_shown targets are dynamic = ap (filter is_shown) are ∙ sym (ap (λ b. cond b [] (filter is_shown (targets_of mode inputs))) dynamic)
