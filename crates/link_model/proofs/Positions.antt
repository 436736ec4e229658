-- Where a member stands that a test finds, and what the first of each kind are.
use Rattle.std.proofs.Common.{◌≡◌, ◌≢◌, ℕ, suc, ◌+◌, ◌<◌, inl, inr, Bool, true, false, cond, not, List, [], ◌∷◌, length, get_or, Some, None, refl, ap, sym, subst, ◌∙◌, arith, AllPairs}
use Rattle.std.specs.Prelude.{nat_lt, position, unwrap_or, slice_get, Contains, Decides}
use Rattle.std.specs.List.{prefix_len}
use Rattle.std.proofs.lemmas.Bool.{or_left, or_right}
use Rattle.std.proofs.lemmas.Bool.Decides.{nat_tests}
use Rattle.std.proofs.lemmas.List.Quantifiers.{position-Some}
use Rattle.std.proofs.lemmas.Option.{slice_get-get_or}
use Rattle.fd_base.proofs.Finding.{any_at}
use Rattle.fd_base.proofs.Lists.{pairs_of_none}
use Rattle.fd_base.proofs.Members.{contains_at, first_or_later, nothing_in}
use Rattle.symbol_scope.specs.Closure.{has, firsts}
use Rattle.symbol_scope.proofs.Growing.{gained, once_more}

-- ---- a place

found : {X : Type 0} (p : X → Bool) (xs : List X) (x : X) → Contains xs x → p x ≡ true → prefix_len (λ y. not (p y)) xs < length xs
found p [] x there passes = absurd (nothing_in x there)
found p (y ∷ xs) x there passes = by (λ later. found p xs x later passes) (p y) refl
  where
    by : (Contains xs x → prefix_len (λ z. not (p z)) xs < length xs) → (b : Bool) → p y ≡ b → prefix_len (λ z. not (p z)) (y ∷ xs) < suc (length xs)
    by rest true is =
        let here : prefix_len (λ z. not (p z)) (y ∷ xs) ≡ 0 = ap (λ b. cond (not b) (1 + prefix_len (λ z. not (p z)) xs) 0) is in
        omega (arith, here)
    by rest false is =
        let behind : prefix_len (λ z. not (p z)) (y ∷ xs) ≡ 1 + prefix_len (λ z. not (p z)) xs = ap (λ b. cond (not b) (1 + prefix_len (λ z. not (p z)) xs) 0) is in
        elim (first_or_later y x xs there) [
          | inl same ↦ let no' : true ≡ false = sym passes ∙ ap p (sym same) ∙ is in absurd cc
          | inr later ↦ omega (arith, behind, rest later)
        ]

-- where one passes, the first that does has a place
pub record HasPosition {X : Type 0} (p : X → Bool) (xs : List X) : Type 0 where
  pub place : ℕ
  pub thing : X
  pub is : unwrap_or (position p xs) 0 ≡ place
  pub there : slice_get xs place ≡ Some thing
  pub passes : p thing ≡ true

pub position_of : {X : Type 0} (p : X → Bool) (xs : List X) (x : X) → Contains xs x → p x ≡ true → HasPosition p xs
position_of p xs x there passes =
    let i = prefix_len (λ y. not (p y)) xs in
    let within : i < length xs = found p xs x there passes in
    let test : nat_lt i (length xs) ≡ true = grind (arith, nat_tests) in
    let is : position p xs ≡ Some i = ap (λ b. cond b (Some i) None) test in
    record {
      place = i;
      thing = get_or xs i x;
      is = ap (λ o. unwrap_or o 0) is;
      there = slice_get-get_or xs i x within;
      passes = (position-Some p xs i x is).1;
    }

module _ {X : Type 0} (same : X → X → Bool) (dec : (a b : X) → Decides (same a b) (a ≡ b)) where
  -- a member stands where it is found
  pub at_position : (xs : List X) (x : X) → Contains xs x → slice_get xs (unwrap_or (position (same x) xs) 0) ≡ Some x
  at_position xs x there =
      let p = position_of (same x) xs x there ((dec x x).1 refl) in
      ap (slice_get xs) p.is ∙ p.there ∙ ap Some (sym ((dec x p.thing).0 p.passes))

  -- ---- each once

  has_of : (xs : List X) (x : X) → Contains xs x → has same xs x ≡ true
  has_of [] x there = absurd (nothing_in x there)
  has_of (y ∷ xs) x there = elim (first_or_later y x xs there) [
    | inl is ↦ or_left (same x y) (has same xs x) ((dec x y).1 (sym is))
    | inr later ↦ or_right (same x y) (has same xs x) (has_of xs x later)
  ]

  pub in_firsts : (xs : List X) (x : X) → Contains xs x → Contains (firsts same xs) x
  in_firsts xs x there =
      let one = any_at (same x) (firsts same xs) (gained same dec [] xs x (has_of xs x there)) in
      let is : one.1 ≡ x = sym ((dec x one.1).0 one.2.1) in
      subst (λ y. Contains (firsts same xs) y) is (contains_at (firsts same xs) one.0 one.1 one.2.0)

  pub firsts_once : (xs : List X) → AllPairs (λ a b. a ≢ b) (firsts same xs)
  firsts_once xs = once_more same dec [] xs (pairs_of_none (λ a b. a ≢ b))
