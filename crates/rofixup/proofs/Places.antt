-- Values that all have placed addresses.
use Rattle.std.proofs.Common.{◌≡◌, ℕ, zero, suc, ◌+◌, true, false, cond, not, Bool, Option, Some, None, List, [], ◌∷◌, length, map, refl, sym, ap, ◌∙◌, arith}
use Rattle.std.specs.Prelude.{position, is_none, unwrap_or, nat_lt}
use Rattle.std.specs.List.{prefix_len}
use Rattle.std.proofs.lemmas.Bool.Decides.{nat_tests}
use Rattle.load_map.specs.declared.entry.MapEntry.{MapEntry}
use Rattle.load_map.specs.Translation.{address_of, placed}
use Rattle.rofixup.specs.Fixups.{first_unplaced, AreTranslated}
use Rattle.rofixup.specs.parts.Laws.{ValuesArePlaced}

-- what has no place where it passes has none in the rest
none_behind : {X : Type 0} (p : X → Bool) (x : X) (xs : List X) → position p (x ∷ xs) ≡ None → (p x ≡ false) × (position p xs ≡ None)
none_behind p x xs none =
    elim (p x) as (λ b. cond (nat_lt (cond (not b) (1 + prefix_len (λ y. not (p y)) xs) zero) (suc (length xs))) (Some (cond (not b) (1 + prefix_len (λ y. not (p y)) xs) zero)) None ≡ None → (b ≡ false) × (position p xs ≡ None)) [
      | true ↦ λ e. let past : nat_lt zero (suc (length xs)) ≡ true = grind (arith, nat_tests) in cc
      | false ↦ λ e. (refl, ends (prefix_len (λ y. not (p y)) xs) (length xs) e)
    ] none
  where
    ends : (k n : ℕ) → cond (nat_lt (1 + k) (suc n)) (Some (1 + k)) None ≡ None → cond (nat_lt k n) (Some k) None ≡ None
    ends k n e =
        elim (nat_lt k n) as (λ b. nat_lt k n ≡ b → cond b (Some k) None ≡ None) [
          | true ↦ λ t. let past : nat_lt (1 + k) (suc n) ≡ true = grind (arith, nat_tests) in cc
          | false ↦ λ t. refl
        ] refl

has_some : (o : Option ℕ) (v : ℕ) → is_none o ≡ false → o ≡ Some (unwrap_or o v)
has_some None v e = cc
has_some (Some a) v e = refl

pub all_placed : (entries : List MapEntry) (values : List ℕ) → first_unplaced entries values ≡ None
    → AreTranslated entries values (map (λ v. unwrap_or (address_of entries v) v) values)
all_placed entries [] none = refl
all_placed entries (v ∷ values) none =
    let parts = none_behind (λ x. is_none (address_of entries x)) v values none in
    let first : address_of entries v ≡ Some (unwrap_or (address_of entries v) v) = has_some (address_of entries v) v parts.0 in
    let rest = all_placed entries values parts.1 in
    ap (λ o. o ∷ map (address_of entries) values) first ∙ ap (λ os. Some (unwrap_or (address_of entries v) v) ∷ os) rest

pub values_placed : ValuesArePlaced
values_placed entries [] [] is = refl
values_placed entries [] (w ∷ new) is = absurd cc
values_placed entries (v ∷ old) [] is = absurd cc
values_placed entries (v ∷ old) (w ∷ new) is =
    let first : address_of entries v ≡ Some w = cc in
    let value : w ≡ placed entries v = ap (λ o. unwrap_or o 0) (sym first) in
    let rest : new ≡ map (placed entries) old = values_placed entries old new (cc) in
    cc
