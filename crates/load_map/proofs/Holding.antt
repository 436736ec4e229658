-- The one entry that holds a link address.
use Rattle.std.proofs.Common.{◌≡◌, ℕ, zero, suc, ◌+◌, ◌<◌, ◌≤◌, inl, inr, true, false, cond, Some, List, [], ◌∷◌, refl, sym, ap, ◌∙◌, subst, arith}
use Rattle.std.specs.Prelude.{AllPairs, slice_get, option_map}
use Rattle.std.specs.List.{find}
use Rattle.std.specs.Option.{option_or}
use Rattle.std.proofs.lemmas.Bool.{cases_lt}
use Rattle.std.proofs.lemmas.Bool.Decides.{nat_tests}
use Rattle.fd_base.proofs.Lists.{pairs_at, pairs_tail}
use Rattle.fd_base.proofs.Ranges.{inside}
use Rattle.load_map.specs.declared.entry.MapEntry.{MapEntry}
use Rattle.load_map.specs.Translation.{address_of, is_held_by, is_end_of, placed_by}
use Rattle.load_map.specs.Whole.{LinkedApart, PlacedApart}

pub held_means : (v : ℕ) (e : MapEntry) → is_held_by v e ≡ true → (e.vaddr ≤ v) × (v < e.vaddr + e.memsz)
held_means v e h = inside e.vaddr e.memsz v h

-- what an earlier segment doesn't hold
other_entry : (v : ℕ) (d e : MapEntry) → LinkedApart d e → is_held_by v e ≡ true → is_held_by v d ≡ false
other_entry v d e apart h = grind (arith, nat_tests)

pub find_held : (map : List MapEntry) (i v : ℕ) (e : MapEntry) → AllPairs LinkedApart map → slice_get map i ≡ Some e → is_held_by v e ≡ true
    → find (is_held_by v) map ≡ Some e
find_held [] i v e all p h = cc
find_held (x ∷ map) zero v e all p h =
    let same : x ≡ e = cc in
    let here : is_held_by v x ≡ true = ap (is_held_by v) same ∙ h in
    ap (λ b. cond b (Some x) (find (is_held_by v) map)) here ∙ p
find_held (x ∷ map) (suc i) v e all p h =
    let apart : LinkedApart x e = pairs_at LinkedApart (x ∷ map) zero (suc i) x e all (omega arith) refl p in
    let not_here : is_held_by v x ≡ false = other_entry v x e apart h in
    ap (λ b. cond b (Some x) (find (is_held_by v) map)) not_here ∙ find_held map i v e (pairs_tail LinkedApart x map all) p h

pub whole : (map : List MapEntry) (i v : ℕ) (e : MapEntry) → AllPairs LinkedApart map → slice_get map i ≡ Some e → is_held_by v e ≡ true
    → address_of map v ≡ Some (placed_by v e)
whole map i v e all p h =
    ap (λ first. option_map (placed_by v) (option_or first (find (is_end_of v) map))) (find_held map i v e all p h)

-- addresses in one placed segment
in_one : (v w : ℕ) (e : MapEntry) → is_held_by v e ≡ true → is_held_by w e ≡ true → placed_by v e ≡ placed_by w e → v ≡ w
in_one v w e h g same =
    let a = held_means v e h in
    let b = held_means w e g in
    omega arith

-- addresses in two placed segments
in_two : (v w : ℕ) (d e : MapEntry) → PlacedApart d e → is_held_by v d ≡ true → is_held_by w e ≡ true → placed_by v d ≡ placed_by w e → v ≡ w
in_two v w d e apart h g same =
    let a = held_means v d h in
    let b = held_means w e g in
    absurd (omega arith)

pub distinct : (map : List MapEntry) (i j v w : ℕ) (d e : MapEntry) → AllPairs LinkedApart map → AllPairs PlacedApart map
    → slice_get map i ≡ Some d → is_held_by v d ≡ true → slice_get map j ≡ Some e → is_held_by w e ≡ true
    → address_of map v ≡ address_of map w → v ≡ w
distinct map i j v w d e linked placed p h q g same =
    let first = whole map i v d linked p h in
    let second = whole map j w e linked q g in
    let one : placed_by v d ≡ placed_by w e = cc in
    elim (cases_lt i j) [
      | inl lt ↦ in_two v w d e (pairs_at PlacedApart map i j d e placed lt p q) h g one
      | inr le ↦ elim (cases_lt j i) [
        | inl lt ↦ sym (in_two w v e d (pairs_at PlacedApart map j i e d placed lt q p) g h (sym one))
        | inr ge ↦ same_place i j d e p q h g one (omega arith)
      ]
    ]
  where
    same_place : (i j : ℕ) (d e : MapEntry) → slice_get map i ≡ Some d → slice_get map j ≡ Some e → is_held_by v d ≡ true → is_held_by w e ≡ true
        → placed_by v d ≡ placed_by w e → i ≡ j → v ≡ w
    same_place i j d e p q h g one at =
        let entry : d ≡ e = cc in
        in_one v w e (subst (λ x. is_held_by v x ≡ true) entry h) g (ap (placed_by v) (sym entry) ∙ one)
