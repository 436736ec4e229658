-- The texts of strings that a name may have.
use Rattle.std.proofs.Common.{◌≡◌, ℕ, ◌<◌, ◌≤◌, Bool, false, ltb, leb, cond, List, [], ◌∷◌, length, take, drop, Some, None, refl, subst, ◌∙◌, arith}
use Rattle.std.specs.Prelude.{position, ◌==◌, nat_lt, nat_le}
use Rattle.std.specs.List.{position_or_len}
use Rattle.std.proofs.lemmas.Bool.{le-ltb, ltb-true, leb-true, ne_eqb}
use Rattle.std.proofs.lemmas.List.{length-take-le, get_or-take}
use Rattle.std.proofs.lemmas.List.Quantifiers.{position-Some}
use Rattle.std.proofs.lemmas.List.Sums.{position_or_len_is}
use Rattle.fd_base.proofs.Options.{from_map, from_then, cond_some_parts}
use Rattle.fd_base.specs.Name.{first_zero}
use Rattle.elf_model.specs.Strings.{text_at, string_at, name_at, if_some_byte}
use Rattle.elf_model.specs.RelSound.{IsNameText}

-- no value before the first that passes does
pub none_before : {X : Type 0} (p : X → Bool) (xs : List X) (n : ℕ) → position p xs ≡ Some n → position p (take n xs) ≡ None
none_before p [] n e = absurd cc
none_before p (x ∷ xs) n e =
    let s = position-Some p (x ∷ xs) n x e in
    let le : n ≤ length (x ∷ xs) = omega (arith, s.0) in
    let len : length (take n (x ∷ xs)) ≡ n = length-take-le n (x ∷ xs) le in
    let first : position_or_len p (take n (x ∷ xs)) ≡ n = position_or_len_is p (take n (x ∷ xs)) n x (omega arith) (λ k h. rw (get_or-take n (x ∷ xs) k x h) (s.2 k h)) (λ h. absurd (omega arith)) in
    let outside : ltb (position_or_len p (take n (x ∷ xs))) (length (take n (x ∷ xs))) ≡ false = le-ltb _ _ (omega arith) in
    rw outside refl

no_zero : (strings : List ℕ) (k : ℕ) (text : List ℕ) → text_at strings k ≡ Some text → first_zero text ≡ None
unfolding text_at
no_zero strings k text is =
    let found = from_map (λ n. take n (drop k strings)) (position (λ b. b == 0) (drop k strings)) text is in
    subst (λ (t : List ℕ). first_zero t ≡ None) found.2 (none_before (λ b. b == 0) (drop k strings) found.0 found.1)

is_text : (text : List ℕ) → 0 < length text → length text ≤ 255 → first_zero text ≡ None → IsNameText text
is_text text some short zero =
    let one : (length text == 0) ≡ false = ne_eqb (length text) 0 (λ e. omega (arith, e, some)) in
    let two : nat_lt 255 (length text) ≡ false = le-ltb 255 (length text) short in
    rw (one, two, zero) refl

-- a name that is read can be written
pub read_name : (strings : List ℕ) (k : ℕ) (name : List ℕ) → name_at strings k ≡ Some name → IsNameText name
unfolding name_at string_at
read_name strings k name is =
    let named = from_then if_some_byte (string_at strings k) name is in
    let some = cond_some_parts (nat_lt 0 (length named.0)) (Some named.0) name named.2 in
    let short = from_then (λ text. cond (leb (length text) 255) (Some text) None) (text_at strings k) named.0 named.1 in
    let fits = cond_some_parts (nat_le (length short.0) 255) (Some short.0) named.0 short.2 in
    let same : named.0 ≡ name = cc in
    let same' : short.0 ≡ named.0 = cc in
    let full : short.0 ≡ name = same' ∙ same in
    is_text name
    (subst (λ (t : List ℕ). 0 < length t) same (ltb-true 0 (length named.0) some.0))
    (subst (λ (t : List ℕ). length t ≤ 255) full (leb-true (length short.0) 255 fits.0))
    (subst (λ (t : List ℕ). first_zero t ≡ None) full (no_zero strings k short.0 short.1))
