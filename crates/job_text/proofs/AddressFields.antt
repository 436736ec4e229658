-- The addresses of a place line, field by field.
use Rattle.std.proofs.Common.{◌≡◌, ℕ, ◌+◌, ◌<◌, ◌≤◌, Bool, true, false, List, [], ◌∷◌, ◌++◌, length, Option, Some, None, Ok, Err, refl, sym, ap, ◌∙◌, arith, append_assoc, append-nil, length-append}
use Rattle.std.specs.Prelude.{nat_le, ◌&&◌, if◌then◌else◌, option_map, option_and_then}
use Rattle.std.proofs.lemmas.Bool.Decides.{nat_tests}
use Rattle.fd_base.specs.Texts.{number_of}
use Rattle.job_text.specs.declared.refusal.JobKind.TheVariants.{Form}
use Rattle.job_text.specs.Statement.{numbers_of, formed, addresses_of}

-- the addresses of the first fields, where these fields are left of all
pub record Gathered (most : ℕ) (all left : List (List ℕ)) (addrs : List ℕ) : Type 0 where
  pub count : length addrs + length left ≡ length all
  pub few : length addrs ≤ most
  pub numbers : option_map (λ ns. addrs ++ ns) (numbers_of left) ≡ numbers_of all

same : (o : Option (List ℕ)) → option_map (λ ns. [] ++ ns) o ≡ o
same None = refl
same (Some ns) = refl

pub Gathered-none : (most : ℕ) (all : List (List ℕ)) → Gathered most all all []
Gathered-none most all = record { count = omega arith; few = omega arith; numbers = same (numbers_of all) }

one_more : (addrs : List ℕ) (n : ℕ) (o : Option (List ℕ)) → option_map (λ ns. (addrs ++ n ∷ []) ++ ns) o ≡ option_map (λ ns. addrs ++ ns) (option_map (λ ns. n ∷ ns) o)
one_more addrs n None = refl
one_more addrs n (Some ns) = ap Some (append_assoc addrs (n ∷ []) ns)

numbers_are : (addrs : List ℕ) (n : ℕ) (o : Option (List ℕ)) (read : Option ℕ) → read ≡ Some n
    → option_map (λ ns. addrs ++ ns) (option_and_then (λ m. option_map (λ ns. m ∷ ns) o) read) ≡ option_map (λ ns. (addrs ++ n ∷ []) ++ ns) o
numbers_are addrs n o read e = rw e (sym (one_more addrs n o))

pub Gathered-more : (most : ℕ) (all left : List (List ℕ)) (addrs : List ℕ) (field : List ℕ) (fields : List (List ℕ)) (n : ℕ)
    → left ≡ field ∷ fields → number_of field ≡ Some n → length addrs < most → Gathered most all left addrs → Gathered most all fields (addrs ++ n ∷ [])
Gathered-more most all left addrs field fields n is read room g = record {
  count = let e : length left ≡ length (field ∷ fields) = ap length is in omega (arith, g.count, length-append addrs (n ∷ []));
  few = omega (arith, length-append addrs (n ∷ []));
  numbers =
      sym (numbers_are addrs n (numbers_of fields) (number_of field) read)
      ∙ ap (λ fs. option_map (λ ns. addrs ++ ns) (numbers_of fs)) (sym is)
      ∙ g.numbers;
}

none_read : (addrs : List ℕ) (o : Option (List ℕ)) (read : Option ℕ) → read ≡ None → option_map (λ ns. addrs ++ ns) (option_and_then (λ m. option_map (λ ns. m ∷ ns) o) read) ≡ None
none_read addrs o read e = rw e refl

either_form : (b : Bool) → (if b then formed {X = List ℕ} None else Err Form) ≡ Err Form
either_form true = refl
either_form false = refl

pub Gathered-unread : (most : ℕ) (all left : List (List ℕ)) (addrs : List ℕ) (field : List ℕ) (fields : List (List ℕ))
    → left ≡ field ∷ fields → number_of field ≡ None → Gathered most all left addrs → addresses_of most all ≡ Err Form
unfolding addresses_of
Gathered-unread most all left addrs field fields is read g =
    let none : numbers_of all ≡ None =
    sym g.numbers
    ∙ ap (λ fs. option_map (λ ns. addrs ++ ns) (numbers_of fs)) is
    ∙ none_read addrs (numbers_of fields) (number_of field) read in
    rw none (either_form (nat_le 1 (length all) && nat_le (length all) most))

pub Gathered-full : (most : ℕ) (all left : List (List ℕ)) (addrs : List ℕ) (field : List ℕ) (fields : List (List ℕ))
    → left ≡ field ∷ fields → most ≤ length addrs → Gathered most all left addrs → addresses_of most all ≡ Err Form
unfolding addresses_of
Gathered-full most all left addrs field fields is full g =
    let e : length left ≡ length (field ∷ fields) = ap length is in
    let many : most < length all = omega (arith, g.count) in
    grind (arith, nat_tests)

pub Gathered-empty : (most : ℕ) (all left : List (List ℕ)) (addrs : List ℕ) → left ≡ [] → length addrs ≡ 0 → Gathered most all left addrs → addresses_of most all ≡ Err Form
unfolding addresses_of
Gathered-empty most all left addrs is empty g =
    let e : length left ≡ 0 = ap length is in
    let none : length all ≡ 0 = omega (arith, g.count) in
    rw none refl

pub Gathered-all : (most : ℕ) (all left : List (List ℕ)) (addrs : List ℕ) → left ≡ [] → 0 < length addrs → Gathered most all left addrs → addresses_of most all ≡ Ok addrs
unfolding addresses_of
Gathered-all most all left addrs is some g =
    let e : length left ≡ 0 = ap length is in
    let low : 1 ≤ length all = omega (arith, g.count) in
    let high : length all ≤ most = omega (arith, g.count, g.few) in
    let read : numbers_of all ≡ Some addrs =
    sym g.numbers ∙ ap (λ fs. option_map (λ ns. addrs ++ ns) (numbers_of fs)) is ∙ ap Some (append-nil addrs) in
    rw read (grind (arith, nat_tests))

pub ruleset gathering = (Gathered-none, Gathered-more, Gathered-unread, Gathered-full, Gathered-empty, Gathered-all)
