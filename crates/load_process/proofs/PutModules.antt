-- Modules that are put into their places one by one.
use Rattle.std.proofs.Common.{◌≡◌, ℕ, suc, ◌<◌, Bool, Option, Some, List, ◌∷◌, length, set, sym, ap, ◌∙◌, subst, arith, All}
use Rattle.std.proofs.lemmas.List.Elements.{All-head, All-tail}
use Rattle.load_model.specs.declared.module.Joining.{Joining}
use Rattle.load_model.specs.declared.module.Live.{Live}
use Rattle.load_model.specs.Joined.{flags_of, live_from, modules_after}
use Rattle.load_model.specs.Unbound.{unbound_at_first}

-- the numbers are those of places
abbrev pub AreWithin : List (Option Live) → List Joining → Type 0
AreWithin modules joining = All (λ j. j.number < length modules) joining

pub next_within : (modules : List (Option Live)) (left rest : List Joining) (j : Joining) → left ≡ j ∷ rest → AreWithin modules left → j.number < length modules
next_within modules left rest j is within =
    All-head (λ j. j.number < length modules) j rest (subst (AreWithin modules) is within)

pub rest_within : (modules after : List (Option Live)) (left rest : List Joining) (j : Joining) → left ≡ j ∷ rest → length after ≡ length modules → AreWithin modules left → AreWithin after rest
rest_within modules after left rest j is len within =
    subst (λ n. All (λ j. j.number < n) rest) (sym len) (All-tail (λ j. j.number < length modules) j rest (subst (AreWithin modules) is within))

pub same_after : (modules after : List (Option Live)) (left rest : List Joining) (lazy : Bool) (group : ℕ) (j : Joining) → left ≡ j ∷ rest
    → after ≡ set modules j.number (Some (live_from lazy group j)) → modules_after after lazy group rest ≡ modules_after modules lazy group left
same_after modules after left rest lazy group j is step = ap (λ l. modules_after l lazy group rest) step ∙ ap (modules_after modules lazy group) (sym is)

-- the first flags of modules are those of the first one
pub next_flags : (lazy : Bool) (left rest : List Joining) (flags more : List (List Bool)) (j : Joining) (own : List Bool) → left ≡ j ∷ rest → flags ≡ own ∷ more
    → flags ≡ flags_of lazy left → (own ≡ unbound_at_first lazy j.object) × (more ≡ flags_of lazy rest)
next_flags lazy left rest flags more j own is at all =
    let both : own ∷ more ≡ unbound_at_first lazy j.object ∷ flags_of lazy rest =
    sym at ∙ all ∙ ap (flags_of lazy) is in
    (cc, cc)

pub next_count : (left rest : List Joining) (flags more : List (List Bool)) (j : Joining) (own : List Bool) → left ≡ j ∷ rest → flags ≡ own ∷ more
    → length flags ≡ length left → length more ≡ length rest
next_count left rest flags more j own is at count =
    let one : length left ≡ suc (length rest) = ap length is in
    let two : length flags ≡ suc (length more) = ap length at in
    omega arith
