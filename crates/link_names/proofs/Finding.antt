-- A name that is looked up.
use Rattle.std.proofs.Common.{◌≡◌, ℕ, ◌<◌, ◌≤◌, Bool, true, false, cond, List, [], length, get_or, Some, None, refl, ap, sym, ◌∙◌, arith}
use Rattle.std.specs.Prelude.{find, nat_lt, option_map, position, slice_get, unwrap_or}
use Rattle.std.specs.List.{position_or_len}
use Rattle.std.specs.Str.{bytes_eq}
use Rattle.std.proofs.lemmas.Bool.Decides.{nat_tests}
use Rattle.std.proofs.lemmas.List.Folds.{find_at}
use Rattle.std.proofs.lemmas.List.Quantifiers.{position-Some}
use Rattle.std.proofs.lemmas.Option.{slice_get-get_or, slice_get_past}
use Rattle.elf_model.specs.declared.relocatable.RelObject.{RelObject}
use Rattle.link_model.specs.declared.input.Mode.{Mode}
use Rattle.link_model.specs.declared.target.Target.{Target}
use Rattle.link_model.specs.Joined.{names_of}
use Rattle.link_model.specs.Targets.{target_of_name, targets_of}
use Rattle.link_names.proofs.Agreeing.{counted}

-- what is found stands at the position of the first that passes
module _ {X : Type 0} (p : X → Bool) (xs : List X) where
  at_place : (k n : ℕ) (b : Bool) → nat_lt n (length xs) ≡ b → cond b (Some n) None ≡ Some k → n ≡ k
  at_place k n true within is = cc
  at_place k n false past is = absurd cc

  past_all : (n : ℕ) (b : Bool) → nat_lt n (length xs) ≡ b → cond b (Some n) None ≡ None → length xs ≤ n
  past_all n true within is = absurd cc
  past_all n false past is = grind (arith, nat_tests)

  found_there : (k : ℕ) → position p xs ≡ Some k → find p xs ≡ slice_get xs k
  found_there k is = find_at p xs ∙ ap (slice_get xs) (at_place k (position_or_len p xs) (nat_lt (position_or_len p xs) (length xs)) refl is)

  found_nowhere : position p xs ≡ None → find p xs ≡ None
  found_nowhere is = find_at p xs ∙ slice_get_past xs (position_or_len p xs) (past_all (position_or_len p xs) (nat_lt (position_or_len p xs) (length xs)) refl is)

module _ (mode : Mode) (inputs : List RelObject) (name : List ℕ) where
  pub target_found : (targets : List Target) (k : ℕ) (d : Target) → targets ≡ targets_of mode inputs → position (bytes_eq name) (names_of inputs) ≡ Some k
      → Some (get_or targets k d) ≡ option_map (target_of_name mode inputs) (find (bytes_eq name) (names_of inputs))
  target_found targets k d are is =
      let within : k < length (names_of inputs) = (position-Some (bytes_eq name) (names_of inputs) k [] is).0 in
      let there : slice_get (names_of inputs) k ≡ Some (get_or (names_of inputs) k []) = slice_get-get_or (names_of inputs) k [] within in
      ap Some (counted mode inputs targets k d are within ∙ ap (λ o. target_of_name mode inputs (unwrap_or o [])) there)
      ∙ sym (ap (option_map (target_of_name mode inputs)) (found_there (bytes_eq name) (names_of inputs) k is ∙ there))

  pub target_nowhere : position (bytes_eq name) (names_of inputs) ≡ None → None ≡ option_map (target_of_name mode inputs) (find (bytes_eq name) (names_of inputs))
  target_nowhere is = sym (ap (option_map (target_of_name mode inputs)) (found_nowhere (bytes_eq name) (names_of inputs) is))
