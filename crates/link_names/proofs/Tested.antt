-- The tests of the first things, and of one more.
use Rattle.std.proofs.Common.{◌≡◌, ℕ, ◌+◌, ◌<◌, List, [], ◌∷◌, ◌++◌, take, length, get_or, None, ap, ◌∙◌}
use Rattle.std.specs.List.{flat_map}
use Rattle.std.proofs.lemmas.List.{append-nil}
use Rattle.std.proofs.lemmas.Grind.{flat_map-append}
use Rattle.elf_model.specs.Test.{first_failing}
use Rattle.elf_model.proofs.Tests.{passed_over, fails_first}
use Rattle.link_model.specs.declared.error.LinkErr.{LinkErr}
use Rattle.link_model.specs.declared.error.LinkErr.TheVariants.{Refused, Memory}
use Rattle.link_model.specs.Inputs.{numbered}
use Rattle.link_model.specs.Targets.{LinkTest}
use Rattle.link_model.specs.parts.Passes.{IsRefusal}
use Rattle.link_names.proofs.Prefixes.{numbered_next, numbered_split}

module _ {X : Type 0} (tests : ℕ × X → List LinkTest) (xs : List X) (k : ℕ) (x : X) (within : k < length xs) (is : x ≡ get_or xs k x)
    (passed : first_failing (flat_map tests (numbered (take k xs))) ≡ None) where
  parts : flat_map tests (numbered (take (k + 1) xs)) ≡ flat_map tests (numbered (take k xs)) ++ tests (k, x)
  parts =
      ap (flat_map tests) (numbered_next xs k x within is) ∙ flat_map-append tests (numbered (take k xs)) ((k, x) ∷ [])
      ∙ ap (λ ts. flat_map tests (numbered (take k xs)) ++ ts) (append-nil (tests (k, x)))

  pub one_more : first_failing (flat_map tests (numbered (take (k + 1) xs))) ≡ first_failing (tests (k, x))
  one_more = ap first_failing parts ∙ passed_over (flat_map tests (numbered (take k xs))) (tests (k, x)) passed

  pub refused_first : (e : LinkErr) → IsRefusal e (tests (k, x)) → IsRefusal e (flat_map tests (numbered xs))
  refused_first Memory r = r
  refused_first (Refused r) fails =
      let rest = numbered_split xs (k + 1) in
      ap (λ es. first_failing (flat_map tests es)) rest.1 ∙ ap first_failing (flat_map-append tests (numbered (take (k + 1) xs)) rest.0)
      ∙ fails_first (flat_map tests (numbered (take (k + 1) xs))) (flat_map tests rest.0) r (one_more ∙ fails)
