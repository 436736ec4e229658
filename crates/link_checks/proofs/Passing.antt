-- The tests of the first things, and of one more.
use Rattle.std.proofs.Common.{◌≡◌, ℕ, ◌+◌, List, [], ◌∷◌, ◌++◌, take, drop, None, Some, refl, ap, sym, ◌∙◌}
use Rattle.std.specs.Prelude.{slice_get}
use Rattle.std.specs.List.{flat_map}
use Rattle.std.proofs.lemmas.Grind.{flat_map-append}
use Rattle.std.proofs.lemmas.List.{append-nil, take-append-drop, take_more}
use Rattle.std.proofs.lemmas.Option.{slice_get_within, get_or_from_slice_get}
use Rattle.elf_model.specs.Test.{first_failing}
use Rattle.elf_model.proofs.Tests.{passed_over, fails_first}
use Rattle.link_model.specs.declared.error.LinkErr.{LinkErr}
use Rattle.link_model.specs.declared.error.LinkErr.TheVariants.{Refused, Memory}
use Rattle.link_model.specs.Targets.{LinkTest}
use Rattle.link_model.specs.parts.Passes.{IsRefusal}

-- what is made of things that are made of others
pub flattened : {X Y Z : Type 0} (f : X → List Y) (g : Y → List Z) (xs : List X)
    → flat_map g (flat_map f xs) ≡ flat_map (λ x. flat_map g (f x)) xs
flattened f g [] = refl
flattened f g (x ∷ xs) = flat_map-append g (f x) (flat_map f xs) ∙ ap (λ ys. flat_map g (f x) ++ ys) (flattened f g xs)

module _ {X : Type 0} (xs : List X) (k : ℕ) (x : X) (there : slice_get xs k ≡ Some x) where
  -- one more thing
  pub taken : take (k + 1) xs ≡ take k xs ++ x ∷ []
  taken = take_more xs k x (slice_get_within xs k x there) ∙ ap (λ y. take k xs ++ y ∷ []) (get_or_from_slice_get xs k x x there)

  pub mapped : {Y : Type 0} (f : X → List Y) → flat_map f (take (k + 1) xs) ≡ flat_map f (take k xs) ++ f x
  mapped f = ap (flat_map f) taken ∙ flat_map-append f (take k xs) (x ∷ []) ∙ ap (λ ys. flat_map f (take k xs) ++ ys) (append-nil (f x))

  module _ (tests : X → List LinkTest) (passed : first_failing (flat_map tests (take k xs)) ≡ None) where
    -- its tests decide
    pub one_more : first_failing (flat_map tests (take (k + 1) xs)) ≡ first_failing (tests x)
    one_more = ap first_failing (mapped tests) ∙ passed_over (flat_map tests (take k xs)) (tests x) passed

    -- and the first that fails is the first of all
    pub refused : (e : LinkErr) → IsRefusal e (tests x) → IsRefusal e (flat_map tests xs)
    refused Memory r = r
    refused (Refused r) fails =
        ap (λ ys. first_failing (flat_map tests ys)) (sym (take-append-drop (k + 1) xs))
        ∙ ap first_failing (flat_map-append tests (take (k + 1) xs) (drop (k + 1) xs))
        ∙ fails_first (flat_map tests (take (k + 1) xs)) (flat_map tests (drop (k + 1) xs)) r (one_more ∙ fails)

-- tests after others that pass
pub passed_both : (ts us : List LinkTest) → first_failing ts ≡ None → first_failing us ≡ None → first_failing (ts ++ us) ≡ None
passed_both ts us passed rest = passed_over ts us passed ∙ rest

pub refused_first : (ts us : List LinkTest) (e : LinkErr) → IsRefusal e ts → IsRefusal e (ts ++ us)
refused_first ts us Memory r = r
refused_first ts us (Refused r) fails = fails_first ts us r fails

pub refused_later : (ts us : List LinkTest) (e : LinkErr) → first_failing ts ≡ None → IsRefusal e us → IsRefusal e (ts ++ us)
refused_later ts us Memory passed r = r
refused_later ts us (Refused r) passed fails = passed_over ts us passed ∙ fails
