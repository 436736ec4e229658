-- What is made of some things of a list, where it is made of one more.
use Rattle.std.proofs.Common.{◌≡◌, ℕ, ◌+◌, ◌<◌, List, [], ◌∷◌, ◌++◌, length, get_or, take, Option, Some, None, refl, ap, sym, ◌∙◌}
use Rattle.std.specs.Prelude.{option_to_list}
use Rattle.std.specs.List.{filter_map, cons_option}
use Rattle.std.proofs.lemmas.List.{take_more}
use Rattle.std.proofs.lemmas.List.Elements.{filter_map-append}

as_list : {Y : Type 0} (o : Option Y) → cons_option o [] ≡ option_to_list o
as_list None = refl
as_list (Some x) = refl

pub kept-more : {X Y : Type 0} (f : X → Option Y) (xs : List X) (i : ℕ) (d : X) (old new : List Y) → i < length xs → old ≡ filter_map f (take i xs)
    → new ≡ old ++ option_to_list (f (get_or xs i d)) → new ≡ filter_map f (take (i + 1) xs)
kept-more f xs i d old new lt is put =
    put ∙ ap (λ ys. ys ++ option_to_list (f (get_or xs i d))) is ∙ ap (λ ys. filter_map f (take i xs) ++ ys) (sym (as_list (f (get_or xs i d))))
    ∙ sym (ap (filter_map f) (take_more xs i d lt) ∙ filter_map-append f (take i xs) (get_or xs i d ∷ []))
