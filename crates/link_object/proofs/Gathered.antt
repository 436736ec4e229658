-- What is gathered along two lists that go together.
use Rattle.std.proofs.Common.{◌≡◌, ℕ, ◌+◌, ◌<◌, ◌≤◌, List, [], ◌∷◌, ◌++◌, Some, None, take, get_or, length, refl, ap, sym, ◌∙◌, arith}
use Rattle.std.specs.Prelude.{Option, option_to_list}
use Rattle.std.specs.List.{AllZip, filter_map, flat_map, cons_option}
use Rattle.std.proofs.lemmas.List.{flat_map_more, take_all}
use Rattle.std.proofs.lemmas.Option.{slice_get-get_or, slice_get_within, get_or_from_slice_get}
use Rattle.fd_base.proofs.Lists.{zip_at_right, zip_length}
use Rattle.link_names.proofs.Prefixes.{next_taken}

module _ {X F Y : Type 0} (R : X → F → Type 0) (g : X → List Y) (xs : List X) (fs : List F) (all : AllZip R xs fs) (old now : List Y) (i : ℕ) (is : now ≡ old ++ flat_map g (take i xs)) where
  pub one_more : (d : F) (new : List Y) (o : Option Y) → i < length fs → new ≡ now ++ option_to_list o → ((x : X) → R x (get_or fs i d) → option_to_list o ≡ g x)
      → new ≡ old ++ flat_map g (take (i + 1) xs)
  one_more d new o lt put gives =
      let p = zip_at_right R xs fs i (get_or fs i d) all (slice_get-get_or fs i d lt) in
      let x = p.0 in
      let taken : take (i + 1) xs ≡ take i xs ++ x ∷ [] = next_taken xs i x (slice_get_within xs i x p.1) (sym (get_or_from_slice_get xs i x x p.1)) in
      let here : option_to_list o ≡ g x = gives x p.2 in
      put ∙ ap (λ l. l ++ option_to_list o) is ∙ ap (λ l. (old ++ flat_map g (take i xs)) ++ l) here ∙ flat_map_more g old (take i xs) x ∙ ap (λ l. old ++ flat_map g l) (sym taken)

  pub all_gathered : length fs ≤ i → now ≡ old ++ flat_map g xs
  all_gathered le =
      let same = zip_length R xs fs all in
      is ∙ ap (λ l. old ++ flat_map g l) (take_all i xs (omega (arith, same)))

pub filter_map_is : {X Y : Type 0} (h : X → Option Y) (xs : List X) → filter_map h xs ≡ flat_map (λ x. option_to_list (h x)) xs
filter_map_is h [] = refl
filter_map_is {X = X} {Y = Y} h (x ∷ xs) = cons_is (h x) (filter_map h xs) ∙ ap (λ l. option_to_list (h x) ++ l) (filter_map_is h xs)
  where
    cons_is : (o : Option Y) (l : List Y) → cons_option o l ≡ option_to_list o ++ l
    cons_is None l = refl
    cons_is (Some y) l = refl
