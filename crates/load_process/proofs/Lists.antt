-- Elements of lists: what is found in them, and what is kept of them.
use Rattle.fd_base.proofs.Lists.{pairs_unmapped}
use Rattle.fd_base.proofs.Members.{contains_at, filter_in}
use Rattle.std.proofs.Common.{◌≡◌, ℕ, ◌<◌, Bool, true, Some, List, length, map}
use Rattle.std.specs.Prelude.{filter, slice_get, Contains, AllPairs}
use Rattle.std.proofs.lemmas.Option.{slice_get_within}

pub at_some : {X : Type 0} (xs : List X) (k : ℕ) (x : X) → slice_get xs k ≡ Some x → Contains xs x × (k < length xs)
at_some xs k x e = (contains_at xs k x e, slice_get_within xs k x e)

pub to_filter : {X : Type 0} (p : X → Bool) (xs : List X) (a : X) → p a ≡ true → Contains xs a → Contains (filter p xs) a
to_filter p xs a t c = filter_in p xs a c t

pub pairs-map : {X Y : Type 0} (f : X → Y) (R : Y → Y → Type 0) (xs : List X) → AllPairs R (map f xs) → AllPairs (λ x y. R (f x) (f y)) xs
pairs-map f R xs = pairs_unmapped R f xs
