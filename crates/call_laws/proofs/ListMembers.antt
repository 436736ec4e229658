-- What is among the elements of a list.
use Rattle.std.proofs.Common.{◌≡◌, ◌⊎◌, inl, inr, zero, suc, Bool, true, false, cond, List, [], ◌∷◌, ◌++◌, refl, ap, arith}
use Rattle.std.specs.Prelude.{Contains, filter, map}
use Rattle.std.specs.List.{flat_map}

-- the head, or one of the rest
abbrev pub Has : {X : Type 0} → List X → X → Type 0
Has [] x = ⊥
Has (y ∷ ys) x = (y ≡ x) ⊎ Has ys x

pub contains_has : {X : Type 0} (xs : List X) (x : X) → Contains xs x → Has xs x
contains_has [] x (k, l, e) = absurd (omega arith)
contains_has (y ∷ ys) x (zero, l, e) = inl e
contains_has (y ∷ ys) x (suc k, l, e) = inr (contains_has ys x (k, omega arith, e))

pub has_contains : {X : Type 0} (xs : List X) (x : X) → Has xs x → Contains xs x
has_contains [] x h = absurd h
has_contains (y ∷ ys) x (inl e) = (0, omega arith, e)
has_contains (y ∷ ys) x (inr h) = let c = has_contains ys x h in (suc c.0, omega (arith, c.1), c.2)

pub has_left : {X : Type 0} (xs ys : List X) (x : X) → Has xs x → Has (xs ++ ys) x
has_left [] ys x h = absurd h
has_left (y ∷ xs) ys x (inl e) = inl e
has_left (y ∷ xs) ys x (inr h) = inr (has_left xs ys x h)

pub has_right : {X : Type 0} (xs ys : List X) (x : X) → Has ys x → Has (xs ++ ys) x
has_right [] ys x h = h
has_right (y ∷ xs) ys x h = inr (has_right xs ys x h)

pub has_map : {X Y : Type 0} (f : X → Y) (xs : List X) (x : X) → Has xs x → Has (map f xs) (f x)
has_map f [] x h = absurd h
has_map f (y ∷ xs) x (inl e) = inl (ap f e)
has_map f (y ∷ xs) x (inr h) = inr (has_map f xs x h)

kept : {X : Type 0} (p : X → Bool) (y : X) (xs : List X) (x : X) (b : Bool) → p x ≡ true → p y ≡ b → (y ≡ x) ⊎ Has (filter p xs) x → Has (cond b (y ∷ filter p xs) (filter p xs)) x
kept p y xs x true passes e h = h
kept p y xs x false passes e (inl same) = absurd (cc (passes, e, ap p same))
kept p y xs x false passes e (inr h) = h

pub has_filter : {X : Type 0} (p : X → Bool) (xs : List X) (x : X) → p x ≡ true → Has xs x → Has (filter p xs) x
has_filter p [] x passes h = absurd h
has_filter p (y ∷ xs) x passes (inl e) = kept p y xs x (p y) passes refl (inl e)
has_filter p (y ∷ xs) x passes (inr h) = kept p y xs x (p y) passes refl (inr (has_filter p xs x passes h))

pub has_flat_map : {X Y : Type 0} (f : X → List Y) (xs : List X) (x : X) (y : Y) → Has xs x → Has (f x) y → Has (flat_map f xs) y
has_flat_map f [] x y h k = absurd h
has_flat_map f (z ∷ xs) x y (inl e) k = has_left (f z) (flat_map f xs) y (rw e k)
has_flat_map f (z ∷ xs) x y (inr h) k = has_right (f z) (flat_map f xs) y (has_flat_map f xs x y h k)
