-- Options: the first of several, and what is known where there is one or none.
use Rattle.std.proofs.Common.{◌≡◌, ◌≢◌, ◌⊎◌, inl, inr, Bool, true, false, not, cond, ◌||◌, Option, Some, None, refl, ap, subst}
use Rattle.std.specs.Option.{option_or, option_map, option_map_or, option_and_then, is_none, is_some, IfSome, IfNone, IsSomeAnd}

module _ {X : Type 0} where
  -- ---- none or one

  pub none_or : (o : Option X) → (o ≡ None) ⊎ ((x : X) × (o ≡ Some x))
  none_or None = inl refl
  none_or (Some x) = inr (x, refl)

  -- what is not there is none
  pub none_of : (o : Option X) → is_some o ≡ false → o ≡ None
  none_of None e = refl
  none_of (Some x) e = absurd cc

  pub none_of_not : (o : Option X) → not (is_some o) ≡ true → o ≡ None
  none_of_not None e = refl
  none_of_not (Some x) e = absurd cc

  pub none_of_none : (o : Option X) → is_none o ≡ true → o ≡ None
  none_of_none None e = refl
  none_of_none (Some x) e = absurd cc

  pub is_none_of : (o : Option X) → o ≡ None → is_none o ≡ true
  is_none_of o e = ap is_none e

  pub some_of : (o : Option X) → is_some o ≡ true → (x : X) × (o ≡ Some x)
  some_of None e = absurd cc
  some_of (Some x) e = (x, refl)

  pub some_of_none : (o : Option X) → is_none o ≡ false → (x : X) × (o ≡ Some x)
  some_of_none None e = absurd cc
  some_of_none (Some x) e = (x, refl)

  pub one_value : (o : Option X) (x y : X) → o ≡ Some x → o ≡ Some y → x ≡ y
  one_value o x y e f = cc

  -- ---- the first of several

  pub or_none : (o : Option X) → option_or o None ≡ o
  or_none None = refl
  or_none (Some x) = refl

  pub or_assoc : (o p q : Option X) → option_or (option_or o p) q ≡ option_or o (option_or p q)
  or_assoc None p q = refl
  or_assoc (Some x) p q = refl

  -- what is there stays the first
  pub or_stays : (o p : Option X) (x : X) → o ≡ Some x → option_or o p ≡ Some x
  or_stays None p x e = absurd cc
  or_stays (Some y) p x e = e

  pub or_first : (o p : Option X) → o ≢ None → option_or o p ≡ o
  or_first None p some = absurd (some refl)
  or_first (Some x) p some = refl

  pub or_some : (o p : Option X) → o ≢ None → option_or o p ≢ None
  or_some None p some = absurd (some refl)
  or_some (Some x) p some = λ none. absurd cc

  pub or_some_later : (o p : Option X) → p ≢ None → option_or o p ≢ None
  or_some_later None p some = some
  or_some_later (Some x) p some = λ none. absurd cc

  pub or_cases : (o p : Option X) (x : X) → option_or o p ≡ Some x → (o ≡ Some x) ⊎ (p ≡ Some x)
  or_cases None p x e = inr e
  or_cases (Some y) p x e = inl e

  pub or_cases_of_three : (o p q : Option X) (x : X) → option_or o (option_or p q) ≡ Some x → (o ≡ Some x) ⊎ ((p ≡ Some x) ⊎ (q ≡ Some x))
  or_cases_of_three None p q x e = inr (or_cases p q x e)
  or_cases_of_three (Some y) p q x e = inl e

  pub or_none_parts : (o p : Option X) → option_or o p ≡ None → (o ≡ None) × (p ≡ None)
  or_none_parts None p e = (refl, e)
  or_none_parts (Some x) p e = absurd cc

  -- ---- by a test

  pub cond_none_parts : (b : Bool) (x : X) (o : Option X) → cond b (Some x) o ≡ None → (b ≡ false) × (o ≡ None)
  cond_none_parts true x o e = absurd cc
  cond_none_parts false x o e = (refl, e)

  pub cond_some_parts : (b : Bool) (o : Option X) (x : X) → cond b o None ≡ Some x → (b ≡ true) × (o ≡ Some x)
  cond_some_parts true o x e = (refl, e)
  cond_some_parts false o x e = absurd cc

  pub cond_swapped : (a b : Bool) (x y o : Option X) → (a ≡ true → b ≡ true → ⊥) → cond a x (cond b y o) ≡ cond b y (cond a x o)
  cond_swapped true true x y o apart = absurd (apart refl refl)
  cond_swapped true false x y o apart = refl
  cond_swapped false b x y o apart = refl

  pub is_some-cond : (b : Bool) (x : X) (o : Option X) → is_some (cond b (Some x) o) ≡ (b || is_some o)
  is_some-cond true x o = refl
  is_some-cond false x o = refl

  -- ---- what is said of one

  pub some_and : (P : X → Type 0) (o : Option X) (x : X) → o ≡ Some x → P x → IsSomeAnd o P
  some_and P None x e p = absurd cc
  some_and P (Some y) x e p = let same : x ≡ y = cc in subst P same p

  pub of_some_and : (P : X → Type 0) (o : Option X) → IsSomeAnd o P → (x : X) × (o ≡ Some x) × P x
  of_some_and P None h = absurd h
  of_some_and P (Some x) h = (x, refl, h)

  pub if_some_both : (P Q : X → Type 0) (o : Option X) → IfSome o P → IfSome o Q → IfSome o (λ x. P x × Q x)
  if_some_both P Q None h k = tt
  if_some_both P Q (Some x) h k = (h, k)

  pub if_none_at : {P : Type 0} (o : Option X) → o ≡ None → IfNone o P → P
  if_none_at None e p = p
  if_none_at (Some x) e p = absurd cc

-- ---- what a function gives of one

module _ {X Y : Type 0} where
  pub map_none : (f : X → Y) (o : Option X) → is_some o ≡ false → option_map f o ≡ None
  map_none f None e = refl
  map_none f (Some x) e = absurd cc

  pub map_some : (f : X → Y) (o : Option X) → is_some o ≡ true → (y : Y) × (option_map f o ≡ Some y)
  map_some f None e = absurd cc
  map_some f (Some x) e = (f x, refl)

  pub map_not_none : (f : X → Y) (o : Option X) → o ≢ None → option_map f o ≢ None
  map_not_none f None some = absurd (some refl)
  map_not_none f (Some x) some = λ none. absurd cc

  -- what is given comes from one
  pub from_map : (f : X → Y) (o : Option X) (y : Y) → option_map f o ≡ Some y → (x : X) × (o ≡ Some x) × (f x ≡ y)
  from_map f None y e = absurd cc
  from_map f (Some x) y e = (x, refl, cc)

  pub is_some-from_map : (f : X → Y) (o : Option X) (y : Y) → option_map f o ≡ Some y → is_some o ≡ true
  is_some-from_map f None y e = absurd cc
  is_some-from_map f (Some x) y e = refl

  pub from_then : (f : X → Option Y) (o : Option X) (y : Y) → option_and_then f o ≡ Some y → (x : X) × (o ≡ Some x) × (f x ≡ Some y)
  from_then f None y e = absurd cc
  from_then f (Some x) y e = (x, refl, e)

-- what passes a test, where none does not
pub from_test : {X : Type 0} (test : X → Bool) (o : Option X) → option_map_or test o false ≡ true → (x : X) × (o ≡ Some x) × (test x ≡ true)
from_test test None e = absurd cc
from_test test (Some x) e = (x, refl, e)

pub map-map : {X Y Z : Type 0} (f : X → Y) (g : Y → Z) (o : Option X) → option_map g (option_map f o) ≡ option_map (λ x. g (f x)) o
map-map f g None = refl
map-map f g (Some x) = refl

pub then-map : {X Y Z : Type 0} (f : X → Y) (g : Y → Option Z) (o : Option X) → option_and_then g (option_map f o) ≡ option_and_then (λ x. g (f x)) o
then-map f g None = refl
then-map f g (Some x) = refl
