-- Members of lists that are made from others.
use Rattle.fd_base.proofs.Members.{contains_later, first_or_later}
use Rattle.std.proofs.Common.{◌≡◌, ◌⊎◌, inl, inr, List, Option, Some, None, ap}
use Rattle.std.specs.Prelude.{Contains}
use Rattle.std.specs.List.{cons_option}

behind_option : {X : Type 0} (o : Option X) (xs : List X) (y : X) → Contains xs y → Contains (cons_option o xs) y
behind_option (Some x) xs y there = contains_later x y xs there
behind_option None xs y there = there

from_option : {X : Type 0} (o : Option X) (xs : List X) (y : X) → Contains (cons_option o xs) y → (o ≡ Some y) ⊎ Contains xs y
from_option (Some x) xs y there = elim (first_or_later x y xs there) [ inl is ↦ inl (ap Some is) | inr later ↦ inr later ]
from_option None xs y there = inr there
