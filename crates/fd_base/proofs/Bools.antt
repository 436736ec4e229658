-- Truth values. The rest is `Rattle.std.proofs.lemmas.Bool` and `Rattle.std.proofs.Math.Bool`.
use Rattle.std.proofs.Common.{◌≡◌, Bool, true, false, not, ◌&&◌, ◌||◌, refl}

-- a part that is known to be idle
pub and_true : (a b : Bool) → b ≡ true → (a && b) ≡ a
and_true true b e = e
and_true false b e = refl

pub or_false : (a b : Bool) → b ≡ false → (a || b) ≡ a
or_false true b e = refl
or_false false b e = e

pub neither : (a b : Bool) → not (a || b) ≡ true → (a ≡ false) × (b ≡ false)
neither true b h = absurd cc
neither false true h = absurd cc
neither false false h = (refl, refl)

pub not_either : (a b : Bool) → a ≡ false → b ≡ false → not (a || b) ≡ true
not_either true b e f = absurd cc
not_either false true e f = absurd cc
not_either false false e f = refl
