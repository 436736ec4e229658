-- Rounding up to a residue.
use Rattle.std.proofs.Common.{◌≡◌, ℕ, ◌+◌, ◌-◌, ◌*◌, ◌/◌, ◌%◌, ◌<◌, ◌≤◌, ap, ◌∙◌, inl, inr, arith}
use Rattle.std.proofs.Math.Nat.{mul-le-mul_left}
use Rattle.std.proofs.lemmas.Nat.{mod-mul-add}
use Rattle.std.proofs.lemmas.Bool.{cases_lt}

-- the number of the next row has the residue
pub next_congruent : (x u r : ℕ) → r < u → (x + (u - x % u) + r) % u ≡ r
next_congruent x u r h =
    let e : x + (u - x % u) + r ≡ (x / u + 1) * u + r = omega arith in
    ap (λ n. n % u) e ∙ mod-mul-add (x / u + 1) u r h

-- and no number in between has it
pub next_least : (x b u r : ℕ) → 0 < u → x ≤ b → b % u ≡ r → r < x % u → x + (u - x % u) + r ≤ b
next_least x b u r pos le e lt =
    elim (cases_lt (x / u) (b / u)) [
      | inl h ↦ omega (arith, mul-le-mul_left u h)
      | inr h ↦ omega (arith, mul-le-mul_left u h)
    ]
