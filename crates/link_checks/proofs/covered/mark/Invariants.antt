use Rattle.std.proofs.Common.{◌≡◌, ℕ, ◌<◌, ◌&&◌, ◌||◌, false, length, get_or}
use Rattle.std.specs.Prelude.{nat_le, nat_lt}
use Rattle.link_checks.proofs.covered.mark.Given as goal

-- the bytes before `at` are marked
abbrev pub invariant-loop-at : goal.invariant-loop-at
invariant-loop-at l = (i : ℕ) → i < length l.fn.marks → get_or l.marks i false ≡ ((nat_le l.first i && nat_lt i l.at) || get_or l.fn.marks i false)
