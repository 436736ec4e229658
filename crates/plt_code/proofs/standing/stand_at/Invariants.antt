use Rattle.std.proofs.Common.{◌≡◌, ◌+◌, ◌*◌, drop}
use Rattle.plt_code.specs.Standing as spec
use Rattle.plt_code.proofs.standing.stand_at.Given as goal

-- no word so far decides
abbrev pub invariant-loop-i : goal.invariant-loop-i
invariant-loop-i l = spec.stand_at l.segments (l.v + 4 * l.i) (drop l.i l.words) ≡ spec.stand_at l.segments l.v l.words
