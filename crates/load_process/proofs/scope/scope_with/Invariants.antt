use Rattle.std.proofs.Common.{◌≡◌, drop}
use Rattle.std.specs.Prelude.{nat_eq}
use Rattle.symbol_scope.specs.Closure.{with_new}
use Rattle.load_process.proofs.scope.scope_with.Given as goal

-- the members so far are in the scope
abbrev pub invariant-loop-member : goal.invariant-loop-member
invariant-loop-member l = with_new nat_eq l.scope (drop l.member-index l.members) ≡ with_new nat_eq l.process.global l.members
