use Rattle.link_checks.proofs.Numbers.{AreFirst}
use Rattle.link_checks.proofs.shown.Shown.among.Given as goal

abbrev pub invariant-loop-target : goal.invariant-loop-target
invariant-loop-target l = AreFirst l.all l.target-index l.targets l.numbers
