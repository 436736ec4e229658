use Rattle.std.proofs.Common.{◌≡◌, replicate, None}
use Rattle.proc_run.proofs.begin.no_threads.Given as goal

-- the places so far
abbrev pub invariant-loop : goal.invariant-loop
invariant-loop l = l.threads.items ≡ replicate l.counter None
