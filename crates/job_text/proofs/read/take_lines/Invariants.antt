use Rattle.std.proofs.Common.{◌≡◌, length}
use Rattle.job_text.proofs.JobLines.{Taken}
use Rattle.job_text.proofs.read.take_lines.Given as goal

-- the lines so far are taken, and `last` is the number of the last of them
abbrev pub invariant-loop-line : goal.invariant-loop-line
invariant-loop-line l = record {
  taken : Taken l.limits l.fn.lines.left l.lines.left l.given l.last;
  number : l.lines.before ≡ l.last;
}

-- the lines that are left
abbrev pub decreases-loop-line : goal.decreases-loop-line
decreases-loop-line l = length l.lines.left
