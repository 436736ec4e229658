use Rattle.std.proofs.Common.{◌≡◌, ◌+◌, ◌<◌, ◌^◌, length, [], All}
use Rattle.fd_base.specs.Lines.{lines_of}
use Rattle.a32_asm.specs.Layout.{start}
use Rattle.a32_asm.specs.FirstPass.{first_pass}
use Rattle.a32_asm.specs.parts.Fits.{IsSaid}
use Rattle.a32_asm.proofs.first_pass.first_pass.Given as goal

-- the pass over the text is that over the lines that are left
abbrev pub invariant-loop-line : goal.invariant-loop-line
invariant-loop-line l = record {
  left : first_pass 1 (record { saids = []; layout = start }) (lines_of l.text) ≡ first_pass (l.lines.before + 1) l.passed l.lines.left;
  fit : All IsSaid l.passed.saids;
  count : length l.passed.saids ≡ l.lines.before;
  few : length l.passed.saids < 2 ^ 32;
}

-- the lines that are left
abbrev pub decreases-loop-line : goal.decreases-loop-line
decreases-loop-line l = length l.lines.left
