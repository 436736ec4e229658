use Rattle.std.proofs.Common.{◌≡◌, ◌+◌, map, drop}
use Rattle.a32_asm.specs.Layout.{start}
use Rattle.a32_asm.specs.SecondPass.{nothing_yet, second_pass}
use Rattle.a32_asm.specs.Shown.{shown_said}
use Rattle.a32_asm.proofs.Passing.{LeftFrom}
use Rattle.a32_asm.proofs.second_pass.second_pass.Given as goal

-- the pass over the text is that over the lines that are left
abbrev pub invariant-loop-said : goal.invariant-loop-said
invariant-loop-said l = record {
  number : l.number ≡ l.said-index;
  left : LeftFrom l.known l.spot (l.said-index + 1) l.contents (drop l.said-index l.saids) (second_pass l.known 1 start nothing_yet (map shown_said l.saids));
}
