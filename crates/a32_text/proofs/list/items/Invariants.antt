use Rattle.std.proofs.Common.{◌≡◌, length}
use Rattle.a32_text.specs.List.{listing, opened, IsOpen}
use Rattle.a32_text.proofs.list.items.Given as goal

-- what is left of the list behind what was taken
abbrev pub invariant-loop-token : goal.invariant-loop-token
invariant-loop-token l = record {
  stays : IsOpen l.so_far;
  left : listing opened l.fn.tokens ≡ listing l.so_far l.tokens;
}

abbrev pub decreases-loop-token : goal.decreases-loop-token
decreases-loop-token l = length l.tokens
