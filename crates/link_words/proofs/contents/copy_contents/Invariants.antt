use Rattle.std.proofs.Common.{◌≡◌, ℕ, ◌+◌, ◌-◌, ◌<◌, ◌≤◌, length, slice_index, drop}
use Rattle.link_words.specs.parts.Contents.{content_over}
use Rattle.link_words.proofs.contents.copy_contents.Given as goal

-- the contents from `left` on are there
abbrev pub invariant-loop-left : goal.invariant-loop-left
invariant-loop-left l = record {
  within : l.left ≤ length l.contents;
  len : length l.bytes ≡ length l.fn.bytes;
  written : (i : ℕ) → i < length l.fn.bytes → slice_index l.bytes i ≡ content_over (drop l.left l.contents) (λ v. slice_index l.fn.bytes (v - l.start)) (l.start + i);
}

abbrev pub decreases-loop-left : goal.decreases-loop-left
decreases-loop-left l = l.left
