use Rattle.std.proofs.Common.{◌≡◌, ℕ, ◌+◌, ◌-◌, ◌<◌, ◌≤◌, length, slice_index, drop}
use Rattle.load_model.specs.Image.{byte_over}
use Rattle.load_image.proofs.write.write_words.Given as goal

-- the words from `left` on are written
abbrev pub invariant-loop-left : goal.invariant-loop-left
invariant-loop-left l = record {
  within : l.left ≤ length l.words;
  len : length l.bytes ≡ length l.fn.bytes;
  written : (i : ℕ) → i < length l.fn.bytes → slice_index l.bytes i ≡ byte_over (drop l.left l.words) (λ v. slice_index l.fn.bytes (v - l.vaddr)) (l.vaddr + i);
}

abbrev pub decreases-loop-left : goal.decreases-loop-left
decreases-loop-left l = l.left
