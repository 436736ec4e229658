use Rattle.std.proofs.Common.{◌≡◌, ℕ, ◌+◌, ◌<◌, get_or}
use Rattle.guest_mem.specs.declared.tags.WordTag.TheVariants.{Mixed}
use Rattle.guest_mem.proofs.tags.shared_tag.Given as goal

-- each word so far has the tag
abbrev pub invariant-loop-i : goal.invariant-loop-i
invariant-loop-i l = (k : ℕ) → k < l.i → get_or l.tags (l.first + k) Mixed ≡ l.tag
