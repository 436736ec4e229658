use Rattle.std.proofs.Common.{◌≡◌, ◌||◌, get_or}
use Rattle.std.specs.Prelude.{nat_lt, filter}
use Rattle.std.specs.List.{list_any, range_with_len}
use Rattle.a32_asm.specs.Object.{has_label}
use Rattle.a32_asm.proofs.object.kept.Given as goal

abbrev pub invariant-loop-section : goal.invariant-loop-section
invariant-loop-section l = l.kept.items ≡ filter (λ k. nat_lt 0 (get_or l.all.sizes k 0) || list_any (has_label k) l.all.known.facts) (range_with_len 0 l.section)
