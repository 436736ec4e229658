use Rattle.std.proofs.Common.{◌≡◌, ◌+◌, ◌%◌, None}
use Rattle.std.specs.Prelude.{find, map, length}
use Rattle.std.specs.List.{range_with_len}
use Rattle.run_model.specs.State.{lives}
use Rattle.proc_run.proofs.process.live_from.Given as goal

-- none so far lives
abbrev pub invariant-loop-i : goal.invariant-loop-i
invariant-loop-i l = find (lives l.threads) (map (λ i. (l.t + i) % length l.threads) (range_with_len 0 l.i)) ≡ None
