use Rattle.std.proofs.Common.{◌≡◌, not, filter}
use Rattle.std.specs.List.{range_with_len}
use Rattle.load_model.specs.Process.{is_live}
use Rattle.load_process.proofs.numbers.free_below.Given as goal

-- the free ones of the first numbers
abbrev pub invariant-loop-number : goal.invariant-loop-number
invariant-loop-number l = l.free ≡ filter (λ m. not (is_live l.process m)) (range_with_len 0 l.number)
