use Rattle.std.proofs.Common.{◌≡◌, ◌++◌}
use Rattle.std.specs.List.{flat_map, range_with_len}
use Rattle.fdpic_cmd.specs.Code.{segment_code_line}
use Rattle.fdpic_cmd.proofs.code.put_segment_code.Given as goal

abbrev pub invariant-loop-k : goal.invariant-loop-k
invariant-loop-k l = l.out ≡ l.fn.out ++ flat_map (segment_code_line l.s) (range_with_len 0 l.k)
