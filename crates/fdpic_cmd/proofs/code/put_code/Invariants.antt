use Rattle.std.proofs.Common.{◌≡◌, ◌++◌, drop}
use Rattle.std.specs.Prelude.{filter}
use Rattle.std.specs.List.{flat_map}
use Rattle.fdpic_cmd.specs.Code.{segment_code}
use Rattle.elf_model.specs.Places.{is_executable}
use Rattle.fdpic_cmd.proofs.code.put_code.Given as goal

abbrev pub invariant-loop-segment : goal.invariant-loop-segment
invariant-loop-segment l =
    l.out ++ flat_map segment_code (filter is_executable (drop l.segment-index l.segments)) ≡ l.fn.out ++ flat_map segment_code (filter is_executable l.segments)
