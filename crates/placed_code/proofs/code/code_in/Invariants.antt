use Rattle.std.proofs.Common.{◌≡◌, length, drop}
use Rattle.placed_code.specs.Places.{is_code_of}
use Rattle.std.specs.Prelude.{find}
use Rattle.std.specs.List.{zip}
use Rattle.placed_code.proofs.code.code_in.Given as goal

-- what is left decides
abbrev pub invariant-loop-segment : goal.invariant-loop-segment
invariant-loop-segment l =
    find (is_code_of l.addr) (zip (drop (length l.yielded) l.object.segments) (drop (length l.yielded) l.load_map))
    ≡ find (is_code_of l.addr) (zip l.object.segments l.load_map)
