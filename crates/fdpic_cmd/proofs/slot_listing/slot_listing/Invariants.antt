use Rattle.std.proofs.Common.{◌≡◌}
use Rattle.std.specs.List.{flat_map, range_with_len}
use Rattle.fdpic_cmd.specs.Slots.{module_lines}
use Rattle.fdpic_cmd.proofs.slot_listing.slot_listing.Given as goal

-- the lines of the modules that were gone over
abbrev pub invariant-loop-m : goal.invariant-loop-m
invariant-loop-m l = l.text ≡ flat_map (module_lines l.loader.loaded.modules.process l.loader.loaded.modules.maps) (range_with_len 0 l.m)
