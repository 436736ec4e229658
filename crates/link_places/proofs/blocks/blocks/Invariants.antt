use Rattle.std.proofs.Common.{◌≡◌, take}
use Rattle.std.specs.List.{filter_map}
use Rattle.link_places.specs.parts.Blocks.{block_of}
use Rattle.link_places.proofs.blocks.blocks.Given as goal

abbrev pub invariant-loop-target : goal.invariant-loop-target
invariant-loop-target l = l.blocks ≡ filter_map block_of (take l.target-index l.targets)
