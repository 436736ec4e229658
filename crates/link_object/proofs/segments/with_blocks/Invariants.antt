use Rattle.std.proofs.Common.{◌≡◌, filter, take}
use Rattle.link_model.specs.Joined.{greatest}
use Rattle.link_model.specs.Targets.{is_block}
use Rattle.link_object.proofs.segments.with_blocks.Given as goal

abbrev pub invariant-loop-target : goal.invariant-loop-target
invariant-loop-target l = l.greatest ≡ greatest l.align (λ t. t.align) (filter (λ t. is_block t.spot) (take l.target-index l.targets))
