use Rattle.link_places.specs.parts.Blocks.{block_of}
use Rattle.link_places.proofs.Kept.{kept-more}
use Rattle.link_places.proofs.blocks.blocks.Goals as goal

pub loop-target-preserved : goal.loop-target-preserved
loop-target-preserved c =
    kept-more block_of c.args.targets.now c.loop-target.target-index _ c.loop-target.blocks c.put_block.new.blocks c.loop-target-test.true c.loop-target.invariant c.in_ok-put_block.ensures
