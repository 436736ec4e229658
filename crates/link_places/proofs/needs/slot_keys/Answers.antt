use Rattle.link_model.specs.Needs.{slot_key}
use Rattle.link_places.proofs.Kept.{kept-more}
use Rattle.link_places.proofs.needs.slot_keys.Goals as goal

pub loop-need-preserved : goal.loop-need-preserved
loop-need-preserved c =
    kept-more slot_key c.args.needs.now c.loop-need.need-index _ c.loop-need.keys c.put_slot.new.keys c.loop-need-test.true c.loop-need.invariant c.in_ok-put_slot.ensures
