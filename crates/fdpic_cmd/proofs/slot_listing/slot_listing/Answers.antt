use Rattle.std.proofs.Common.{[], arith}
use Rattle.fdpic_cmd.specs.Slots.{module_lines}
use Rattle.fdpic_cmd.proofs.CodeLines.{put_more}
use Rattle.fdpic_cmd.proofs.SlotLines.{all_lines}
use Rattle.fdpic_cmd.proofs.slot_listing.slot_listing.Goals as goal

pub loop-m-preserved : goal.loop-m-preserved
loop-m-preserved c =
    let l = c.args.loader.now.loaded in
    put_more (module_lines l.modules.process l.modules.maps) c.loop-m.m c.loop-m.text c.put_slots.new.out [] c.loop-m.invariant c.in_ok-put_slots.ensures

pub returns : goal.returns
returns c =
    let l = c.args.loader.now.loaded in
    all_lines l.modules.process l.modules.maps c.loop-m.m c.loop-m.text (omega arith) c.loop-m.invariant
