use Rattle.std.proofs.Common.{sym, arith, length, ◌≤◌}
use Rattle.std.proofs.lemmas.List.{drop_all}
use Rattle.load_state.specs.Slots.{slots_of_module}
use Rattle.fdpic_cmd.specs.Slots.{slot_line}
use Rattle.fdpic_cmd.proofs.SlotLines.{from_none, few_slots, lines_there, lines_none}
use Rattle.fdpic_cmd.proofs.slot_listing.put_slots.Goals as goal

pub returns-in-None : goal.returns-in-None
returns-in-None c =
    let l = c.args.loader.now.loaded in
    let slots = slots_of_module l.modules.process l.modules.maps c.args.m in
    lines_none (slot_line c.args.m) c.loop-k.k slots c.loop-k.out _ (from_none slots c.loop-k.k (sym c.in-None.ensures)) c.loop-k.invariant

pub loop-k-preserved : goal.loop-k-preserved
loop-k-preserved c =
    let l = c.args.loader.now.loaded in
    let slots = slots_of_module l.modules.process l.modules.maps c.args.m in
    lines_there (slot_line c.args.m) c.loop-k.k slots c.in-Some.pair c.put_slot_line.new.out c.loop-k.out _ (sym c.in-Some.ensures) c.loop-k.invariant
    c.in_ok-put_slot_line-in-Some.ensures

pub returns : goal.returns
returns c =
    let l = c.args.loader.now.loaded in
    let slots = slots_of_module l.modules.process l.modules.maps c.args.m in
    let few = few_slots l c.args.m c.requires in
    let past : length slots ≤ c.loop-k.k = omega (arith, few) in
    lines_none (slot_line c.args.m) c.loop-k.k slots c.loop-k.out _ (drop_all c.loop-k.k slots past) c.loop-k.invariant
