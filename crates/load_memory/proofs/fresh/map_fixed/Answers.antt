use Rattle.std.proofs.Common.{◌-◌, arith}
use Rattle.load_memory.proofs.EmptyMemory.{free1, free2, kind3, mark3}
use Rattle.load_memory.proofs.fresh.map_fixed.Goals as goal

pub map-requires-2-clause-free : goal.map-requires-2-clause-free
map-requires-2-clause-free c =
    free1 c.args.plan.now c.requires.fits c.args.guest.now c.map.new.self c.high-high.result c.requires.free c.high-high.ensures c.map.ensures 5120 (c.slots_end-slots_end.result - 5120)
    (omega (arith, c.slots_end-slots_end.ensures))

pub map-requires-3-clause-free : goal.map-requires-3-clause-free
map-requires-3-clause-free c =
    free2 c.args.plan.now c.requires.fits c.args.guest.now c.map.new.self c.high-high.result c.requires.free c.high-high.ensures c.map.ensures c.map-2.new.self (rw c.slots_end-slots_end.ensures at c.map-2.ensures)

pub returns-clause-kinds : goal.returns-clause-kinds
returns-clause-kinds c =
    kind3 c.args.plan.now c.requires.fits c.args.guest.now c.map.new.self c.map-2.new.self c.map-3.new.self c.high-high.result c.whole.ensures.whole c.requires.size c.requires.free c.requires.unmarked c.high-high.ensures c.map.ensures (rw c.slots_end-slots_end.ensures at c.map-2.ensures) c.map-3.ensures

pub returns-clause-marks : goal.returns-clause-marks
returns-clause-marks c =
    mark3 c.args.plan.now c.requires.fits c.args.guest.now c.map.new.self c.map-2.new.self c.map-3.new.self c.high-high.result c.whole.ensures.whole c.requires.size c.requires.free c.requires.unmarked c.high-high.ensures c.map.ensures (rw c.slots_end-slots_end.ensures at c.map-2.ensures) c.map-3.ensures
