use Rattle.std.proofs.Common.{rules, ◌+◌, ◌<◌, ◌^◌}
use Rattle.run_turn.proofs.MappedBytes.{copied_inside, copied_small, copied_next}
use Rattle.run_turn.proofs.bytes.copied.Goals as goal

pub overflow_add-addr : goal.overflow_add-addr
overflow_add-addr c =
    let small : c.args.addr + c.loop-i.i < 2 ^ 32 = copied_small c.args.guest.now c.args.addr c.args.len c.loop-i.i c.whole.ensures.whole c.requires c.loop-i-test.true in
    search rules

pub peek-requires : goal.peek-requires
peek-requires c = copied_inside c.args.guest.now c.args.addr c.args.len c.loop-i.i c.whole.ensures.whole c.requires c.loop-i-test.true

pub loop-i-preserved : goal.loop-i-preserved
loop-i-preserved c =
    copied_next c.args.guest.now c.args.addr c.loop-i.i c.peek.result c.loop-i.bytes c.push.new.self
    (copied_inside c.args.guest.now c.args.addr c.args.len c.loop-i.i c.whole.ensures.whole c.requires c.loop-i-test.true)
    c.loop-i.invariant c.peek.ensures c.in_ok-push.ensures
