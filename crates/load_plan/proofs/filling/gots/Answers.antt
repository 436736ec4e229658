use Rattle.std.proofs.Common.{sym, arith}
use Rattle.std.proofs.lemmas.List.FromFn.{map-range_with_len_more}
use Rattle.load_state.specs.Accepted.{gots_of}
use Rattle.load_plan.proofs.filling.gots.Goals as goal

pub loop-m-preserved : goal.loop-m-preserved
loop-m-preserved c =
    let more = map-range_with_len_more (gots_of c.args.process.now c.args.joining.now) 0 c.loop-m.m c.loop-m.m (omega arith) in
    rw (c.in_ok-push.ensures.items, c.got_of.ensures, c.loop-m.invariant) (sym more)
