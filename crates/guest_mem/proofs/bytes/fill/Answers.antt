use Rattle.std.proofs.Common.{◌+◌, ap, set, ◌∙◌}
use Rattle.guest_mem.proofs.Pasted.{filled-more}
use Rattle.guest_mem.proofs.bytes.fill.Goals as goal

pub loop-i-preserved : goal.loop-i-preserved
loop-i-preserved g c =
    ap (λ xs. set xs (c.args.start + c.loop-i.i) c.args.value) c.loop-i.invariant ∙ filled-more c.args.values.now c.args.start c.loop-i.i c.args.value
