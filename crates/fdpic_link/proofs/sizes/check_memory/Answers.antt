use Rattle.std.proofs.Common.{◌^◌, nat_le, sym, ap}
use Rattle.fdpic_link.proofs.Above.{memory}
use Rattle.fdpic_link.proofs.sizes.check_memory.Goals as goal

pub returns : goal.returns
returns c =
    let layout = c.args.layout.now in
    memory layout.mode layout.text.inputs.now (nat_le (2 ^ 32) c.data_end.result) c.refuse_large.result (ap (λ n. nat_le (2 ^ 32) n) (sym c.data_end.ensures.end)) c.refuse_large.ensures
