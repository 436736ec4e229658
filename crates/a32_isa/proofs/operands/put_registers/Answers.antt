use Rattle.std.proofs.Common.{ℕ, List, [], ◌++◌, map, take, get_or, ◌∙◌, ap, sym}
use Rattle.std.specs.Prelude.{◌==◌}
use Rattle.a32_isa.specs.Names.{register_name}
use Rattle.a32_isa.specs.Text.{parted}
use Rattle.a32_isa.proofs.Parts.{more_put, is_empty-taken, names-more}
use Rattle.a32_isa.proofs.operands.put_registers.Goals as goal

pub loop-k-preserved : goal.loop-k-preserved
loop-k-preserved c =
    let registers : List ℕ = c.args.registers.now in
    let k : ℕ = c.loop-k.k in
    more_put c.args.out.now [] (map register_name (take k registers)) (register_name (get_or registers k 0)) c.loop-k.out c.put_item.new.out (k == 0)
    c.loop-k.invariant (is_empty-taken registers k c.loop-k-test.true) (let put = c.in_ok-put_item.ensures in let named = c.register_name.ensures in cc)
    ∙ ap (λ names. c.args.out.now ++ parted names) (sym (names-more registers k c.loop-k-test.true))
