use Rattle.std.proofs.Common.{◌≡◌, suc, ◌+◌, sym, ◌∙◌, true, false, arith}
use Rattle.mod_load.specs.parts.Accessors.{lies_in}
use Rattle.fd_base.proofs.FirstNumber.{first_is, none_next}
use Rattle.mod_load.proofs.accessors.first_at.Goals as goal

pub returns-then-lies_in : goal.returns-then-lies_in
returns-then-lies_in c =
    let passes : lies_in c.args.maps.now c.args.addr c.loop-m.m ≡ true = sym c.lies_in.ensures ∙ c.if-lies_in.true in
    sym (first_is (lies_in c.args.maps.now c.args.addr) c.loop-m.m c.args.count c.loop-m.invariant passes c.loop-m-test.true)

pub loop-m-preserved : goal.loop-m-preserved
loop-m-preserved c =
    let fails : lies_in c.args.maps.now c.args.addr c.loop-m.m ≡ false = sym c.lies_in.ensures ∙ c.if-lies_in.false in
    let one : c.loop-m.m + 1 ≡ suc c.loop-m.m = omega arith in
    rw one (none_next (lies_in c.args.maps.now c.args.addr) c.loop-m.m c.loop-m.invariant fails)
