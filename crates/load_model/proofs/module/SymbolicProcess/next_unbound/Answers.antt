use Rattle.std.proofs.Common.{◌≡◌, ℕ, suc, ◌+◌, Bool, true, false, sym, ap, ◌∙◌, arith}
use Rattle.std.specs.Prelude.{is_some, option_map, option_and_then}
use Rattle.fd_base.proofs.FirstNumber.{first_is, none_next}
use Rattle.load_model.specs.Unbound.{first_set, first_unbound, slot_of, unbound_of}
use Rattle.load_model.proofs.module.SymbolicProcess.next_unbound.Goals as goal

pub returns-in-Some : goal.returns-in-Some
returns-in-Some c =
    let p = c.args.self.now in
    let has : ℕ → Bool = λ m. is_some (first_set (unbound_of p m)) in
    let slot = sym c.first_unbound.ensures ∙ c.in-Some.is in
    let first = first_is has c.loop-m.m 64 c.loop-m.invariant (ap is_some slot) c.loop-m-test.true in
    sym (ap (option_and_then (first_unbound p)) first ∙ ap (option_map (slot_of c.loop-m.m)) slot)

pub returns : goal.returns
returns c =
    let p = c.args.self.now in
    let all : c.loop-m.m ≡ 64 = omega (arith, c.loop-m-test.false) in
    sym (ap (option_and_then (first_unbound p)) (rw all at c.loop-m.invariant))

pub loop-m-preserved : goal.loop-m-preserved
loop-m-preserved c =
    let has : ℕ → Bool = λ m. is_some (first_set (unbound_of c.args.self.now m)) in
    let fails : has c.loop-m.m ≡ false = ap is_some (sym c.first_unbound.ensures ∙ c.in_default.is) in
    let one : c.loop-m.m + 1 ≡ suc c.loop-m.m = omega arith in
    rw one (none_next has c.loop-m.m c.loop-m.invariant fails)
