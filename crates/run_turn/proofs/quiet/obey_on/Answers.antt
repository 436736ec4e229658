use Rattle.std.proofs.Common.{◌≡◌, None, sym, subst, rules}
use Rattle.run_turn.proofs.ObeyedOn.{all_walked, calls_after_walk, one_behind}
use Rattle.run_turn.specs.parts.CallsInProgress.{BeganInTurn}
use Rattle.run_turn.proofs.quiet.obey_on.Goals as goal

pub returns-in_default-clause-done : goal.returns-in_default-clause-done
returns-in_default-clause-done c = λ p maps known.
    let w = c.walk_with-walk in
    let none : w.result.last ≡ None = first_of (cc, search rules) in
    all_walked p maps c.args.most c.args.thread.now w.new.thread c.args.guest.now w.new.guest w.result.quiet w.result.last (w.ensures.walked p maps known) w.ensures.stay w.ensures.rest none

pub returns-clause-done : goal.returns-clause-done
returns-clause-done c = λ p maps known.
    let w = c.walk_with-walk in
    one_behind p maps c.args.most c.args.thread.now w.new.thread c.args.guest.now w.new.guest w.result.quiet w.result.last (w.ensures.walked p maps known) w.ensures.stay w.ensures.rest
    c.in-Some.end c.in_ok-served.served c.come_to.new.thread c.in-Some.is c.come_to.ensures.calls
    c.in_ok-served.ensures.done

pub returns-in_default-clause-calls : goal.returns-in_default-clause-calls
returns-in_default-clause-calls c = λ h. calls_after_walk c.args.thread.now c.walk_with-walk.new.thread c.walk_with-walk.result.quiet c.walk_with-walk.ensures.stay c.walk_with-walk.ensures.rest h

pub returns-in_err-served-clause-calls : goal.returns-in_err-served-clause-calls
returns-in_err-served-clause-calls c = λ h.
    subst BeganInTurn (sym c.come_to.ensures.calls)
    (calls_after_walk c.args.thread.now c.walk_with-walk.new.thread c.walk_with-walk.result.quiet c.walk_with-walk.ensures.stay c.walk_with-walk.ensures.rest h)

pub returns-clause-calls : goal.returns-clause-calls
returns-clause-calls c = λ h.
    subst BeganInTurn (sym c.come_to.ensures.calls)
    (calls_after_walk c.args.thread.now c.walk_with-walk.new.thread c.walk_with-walk.result.quiet c.walk_with-walk.ensures.stay c.walk_with-walk.ensures.rest h)
