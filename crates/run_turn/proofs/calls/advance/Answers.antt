use Rattle.std.proofs.Common.{◌<◌, All, filter, ap, sym, subst, ◌∙◌}
use Rattle.run_turn.proofs.CallsInTurn.{all_begun, goes_on, still_in_turn}
use Rattle.run_turn.specs.parts.CallsInProgress.{BeganInTurn}
use Rattle.run_turn.proofs.calls.advance.Goals as goal

pub returns-clause-calls : goal.returns-clause-calls
returns-clause-calls c =
    subst BeganInTurn (sym (c.remove_complete.ensures ∙ ap (filter goes_on) c.advance.ensures)) (still_in_turn c.args.calls.now c.requires.calls)

pub returns-clause-begun : goal.returns-clause-begun
returns-clause-begun c =
    subst (All (λ call. 0 < call.done)) (sym (c.remove_complete.ensures ∙ ap (filter goes_on) c.advance.ensures)) (all_begun c.args.calls.now)
