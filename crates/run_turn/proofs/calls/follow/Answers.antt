use Rattle.std.proofs.Common.{sym, subst}
use Rattle.run_turn.proofs.CallsInTurn.{begins_in_turn, room_for}
use Rattle.run_turn.specs.parts.CallsInProgress.{BeganInTurn}
use Rattle.run_turn.proofs.calls.follow.Goals as goal

pub push-requires-in-Some : goal.push-requires-in-Some
push-requires-in-Some c = room_for c.advance.new.calls c.in_ok-advance.ensures.calls c.in_ok-advance.ensures.begun

pub returns-in_ok-push-clause-calls : goal.returns-in_ok-push-clause-calls
returns-in_ok-push-clause-calls c =
    subst BeganInTurn (sym c.push-in-Some.ensures)
    (begins_in_turn c.advance.new.calls c.in-Some.call c.in_ok-advance.ensures.calls c.in_ok-advance.ensures.begun c.in-Some.ensures.none_done c.in-Some.ensures.progress)
