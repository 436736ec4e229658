use Rattle.call_laws.proofs.CourseTurns.{courses_are_turns}
use Rattle.call_laws.proofs.turns.courses_are_turns.Goals as goal

pub returns : goal.returns
returns c = courses_are_turns
