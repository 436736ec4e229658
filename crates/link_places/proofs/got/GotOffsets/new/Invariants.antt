use Rattle.link_places.proofs.Offsets.{StandUpTo}
use Rattle.link_places.proofs.got.GotOffsets.new.Given as goal

abbrev pub invariant-loop-need : goal.invariant-loop-need
invariant-loop-need l = StandUpTo l.needs l.need-index l.offsets l.next
