use Rattle.load_places.proofs.GivenSlots.{given_room}
use Rattle.load_places.proofs.laws.given_slots_have_room.Goals as goal

pub returns : goal.returns
returns c = given_room
