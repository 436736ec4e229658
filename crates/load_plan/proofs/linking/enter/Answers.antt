use Rattle.std.proofs.Common.{arith}
use Rattle.load_laws.proofs.NewNumbers.{own_of}
use Rattle.load_plan.proofs.WalkedModules.{free_of}
use Rattle.load_plan.proofs.linking.enter.Goals as goal

pub add_all-requires-clause-numbers : goal.add_all-requires-clause-numbers
add_all-requires-clause-numbers g c = rw c.as_slice.ensures (own_of c.in_ok-found.found.joining c.in_ok-found.ensures.numbers_once)

pub add_all-requires-clause-free : goal.add_all-requires-clause-free
add_all-requires-clause-free g c =
    rw c.as_slice.ensures (free_of c.args.process.now c.in_ok-found.found.joining c.in_ok-found.ensures.numbers c.in_ok-found.ensures.free)

pub returns-clause-new : goal.returns-clause-new
returns-clause-new g c = record {
  taken = c.in_ok-found.ensures.sound;
  own = own_of c.in_ok-found.found.joining c.in_ok-found.ensures.numbers_once;
  free = free_of c.args.process.now c.in_ok-found.found.joining c.in_ok-found.ensures.numbers c.in_ok-found.ensures.free;
}

pub returns-clause-entered : goal.returns-clause-entered
returns-clause-entered g c = λ scope. rw c.as_slice.ensures at c.in_ok-add_all.ensures.added scope

pub returns-clause-each : goal.returns-clause-each
returns-clause-each g c = rw c.as_slice.ensures at c.in_ok-add_all.ensures.each

pub returns-clause-room : goal.returns-clause-room
returns-clause-room g c = rw c.as_slice.ensures at c.in_ok-add_all.ensures.room

-- ---- no place is lost

pub returns-in_err-found-clause-grows : goal.returns-in_err-found-clause-grows
returns-in_err-found-clause-grows g c = omega (arith, c.drop_others.ensures.room)

pub returns-in_err-add_all-clause-grows : goal.returns-in_err-add_all-clause-grows
returns-in_err-add_all-clause-grows g c = omega (arith, c.drop_others.ensures.room, c.in_err-add_all.ensures.grows)

pub returns-clause-grows : goal.returns-clause-grows
returns-clause-grows g c = omega (arith, c.drop_others.ensures.room, c.in_ok-add_all.ensures.grows)
