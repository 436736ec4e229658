use Rattle.load_memory.proofs.KeptLayout.{room-tables, room-inside, room-free}
use Rattle.load_memory.proofs.laws.room_is_free.Goals as goal

pub returns-clause-tables : goal.returns-clause-tables
returns-clause-tables c = room-tables

pub returns-clause-inside : goal.returns-clause-inside
returns-clause-inside c = room-inside

pub returns-clause-free : goal.returns-clause-free
returns-clause-free c = room-free
