use Rattle.std.proofs.Common.{◌<◌, length, sym, ap, arith}
use Rattle.idx_links.proofs.Keeping.{live_in, first_free, first_unlisted, first_unowned, gone, order_without_free}
use Rattle.idx_links.proofs.Changing.{at_listed, inserted_kept, inserted_live, inserted_stays, inserted_seen}
use Rattle.idx_links.proofs.pool.Pool.insert_after.Goals as goal

pub insert-requires-clause-at : goal.insert-requires-clause-at
insert-requires-clause-at g c =
    let s = c.self.inside in
    let listed = at_listed s.places s.owners s.entries.items s.spare c.self.invariant c.args.self.now c.self.view_is c.args.at c.requires.at in
    rw (c.remove.ensures.lists, order_without_free s.places s.owners s.entries.items s.spare c.self.invariant c.in-Some.id (sym c.in-Some.ensures)) listed

pub insert-requires-clause-room : goal.insert-requires-clause-room
insert-requires-clause-room g c =
    let s = c.self.inside in
    let within = c.self.invariant.free c.in-Some.id (first_free s.places s.owners s.entries.items s.spare c.self.invariant c.in-Some.id (sym c.in-Some.ensures)) in
    rw c.remove.ensures.lists (omega (arith, within, c.self.invariant.places_room))

pub insert-requires-clause-unlisted : goal.insert-requires-clause-unlisted
insert-requires-clause-unlisted g c other there =
    gone c.self.inside.places c.in-Some.id other (rw c.remove.ensures.lists at there)

pub insert-requires-2-clause-room : goal.insert-requires-2-clause-room
insert-requires-2-clause-room g c =
    let s = c.self.inside in
    let within = c.self.invariant.free c.in-Some.id (first_free s.places s.owners s.entries.items s.spare c.self.invariant c.in-Some.id (sym c.in-Some.ensures)) in
    omega (arith, within, c.self.invariant.owners_room)

pub insert-requires-2-clause-unlisted : goal.insert-requires-2-clause-unlisted
insert-requires-2-clause-unlisted g c =
    let s = c.self.inside in
    first_unowned s.places s.owners s.entries.items s.spare c.self.invariant c.in-Some.id (sym c.in-Some.ensures)

pub index_mut-requires : goal.index_mut-requires
index_mut-requires g c =
    let s = c.self.inside in
    let within = c.self.invariant.free c.in-Some.id (first_free s.places s.owners s.entries.items s.spare c.self.invariant c.in-Some.id (sym c.in-Some.ensures)) in
    omega (arith, within, s.entries.ok)

pub invariant_of-self : goal.invariant_of-self
invariant_of-self g c =
    let s = c.self.inside in
    let listed = at_listed s.places s.owners s.entries.items s.spare c.self.invariant c.args.self.now c.self.view_is c.args.at c.requires.at in
    let in_range : c.args.owner < length s.owners.lists = rw (← ap (λ n. length n.chains) c.self.view_is) at c.requires.owner in
    inserted_kept s.places s.owners s.entries.items s.spare c.self.invariant c.args.at c.in-Some.id (record { owner = c.args.owner; value = c.args.value }) (sym c.in-Some.ensures) c.remove.new.self c.insert.new.self c.insert-2.new.self c.remove.ensures.lists c.insert.ensures.lists c.insert-2.ensures.lists c.insert.ensures.apart c.insert-2.ensures.apart listed in_range

pub returns-clause-fresh : goal.returns-clause-fresh
returns-clause-fresh g c live =
    let s = c.self.inside in
    first_unlisted s.places s.owners s.entries.items s.spare c.self.invariant c.in-Some.id (sym c.in-Some.ensures)
    (live_in s.places s.owners s.entries.items s.spare c.self.invariant c.args.self.now c.self.view_is c.in-Some.id live)

pub returns-clause-live : goal.returns-clause-live
returns-clause-live g c =
    let s = c.self.inside in
    let listed = at_listed s.places s.owners s.entries.items s.spare c.self.invariant c.args.self.now c.self.view_is c.args.at c.requires.at in
    let in_range : c.args.owner < length s.owners.lists = rw (← ap (λ n. length n.chains) c.self.view_is) at c.requires.owner in
    inserted_live s.places s.owners s.entries.items s.spare c.self.invariant c.args.at c.in-Some.id (record { owner = c.args.owner; value = c.args.value }) (sym c.in-Some.ensures) c.remove.new.self c.insert.new.self c.insert-2.new.self c.remove.ensures.lists c.insert.ensures.lists c.insert-2.ensures.lists c.insert.ensures.apart c.insert-2.ensures.apart listed in_range

pub returns-clause-stays : goal.returns-clause-stays
returns-clause-stays g c =
    let s = c.self.inside in
    let listed = at_listed s.places s.owners s.entries.items s.spare c.self.invariant c.args.self.now c.self.view_is c.args.at c.requires.at in
    let in_range : c.args.owner < length s.owners.lists = rw (← ap (λ n. length n.chains) c.self.view_is) at c.requires.owner in
    inserted_stays s.places s.owners s.entries.items s.spare c.self.invariant c.args.at c.in-Some.id (record { owner = c.args.owner; value = c.args.value }) (sym c.in-Some.ensures) c.remove.new.self c.insert.new.self c.insert-2.new.self c.remove.ensures.lists c.insert.ensures.lists c.insert-2.ensures.lists c.insert.ensures.apart c.insert-2.ensures.apart listed in_range c.args.self.now c.self.view_is

pub returns-clause-inserted : goal.returns-clause-inserted
returns-clause-inserted g c =
    let s = c.self.inside in
    let listed = at_listed s.places s.owners s.entries.items s.spare c.self.invariant c.args.self.now c.self.view_is c.args.at c.requires.at in
    let in_range : c.args.owner < length s.owners.lists = rw (← ap (λ n. length n.chains) c.self.view_is) at c.requires.owner in
    inserted_seen s.places s.owners s.entries.items s.spare c.self.invariant c.args.at c.in-Some.id (record { owner = c.args.owner; value = c.args.value }) (sym c.in-Some.ensures) c.remove.new.self c.insert.new.self c.insert-2.new.self c.remove.ensures.lists c.insert.ensures.lists c.insert-2.ensures.lists c.insert.ensures.apart c.insert-2.ensures.apart listed in_range c.args.self.now c.self.view_is
