use Rattle.std.proofs.Common.{◌≡◌, ◌+◌, ◌^◌, ◌<◌, length, refl, le_refl, arith}
use Rattle.idx_links.proofs.Keeping.{all_in, kept_roomier, next_unlisted}
use Rattle.idx_links.proofs.Changing.{added_kept, added_seen}
use Rattle.idx_links.proofs.pool.Pool.add.Goals as goal

pub hold-requires-clause-number : goal.hold-requires-clause-number
hold-requires-clause-number g c =
    let s = c.self.inside in
    omega (arith, all_in s.places s.owners s.entries.items s.spare c.self.invariant c.args.self.now c.self.view_is, c.requires, c.len-number.ensures, s.entries.ok)

pub invariant_of-self : goal.invariant_of-self
invariant_of-self g c =
    let s = c.self.inside in
    kept_roomier s.places s.owners s.entries.items s.spare c.self.invariant c.hold.new.self s.owners c.hold.ensures.stays c.hold.ensures.grows refl (le_refl s.owners.nodes)

pub hold-requires-2-clause-number : goal.hold-requires-2-clause-number
hold-requires-2-clause-number g c =
    let s = c.self.inside in
    omega (arith, all_in s.places s.owners s.entries.items s.spare c.self.invariant c.args.self.now c.self.view_is, c.requires, c.len-number.ensures, s.entries.ok)

pub invariant_of-self-in_err-hold-2 : goal.invariant_of-self-in_err-hold-2
invariant_of-self-in_err-hold-2 g c =
    let s = c.self.inside in
    kept_roomier s.places s.owners s.entries.items s.spare c.self.invariant c.hold.new.self c.hold-2.new.self c.hold.ensures.stays c.hold.ensures.grows c.hold-2.ensures.stays c.hold-2.ensures.grows

pub invariant_of-self-in_err-push : goal.invariant_of-self-in_err-push
invariant_of-self-in_err-push g c =
    let s = c.self.inside in
    rw c.in_err-push.ensures.items
    (kept_roomier s.places s.owners s.entries.items s.spare c.self.invariant c.hold.new.self c.hold-2.new.self c.hold.ensures.stays c.hold.ensures.grows c.hold-2.ensures.stays c.hold-2.ensures.grows)

pub insert-requires-clause-unlisted : goal.insert-requires-clause-unlisted
insert-requires-clause-unlisted g c other there =
    let s = c.self.inside in
    let number_is : c.len-number.result ≡ length s.entries.items = omega (arith, c.len-number.ensures, s.entries.ok) in
    next_unlisted s.places s.owners s.entries.items s.spare c.self.invariant other (rw (c.hold.ensures.stays, number_is) at there)

pub invariant_of-self-2 : goal.invariant_of-self-2
invariant_of-self-2 g c =
    let s = c.self.inside in
    let number_is : c.len-number.result ≡ length s.entries.items = omega (arith, c.len-number.ensures, s.entries.ok) in
    let put = rw number_is at c.insert.ensures.lists in
    let places_room : length s.entries.items < c.hold.new.self.nodes = rw number_is at c.in_ok-hold.ensures.holds in
    let owners_room : length s.entries.items < c.hold-2.new.self.nodes = rw number_is at c.in_ok-hold-2.ensures.holds in
    let few : length s.entries.items + 1 < 2 ^ 32 = omega (arith, all_in s.places s.owners s.entries.items s.spare c.self.invariant c.args.self.now c.self.view_is, c.requires) in
    rw c.in_ok-push.ensures.items
    (added_kept s.places s.owners s.entries.items s.spare c.self.invariant c.hold.new.self c.insert.new.self c.hold-2.new.self c.hold.ensures.stays put c.hold-2.ensures.stays c.insert.ensures.apart places_room owners_room few)

pub returns-clause-added : goal.returns-clause-added
returns-clause-added g c =
    let s = c.self.inside in
    let number_is : c.len-number.result ≡ length s.entries.items = omega (arith, c.len-number.ensures, s.entries.ok) in
    let put = rw number_is at c.insert.ensures.lists in
    let places_room : length s.entries.items < c.hold.new.self.nodes = rw number_is at c.in_ok-hold.ensures.holds in
    let owners_room : length s.entries.items < c.hold-2.new.self.nodes = rw number_is at c.in_ok-hold-2.ensures.holds in
    let few : length s.entries.items + 1 < 2 ^ 32 = omega (arith, all_in s.places s.owners s.entries.items s.spare c.self.invariant c.args.self.now c.self.view_is, c.requires) in
    rw c.in_ok-push.ensures.items
    (added_seen s.places s.owners s.entries.items s.spare c.self.invariant c.hold.new.self c.insert.new.self c.hold-2.new.self c.hold.ensures.stays put c.hold-2.ensures.stays c.insert.ensures.apart places_room owners_room few c.args.self.now c.self.view_is)
