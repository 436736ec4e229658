use Rattle.std.proofs.Common.{◌≡◌, Some, sym, ap, ◌∙◌, arith}
use Rattle.std.specs.Prelude.{option_map}
use Rattle.std.proofs.lemmas.Option.{same_Some}
use Rattle.idx_links.proofs.Keeping.{live_in, live_entry, live_within, gone}
use Rattle.idx_links.proofs.Changing.{removed_kept, removed_seen}
use Rattle.idx_links.proofs.pool.Pool.remove.Goals as goal

pub index-requires : goal.index-requires
index-requires g c =
    let s = c.self.inside in
    omega (arith, live_within s.places s.owners s.entries.items s.spare c.self.invariant c.args.self.now c.self.view_is c.args.id c.requires, s.entries.ok)

pub unreachable-requires : goal.unreachable-requires
unreachable-requires g c =
    let s = c.self.inside in
    let has = live_entry s.places s.owners s.entries.items s.spare c.self.invariant c.args.self.now c.self.view_is c.args.id c.index.result.now c.requires c.index.ensures in
    cc (has.1, c.in-None.is)

pub remove-requires : goal.remove-requires
remove-requires g c =
    let s = c.self.inside in
    live_in s.places s.owners s.entries.items s.spare c.self.invariant c.args.self.now c.self.view_is c.args.id c.requires

pub insert-requires-clause-room : goal.insert-requires-clause-room
insert-requires-clause-room g c =
    let s = c.self.inside in
    let within = live_within s.places s.owners s.entries.items s.spare c.self.invariant c.args.self.now c.self.view_is c.args.id c.requires in
    rw c.remove.ensures.lists (omega (arith, within, c.self.invariant.places_room))

pub insert-requires-clause-unlisted : goal.insert-requires-clause-unlisted
insert-requires-clause-unlisted g c other there =
    gone c.self.inside.places c.args.id other (rw c.remove.ensures.lists at there)

pub remove-requires-2 : goal.remove-requires-2
remove-requires-2 g c =
    let s = c.self.inside in
    let has = live_entry s.places s.owners s.entries.items s.spare c.self.invariant c.args.self.now c.self.view_is c.args.id c.index.result.now c.requires c.index.ensures in
    let same : Some has.0 ≡ Some c.in-Some.entry = sym has.1 ∙ c.in-Some.is in
    let owner : has.0.owner ≡ c.in-Some.entry.owner = ap (λ e. e.owner) (same_Some has.0 c.in-Some.entry same) in
    rw owner at has.3

pub invariant_of-self : goal.invariant_of-self
invariant_of-self g c =
    let s = c.self.inside in
    let there = live_in s.places s.owners s.entries.items s.spare c.self.invariant c.args.self.now c.self.view_is c.args.id c.requires in
    removed_kept s.places s.owners s.entries.items s.spare c.self.invariant c.args.id there c.remove.new.self c.insert.new.self c.remove-2.new.self c.remove.ensures.lists c.insert.ensures.lists c.remove-2.ensures.lists c.insert.ensures.apart c.remove-2.ensures.apart

pub returns-clause-value : goal.returns-clause-value
returns-clause-value g c =
    let s = c.self.inside in
    let has = live_entry s.places s.owners s.entries.items s.spare c.self.invariant c.args.self.now c.self.view_is c.args.id c.index.result.now c.requires c.index.ensures in
    rw has.2 (ap (option_map (λ e. e.value)) (sym has.1 ∙ c.in-Some.is))

pub returns-clause-removed : goal.returns-clause-removed
returns-clause-removed g c =
    let s = c.self.inside in
    let there = live_in s.places s.owners s.entries.items s.spare c.self.invariant c.args.self.now c.self.view_is c.args.id c.requires in
    removed_seen s.places s.owners s.entries.items s.spare c.self.invariant c.args.id there c.remove.new.self c.insert.new.self c.remove-2.new.self c.remove.ensures.lists c.insert.ensures.lists c.remove-2.ensures.lists c.insert.ensures.apart c.remove-2.ensures.apart c.args.self.now c.self.view_is
