use Rattle.std.proofs.Common.{◌<◌, ap, sym, ◌∙◌, subst, length, get_or, arith}
use Rattle.std.specs.Prelude.{unwrap_or}
use Rattle.std.proofs.lemmas.Option.{slice_get_within, get_or_from_slice_get}
use Rattle.link_model.specs.GotLayout.{offset_behind}
use Rattle.link_model.specs.Needs.{kind_of}
use Rattle.link_places.specs.parts.Got.{kinds_of}
use Rattle.link_places.specs.parts.NeedTable.{needs_of}
use Rattle.link_places.proofs.Coded.{at-found}
use Rattle.link_places.proofs.needs.NeedTable.offset.Goals as goal

pub offset_bounds-as_slice-place : goal.offset_bounds-as_slice-place
offset_bounds-as_slice-place c =
    let t = c.args.self.now in
    let there = t.offsets.each c.in-Some.place c.args.need (at-found (needs_of t) c.args.need c.in-Some.place c.in-Some.ensures) in
    let within = subst (λ xs. c.in-Some.place < length xs) (sym c.as_slice.ensures) (slice_get_within t.got.offsets c.in-Some.place (offset_behind (kinds_of (needs_of t)) c.in-Some.place (kind_of c.args.need)) there) in
    let room = c.as_slice.type_inv.1 in
    omega (arith, within, room)

pub bounds-as_slice-place : goal.bounds-as_slice-place
bounds-as_slice-place c =
    let t = c.args.self.now in
    let there = t.offsets.each c.in-Some.place c.args.need (at-found (needs_of t) c.args.need c.in-Some.place c.in-Some.ensures) in
    subst (λ xs. c.in-Some.place < length xs) (sym c.as_slice.ensures) (slice_get_within t.got.offsets c.in-Some.place (offset_behind (kinds_of (needs_of t)) c.in-Some.place (kind_of c.args.need)) there)

pub returns-in-Some : goal.returns-in-Some
returns-in-Some c =
    let t = c.args.self.now in
    let there = t.offsets.each c.in-Some.place c.args.need (at-found (needs_of t) c.args.need c.in-Some.place c.in-Some.ensures) in
    ap (λ xs. get_or xs c.in-Some.place 0) c.as_slice.ensures ∙ get_or_from_slice_get t.got.offsets c.in-Some.place (offset_behind (kinds_of (needs_of t)) c.in-Some.place (kind_of c.args.need)) 0 there
    ∙ ap (λ o. offset_behind (kinds_of (needs_of t)) (unwrap_or o 0) (kind_of c.args.need)) c.in-Some.ensures
