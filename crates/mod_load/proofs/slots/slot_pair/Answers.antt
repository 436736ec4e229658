use Rattle.std.proofs.Common.{ap, length, refl, sym, ◌∙◌}
use Rattle.std.proofs.lemmas.Option.{slice_get_read}
use Rattle.load_map.specs.Translation.{placed}
use Rattle.mod_load.proofs.SlotWords.{past_told, slot_inside, slot_is}
use Rattle.mod_load.proofs.slots.slot_pair.Goals as goal

pub pair_at-requires : goal.pair_at-requires
pair_at-requires c =
    let o = c.in_ok-object.object.now in
    let r = c.in_ok-slot.slot.now in
    let lt = rw c.as_slice.ensures at c.in_ok-slot.ensures.lookup.3.0 in
    let is = rw c.as_slice.ensures at c.in_ok-slot.ensures.lookup.1 in
    slot_inside c.args.process.now c.args.maps.now c.args.guest.now c.args.m c.args.k o r c.placed-addr.result c.requires.filled (sym c.in_ok-object.ensures)
    (slice_get_read o.jmprels (length o.jmprels) c.args.k r refl lt is) (c.placed-addr.ensures ∙ ap (λ es. placed es r.site) c.map_at.ensures)

pub returns : goal.returns
returns c =
    let o = c.in_ok-object.object.now in
    let r = c.in_ok-slot.slot.now in
    let lt = rw c.as_slice.ensures at c.in_ok-slot.ensures.lookup.3.0 in
    let is = rw c.as_slice.ensures at c.in_ok-slot.ensures.lookup.1 in
    slot_is c.args.process.now c.args.maps.now c.args.guest.now c.args.m c.args.k o r c.placed-addr.result c.requires.filled (sym c.in_ok-object.ensures)
    (slice_get_read o.jmprels (length o.jmprels) c.args.k r refl lt is) (c.placed-addr.ensures ∙ ap (λ es. placed es r.site) c.map_at.ensures) c.pair_at.result c.pair_at.ensures

pub returns-in_err-slot : goal.returns-in_err-slot
returns-in_err-slot c =
    let past = rw c.as_slice.ensures at c.in_err-slot.ensures.lookup.3 in
    c.from_residual-in_err-slot.ensures
    ∙ sym (past_told c.args.process.now c.args.maps.now c.args.m c.args.k c.in_ok-object.object.now (sym c.in_ok-object.ensures) past)
