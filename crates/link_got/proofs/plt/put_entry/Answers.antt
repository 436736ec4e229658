use Rattle.std.proofs.Common.{length, ap, arith}
use Rattle.std.proofs.lemmas.Option.{slice_get_within}
use Rattle.link_model.specs.Needs.{slot_keys}
use Rattle.link_got.proofs.Bounds.{entry-near}
use Rattle.link_got.proofs.plt.put_entry.Goals as goal

pub overflow_cast-place : goal.overflow_cast-place
overflow_cast-place c =
    let l = c.args.layout.now in
    let inputs = l.text.inputs.now in
    let near = entry-near l.mode inputs c.args.k (slice_get_within (slot_keys l.mode inputs) c.args.k c.args.key c.requires.slot) c.requires.small in
    omega (arith, c.plt_place.ensures.place, near)

pub overflow_mul-place : goal.overflow_mul-place
overflow_mul-place c =
    let l = c.args.layout.now in
    let inputs = l.text.inputs.now in
    let near = entry-near l.mode inputs c.args.k (slice_get_within (slot_keys l.mode inputs) c.args.k c.args.key c.requires.slot) c.requires.small in
    omega (arith, c.plt_place.ensures.place, near)

pub overflow_add-place : goal.overflow_add-place
overflow_add-place c =
    let l = c.args.layout.now in
    let inputs = l.text.inputs.now in
    let near = entry-near l.mode inputs c.args.k (slice_get_within (slot_keys l.mode inputs) c.args.k c.args.key c.requires.slot) c.requires.small in
    omega (arith, c.plt_place.ensures.place, near)

pub overflow_mul-k : goal.overflow_mul-k
overflow_mul-k c =
    let l = c.args.layout.now in
    let inputs = l.text.inputs.now in
    let near = entry-near l.mode inputs c.args.k (slice_get_within (slot_keys l.mode inputs) c.args.k c.args.key c.requires.slot) c.requires.small in
    omega (arith, c.plt_place.ensures.place, near)

pub put_row-requires : goal.put_row-requires
put_row-requires c =
    let l = c.args.layout.now in
    let inputs = l.text.inputs.now in
    let near = entry-near l.mode inputs c.args.k (slice_get_within (slot_keys l.mode inputs) c.args.k c.args.key c.requires.slot) c.requires.small in
    omega (arith, c.plt_place.ensures.place, near, ap length c.entry_words.ensures)
