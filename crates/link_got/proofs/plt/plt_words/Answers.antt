use Rattle.std.proofs.Common.{◌<◌, ◌≤◌, length, ap, ◌∙◌, arith}
use Rattle.std.specs.List.{flat_map}
use Rattle.std.proofs.lemmas.List.{take_all, get_or_default}
use Rattle.link_model.specs.Inputs.{numbered}
use Rattle.link_model.specs.Needs.{slot_keys}
use Rattle.link_model.specs.Segments.{plt_entry_words}
use Rattle.link_got.proofs.Bounds.{entry-near}
use Rattle.link_got.proofs.Rows.{made-numbered, taken-at}
use Rattle.link_got.proofs.plt.plt_words.Goals as goal

pub overflow_cast-k : goal.overflow_cast-k
overflow_cast-k c =
    let mode = c.args.layout.now.mode in
    let inputs = c.args.layout.now.text.inputs.now in
    let within : c.loop-k.k < length (slot_keys mode inputs) = omega (arith, c.loop-k-test.true, ap length c.slot_keys-key-items.ensures) in
    omega (arith, entry-near mode inputs c.loop-k.k within c.requires.small)

pub put_entry-requires-clause-slot : goal.put_entry-requires-clause-slot
put_entry-requires-clause-slot c =
    taken-at (slot_keys c.args.layout.now.mode c.args.layout.now.text.inputs.now) _ c.loop-k.k _ c.slot_keys-key-items.ensures c.loop-k-test.true
    (get_or_default _ c.loop-k.k _ _ c.loop-k-test.true)

pub loop-k-preserved : goal.loop-k-preserved
loop-k-preserved c =
    let mode = c.args.layout.now.mode in
    let inputs = c.args.layout.now.text.inputs.now in
    made-numbered (plt_entry_words mode inputs) (slot_keys mode inputs) _ c.loop-k.k _ c.loop-k.words c.put_entry.new.words c.slot_keys-key-items.ensures
    c.loop-k-test.true (get_or_default _ c.loop-k.k _ _ c.loop-k-test.true) c.loop-k.invariant c.in_ok-put_entry.ensures

pub returns : goal.returns
returns c =
    let mode = c.args.layout.now.mode in
    let inputs = c.args.layout.now.text.inputs.now in
    let keys = slot_keys mode inputs in
    let past : length keys ≤ c.loop-k.k = omega (arith, c.loop-k-test.false, ap length c.slot_keys-key-items.ensures) in
    c.loop-k.invariant ∙ ap (λ ks. flat_map (plt_entry_words mode inputs) (numbered ks)) (take_all c.loop-k.k keys past)
