use Rattle.std.proofs.Common.{◌≡◌, take}
use Rattle.std.specs.List.{flat_map}
use Rattle.link_model.specs.Inputs.{numbered}
use Rattle.link_model.specs.Needs.{slot_keys}
use Rattle.link_model.specs.Segments.{plt_entry_words}
use Rattle.link_got.proofs.plt.plt_words.Given as goal

abbrev pub invariant-loop-k : goal.invariant-loop-k
invariant-loop-k l =
    let mode = l.layout.mode in
    let inputs = l.layout.text.inputs.now in
    l.words ≡ flat_map (plt_entry_words mode inputs) (numbered (take l.k (slot_keys mode inputs)))
