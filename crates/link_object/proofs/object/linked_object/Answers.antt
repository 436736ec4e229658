use Rattle.std.proofs.Common.{arith}
use Rattle.link_got.proofs.Bounds.{data-near}
use Rattle.link_object.proofs.Low.{facts_low}
use Rattle.link_object.proofs.object.linked_object.Goals as goal

pub linked_words-requires-clause-low : goal.linked_words-requires-clause-low
linked_words-requires-clause-low c =
    let l = c.args.linking.now.layout in
    facts_low l.mode l.text.inputs.now c.requires.sound c.requires.small c.args.facts.now c.requires.found.each

pub new-requires-clause-low : goal.new-requires-clause-low
new-requires-clause-low c =
    let l = c.args.linking.now.layout in
    facts_low l.mode l.text.inputs.now c.requires.sound c.requires.small c.args.facts.now c.requires.found.each

pub overflow_cast-result : goal.overflow_cast-result
overflow_cast-result c =
    let l = c.args.linking.now.layout in
    omega (arith, c.data_place.ensures.place, data-near l.mode l.text.inputs.now c.requires.small)
