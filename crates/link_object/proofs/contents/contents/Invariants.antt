use Rattle.std.specs.Prelude.{filter, take}
use Rattle.link_model.specs.Inputs.{sections_of}
use Rattle.link_words.specs.parts.Contents.{AreContentsOf}
use Rattle.link_object.specs.parts.Filled.{is_copied}
use Rattle.link_object.proofs.contents.contents.Given as goal

abbrev pub invariant-loop-head : goal.invariant-loop-head
invariant-loop-head l = AreContentsOf l.layout.mode l.layout.text.inputs.now (filter (is_copied l.is_writable) (take l.head-index (sections_of l.layout.text.inputs.now))) l.contents
