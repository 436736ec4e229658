use Rattle.std.proofs.Common.{◌≡◌, List, ◌++◌, take}
use Rattle.std.specs.List.{AllZip, flat_map}
use Rattle.elf_model.specs.declared.relocatable.RelObject.{RelObject}
use Rattle.link_model.specs.declared.input.Mode.{Mode}
use Rattle.link_model.specs.Inputs.{InputRel}
use Rattle.link_model.specs.Sites.{site_rels}
use Rattle.link_words.specs.parts.Facts.{AreFacts}
use Rattle.link_object.proofs.rels.put_site_rels.Given as goal

abbrev pub invariant-loop-one : goal.invariant-loop-one
invariant-loop-one l = (mode : Mode) (inputs : List RelObject) (xs : List InputRel) → AllZip (AreFacts mode inputs) xs l.facts
    → l.rels ≡ l.fn.rels ++ flat_map (site_rels mode inputs) (take l.one-index xs)
