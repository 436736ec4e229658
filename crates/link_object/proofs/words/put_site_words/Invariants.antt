use Rattle.std.proofs.Common.{◌≡◌, List, ◌++◌, take}
use Rattle.std.specs.Prelude.{option_to_list}
use Rattle.std.specs.List.{AllZip, flat_map}
use Rattle.elf_model.specs.declared.relocatable.RelObject.{RelObject}
use Rattle.link_model.specs.declared.input.Mode.{Mode}
use Rattle.link_model.specs.Inputs.{InputRel}
use Rattle.link_words.specs.parts.Facts.{AreFacts}
use Rattle.link_object.specs.parts.Words.{site_word_of}
use Rattle.link_object.proofs.words.put_site_words.Given as goal

abbrev pub invariant-loop-one : goal.invariant-loop-one
invariant-loop-one l = (mode : Mode) (inputs : List RelObject) (xs : List InputRel) → AllZip (AreFacts mode inputs) xs l.facts
    → l.words ≡ l.fn.words ++ flat_map (λ x. option_to_list (site_word_of mode inputs x)) (take l.one-index xs)
