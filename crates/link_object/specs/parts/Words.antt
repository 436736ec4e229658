-- The words that the linker writes at relocations.
use Rattle.std.specs.Prelude.{List, Option, option_map}
use Rattle.elf_model.specs.declared.relocatable.RelObject.{RelObject}
use Rattle.load_model.specs.declared.words.LinkWord.{LinkWord}
use Rattle.link_model.specs.declared.input.Mode.{Mode}
use Rattle.link_model.specs.Inputs.{InputRel}
use Rattle.link_model.specs.Segments.{word_at}
use Rattle.link_model.specs.Sites.{site_address, site_word}

-- that of a relocation, if it has one
abbrev pub site_word_of : Mode → List RelObject → InputRel → Option LinkWord
site_word_of mode inputs x = option_map (word_at (site_address mode inputs x)) (site_word mode inputs x)
