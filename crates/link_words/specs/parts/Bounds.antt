-- Where the segments of a linked object lie.
use Rattle.std.specs.Prelude.{◌≡◌, ◌^◌, ◌<◌, List}
use Rattle.elf_model.specs.declared.relocatable.RelObject.{RelObject}
use Rattle.link_model.specs.declared.input.Mode.{Mode}
use Rattle.link_model.specs.Places.{text_end, data_place, data_end}
use Rattle.link_words.specs.declared.bounds.Bounds.{Bounds}

pub record AreBounds (mode : Mode) (inputs : List RelObject) (b : Bounds) : Type 0 where
  pub text_end' : b.text_end ≡ text_end mode inputs
  pub data_place' : b.data_place ≡ data_place mode inputs
  pub data_end' : b.data_end ≡ data_end mode inputs

-- none passes what signed numbers of 64 bits add up
pub record AreNearBounds (b : Bounds) : Type 0 where
  pub text_end' : b.text_end < 2 ^ 61
  pub data_place' : b.data_place < 2 ^ 61
  pub data_end' : b.data_end < 2 ^ 61
