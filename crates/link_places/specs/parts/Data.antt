-- The sections of the data, part by part.
use Rattle.std.specs.Prelude.{Bool, not, ◌&&◌, ◌||◌, ◌==◌, List, ◌++◌, filter}
use Rattle.elf_model.specs.declared.constants.TheConstants.{SHT_INIT_ARRAY, SHT_FINI_ARRAY}
use Rattle.link_places.specs.declared.data.DataPart.{DataPart}
use Rattle.link_places.specs.declared.data.DataPart.TheVariants.{Starts, Ends, Others, Zeros}
use Rattle.link_places.specs.declared.heads.SectionHead.{SectionHead}
use Rattle.link_places.specs.parts.Heads.{is_writable, is_nobits, is_array}

abbrev pub is_of : DataPart → SectionHead → Bool
is_of Starts h = is_writable h && h.kind == SHT_INIT_ARRAY
is_of Ends h = is_writable h && h.kind == SHT_FINI_ARRAY
is_of Others h = is_writable h && not (is_array h || is_nobits h)
is_of Zeros h = is_writable h && is_nobits h

abbrev pub filled_heads : List SectionHead → List SectionHead
filled_heads hs = filter (is_of Starts) hs ++ (filter (is_of Ends) hs ++ filter (is_of Others) hs)

abbrev pub data_heads : List SectionHead → List SectionHead
data_heads hs = filled_heads hs ++ filter (is_of Zeros) hs
