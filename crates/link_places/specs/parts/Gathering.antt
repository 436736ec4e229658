-- What the relocations of one input want to have in the GOT.
use Rattle.std.specs.Prelude.{ℕ, List, [], if◌then◌else◌}
use Rattle.std.specs.List.{flat_map}
use Rattle.elf_model.specs.declared.object.Rel.{Rel}
use Rattle.elf_model.specs.declared.relocatable.RelObject.{RelObject}
use Rattle.elf_model.specs.declared.relocatable.RelSection.{RelSection}
use Rattle.link_model.specs.declared.input.Mode.{Mode}
use Rattle.link_model.specs.declared.need.Need.{Need}
use Rattle.link_model.specs.Inputs.{symbol_of}
use Rattle.link_model.specs.Needs.{is_unusable, needs_for}
use Rattle.link_model.specs.Targets.{target_of}

-- a relocation of input i
abbrev pub rel_needs : Mode → List RelObject → ℕ → Rel → List Need
rel_needs mode inputs i r =
    if is_unusable (symbol_of inputs i r.symbol) then [] else needs_for inputs r.kind (target_of mode inputs i r.symbol)

-- a section of input i
abbrev pub section_needs : Mode → List RelObject → ℕ → RelSection → List Need
section_needs mode inputs i s = flat_map (rel_needs mode inputs i) s.rels

-- an input, with its number
abbrev pub input_needs : Mode → List RelObject → ℕ × RelObject → List Need
input_needs mode inputs o = flat_map (section_needs mode inputs o.0) (o.1).sections
