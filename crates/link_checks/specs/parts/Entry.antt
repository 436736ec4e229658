-- Where a program begins.
use Rattle.std.specs.Prelude.{ℕ, List, if◌then◌else◌}
use Rattle.std.specs.Option.{option_map_or}
use Rattle.elf_model.specs.declared.relocatable.RelObject.{RelObject}
use Rattle.link_model.specs.declared.input.Mode.{Mode}
use Rattle.link_model.specs.Object.{start_target}
use Rattle.link_model.specs.Places.{address_of}
use Rattle.link_model.specs.Targets.{is_shared}

-- a link address, and 0 of a shared object
abbrev pub entry_of : Mode → List RelObject → ℕ
entry_of mode inputs = if is_shared mode then 0 else option_map_or (λ t. address_of mode inputs t.spot) (start_target mode inputs) 0
