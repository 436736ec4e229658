-- What an object wants to have called at its start and its end (gABI, "Initialization and Termination Functions").
use Rattle.std.specs.Prelude.{Bool, ◌||◌, is_some}
use Rattle.elf_model.specs.declared.object.Inits.{Inits}

-- whether there is any
abbrev pub has_inits : Inits → Bool
has_inits inits = is_some inits.init || (is_some inits.fini || (is_some inits.init_array || is_some inits.fini_array))
