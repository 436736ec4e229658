-- What holds of every object that a walk takes from a file.
use Rattle.std.specs.Prelude.{◌≤◌, length}
use Rattle.elf_model.specs.declared.constants.TheConstants.{MAX_ENTRIES}
use Rattle.elf_model.specs.declared.object.Object.{Object}
use Rattle.elf_model.specs.Sound.{IsSound}

pub record IsTaken (o : Object) : Type 0 where
  pub sound : IsSound o
  pub few : length o.symbols ≤ MAX_ENTRIES
