-- Which relocatable files can be written.
use Rattle.std.specs.Prelude.{◌≢◌, ◌<◌, ◌≤◌, length, All}
use Rattle.elf_model.specs.declared.constants.TheConstants.{MAX_ENTRIES}
use Rattle.elf_model.specs.declared.object.Place.TheVariants.{Dropped}
use Rattle.elf_model.specs.declared.relocatable.RelObject.{RelObject}
use Rattle.elf_model.specs.RelSound.{IsRelSound}
use Rattle.elf_write.specs.declared.limits.TheConstants.{MAX_WRITTEN_SECTIONS}

-- The file is such as readers accept, it has the null symbol, no symbol lost its section, and each section's relocations
-- fit into one table.
pub record IsWritableRel (r : RelObject) : Type 0 where
  pub sound : IsRelSound r
  pub some_symbol : 0 < length r.symbols
  pub placed : All (λ s. s.place ≢ Dropped) r.symbols
  pub few_sections : length r.sections ≤ MAX_WRITTEN_SECTIONS
  pub few_rels : All (λ s. length s.rels ≤ MAX_ENTRIES) r.sections
