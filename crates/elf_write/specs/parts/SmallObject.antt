-- Objects with names and tables that are not too many.
use Rattle.std.specs.Prelude.{◌^◌, ◌<◌, ◌≤◌, length, All, IfSome}
use Rattle.elf_model.specs.declared.constants.TheConstants.{MAX_ENTRIES, MAX_NEEDED}
use Rattle.elf_model.specs.declared.object.Object.{Object}
use Rattle.elf_model.specs.RelSound.{IsNameText}

pub record IsObjectSmall (o : Object) : Type 0 where
  pub few_symbols : length o.symbols ≤ MAX_ENTRIES
  pub named : All (λ s. IfSome s.name IsNameText) o.symbols
  pub soname_named : IfSome o.soname IsNameText
  pub few_needed : length o.needed ≤ MAX_NEEDED
  pub needed_named : All IsNameText o.needed
  pub few_rels : length o.rels ≤ MAX_ENTRIES
  pub few_slots : length o.jmprels ≤ MAX_ENTRIES
  pub few_fixups : IfSome o.fixups (λ fixups. length fixups < 2 ^ 32)
