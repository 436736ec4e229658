-- What is written at all sites of new modules.
use Rattle.std.specs.Prelude.{◌≡◌, List, map, Ok}
use Rattle.std.specs.List.{AllZip}
use Rattle.load_model.specs.declared.meaning.SiteValue.{SiteValue}
use Rattle.load_model.specs.declared.module.Joining.{Joining}
use Rattle.load_model.specs.Definition.{Linkage}
use Rattle.load_model.specs.Sites.{Member, site_value}
use Rattle.elf_model.specs.Filled.{site_relocations}
use Rattle.load_model.specs.Linkage.{members_of}

-- one value for each site of a module, in the order of its sites
abbrev pub AreValuesOf : Linkage → Member → List SiteValue → Type 0
AreValuesOf l m values = map (site_value l m.0 m.1) (site_relocations m.1) ≡ map Ok values

-- one list for each new module, in order
abbrev pub IsValues : Linkage → List Joining → List (List SiteValue) → Type 0
IsValues l joining values = AllZip (AreValuesOf l) (members_of joining) values
