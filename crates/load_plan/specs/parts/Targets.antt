-- The functions of slots, by the values of sites.
use Rattle.std.specs.Prelude.{◌+◌, List, length, map, slice_range, Option, Ok}
use Rattle.elf_model.specs.declared.func.Func.{Func}
use Rattle.elf_model.specs.declared.object.Object.{Object}
use Rattle.load_model.specs.declared.meaning.SiteValue.{SiteValue}
use Rattle.load_model.specs.Descriptors.{pair_of}

-- the functions of these pairs
abbrev pub functions_of : List SiteValue → List (Option Func)
functions_of pairs = map (λ v. pair_of (Ok v)) pairs

-- those of a module's slots, whose values stand behind those of DT_REL
abbrev pub targets_by : Object → List SiteValue → List (Option Func)
targets_by o values = functions_of (slice_range values (length o.rels) (length o.rels + length o.jmprels))
