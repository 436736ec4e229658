-- The sites that relocations, slots and fixups fill (gABI, "Relocation"; Arm FDPIC ABI).
use Rattle.std.specs.Prelude.{ℕ, suc, List, [], ◌∷◌, ◌++◌, map, Some, None, unwrap_or}
use Rattle.elf_model.specs.declared.constants.TheConstants.{R_ARM_RELATIVE}
use Rattle.elf_model.specs.declared.filled.FilledSite.{FilledSite}
use Rattle.elf_model.specs.declared.object.Object.{Object}
use Rattle.elf_model.specs.declared.object.Rel.{Rel}

-- a fixup as a relocation: the word at the site is a link address, which is to be placed
abbrev pub fixup_at : ℕ → Rel
fixup_at site = record { site = site; kind = R_ARM_RELATIVE; symbol = 0 }

-- what loading fills but the header of the GOT: DT_REL, DT_JMPREL and the fixups, each in table order
abbrev pub site_relocations : Object → List Rel
site_relocations o = o.rels ++ o.jmprels ++ map fixup_at (unwrap_or o.fixups [])

-- ---- the same sites in three parts: relocations, slots with their numbers, and fixups

abbrev pub plain_site : Rel → FilledSite
plain_site r = record { rel = r; slot = None }

abbrev pub slot_site : ℕ → Rel → FilledSite
slot_site k r = record { rel = r; slot = Some k }

-- these slots, the first of which has this number
abbrev pub slot_sites : ℕ → List Rel → List FilledSite
slot_sites k [] = []
slot_sites k (r ∷ rs) = slot_site k r ∷ slot_sites (suc k) rs

abbrev pub sites_of : Object → List FilledSite
sites_of o = map plain_site o.rels ++ slot_sites 0 o.jmprels ++ map plain_site (map fixup_at (unwrap_or o.fixups []))
