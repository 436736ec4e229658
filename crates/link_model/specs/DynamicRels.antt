-- The relocations that the loader is to fill (Arm FDPIC ABI, "Dynamic relocations"; gABI, "Dynamic Section", DT_REL and
-- DT_JMPREL), or the fixups of a program that stands alone.
use Rattle.std.specs.Prelude.{ℕ, ◌+◌, nat_le, List, [], ◌∷◌, ◌++◌, map, flat_map, Option, Some, None, if◌then◌else◌}
use Rattle.elf_model.specs.declared.constants.TheConstants.{R_ARM_GLOB_DAT, R_ARM_RELATIVE, R_ARM_FUNCDESC, R_ARM_FUNCDESC_VALUE}
use Rattle.elf_model.specs.declared.object.Rel.{Rel}
use Rattle.elf_model.specs.declared.relocatable.RelObject.{RelObject}
use Rattle.link_model.specs.declared.input.Mode.{Mode}
use Rattle.link_model.specs.declared.need.Need.{Need}
use Rattle.link_model.specs.declared.need.Need.TheVariants.{Word, FuncWord, Descriptor, NoFunction, Slot}
use Rattle.link_model.specs.DynamicSymbols.{symbol_index}
use Rattle.link_model.specs.Inputs.{all_rels}
use Rattle.link_model.specs.Needs.{all_needs, slot_keys}
use Rattle.link_model.specs.Places.{need_place}
use Rattle.link_model.specs.Sites.{dynamic_rel, address_rels, site_rels}
use Rattle.link_model.specs.Targets.{is_static, target_of_key}

-- ---- of the GOT

-- a descriptor: the loader fills both words, or each is an address of the program that stands alone
abbrev pub descriptor_rels : Mode → ℕ → List Rel
descriptor_rels mode site = if is_static mode then dynamic_rel site R_ARM_RELATIVE 0 ++ dynamic_rel (site + 4) R_ARM_RELATIVE 0 else dynamic_rel site R_ARM_FUNCDESC_VALUE 0

abbrev pub need_rels : Mode → List RelObject → Need → List Rel
need_rels mode inputs (Word key) = address_rels mode inputs (need_place mode inputs (Word key)) R_ARM_GLOB_DAT (target_of_key mode inputs key)
need_rels mode inputs (FuncWord key) = address_rels mode inputs (need_place mode inputs (FuncWord key)) R_ARM_FUNCDESC (target_of_key mode inputs key)
need_rels mode inputs (Descriptor function) = descriptor_rels mode (need_place mode inputs (Descriptor function))
need_rels mode inputs (NoFunction key) = []
need_rels mode inputs (Slot key) = []

-- ---- all, by rising site

abbrev pub put_by_site : Rel → List Rel → List Rel
put_by_site r [] = r ∷ []
put_by_site r (x ∷ xs) = if nat_le r.site x.site then r ∷ x ∷ xs else x ∷ put_by_site r xs

abbrev pub by_site : List Rel → List Rel
by_site [] = []
by_site (r ∷ rs) = put_by_site r (by_site rs)

abbrev pub dynamic_rels : Mode → List RelObject → List Rel
dynamic_rels mode inputs = by_site (flat_map (need_rels mode inputs) (all_needs mode inputs) ++ flat_map (site_rels mode inputs) (all_rels inputs))

-- those of DT_REL
abbrev pub rels_for : Mode → List RelObject → List Rel
rels_for mode inputs = if is_static mode then [] else dynamic_rels mode inputs

-- a program that stands alone has no symbols, and lists the places of its addresses
abbrev pub fixups_for : Mode → List RelObject → Option (List ℕ)
fixups_for mode inputs = if is_static mode then Some (map (λ r. r.site) (dynamic_rels mode inputs)) else None

-- those of DT_JMPREL, in the order of the slots
abbrev pub jmprels_for : Mode → List RelObject → List Rel
jmprels_for mode inputs =
    map (λ key. record { site = need_place mode inputs (Slot key); kind = R_ARM_FUNCDESC_VALUE; symbol = symbol_index mode inputs key }) (slot_keys mode inputs)
