-- What a site means once its object is loaded (ELF for the Arm Architecture, "Relocation types"; Arm FDPIC ABI,
-- "Relocations"): S is the placed definition of the symbol, A the addend, P the placed site.
use Rattle.std.specs.Prelude.{◌≡◌, ℕ, ◌+◌, pos, ◌+ℤ◌, unwrap_or}
use Rattle.load_map.specs.Translation.{placed}
use Rattle.elf_model.specs.declared.object.Object.{Object}
use Rattle.arm_relocs.specs.Branch.{branch_addend}
use Rattle.load_model.specs.declared.meaning.Definition.{Definition}
use Rattle.load_model.specs.declared.meaning.Definition.TheVariants.{Symbol as Is, Nothing, Unresolved}
use Rattle.load_model.specs.declared.meaning.Value.{Value}
use Rattle.load_model.specs.declared.meaning.Value.TheVariants.{Address, Number}
use Rattle.load_model.specs.Definition.{Linkage}
use Rattle.load_model.specs.Image.{Placing, number_of_value}
use Rattle.load_model.specs.Sites.{value_of}
use Rattle.link_sites.specs.Loaded.{LoadedWord}

-- S of a symbol that the loader looks up: 0 where nothing defines a weak one
abbrev pub value_of_definition : Linkage → Placing → Definition → ℕ
value_of_definition l p (Is found) = number_of_value p (value_of l found)
value_of_definition l p Nothing = 0
value_of_definition l p Unresolved = 0

-- the address of the descriptor of a function, and 0 for a number
abbrev pub descriptor_of_value : Placing → Value → ℕ
descriptor_of_value p (Address f) = unwrap_or (p.descriptors f) 0
descriptor_of_value p (Number n) = 0

-- the same of what the loader looks up, and 0 where nothing defines a weak symbol
abbrev pub descriptor_of_definition : Linkage → Placing → Definition → ℕ
descriptor_of_definition l p (Is found) = descriptor_of_value p (value_of l found)
descriptor_of_definition l p Nothing = 0
descriptor_of_definition l p Unresolved = 0

-- The word at v is a branch that leads to a link address of the same module: it branches by the distance in its field from
-- the instruction that is 8 bytes behind itself.
pub record BranchesTo (l : Linkage) (p : Placing) (m : ℕ) (o : Object) (v goal : ℕ) : Type 0 where
  pub word : ℕ
  pub loaded : LoadedWord l p m o v word
  pub leads : (pos (placed (p.maps m) v + 8)) +ℤ (branch_addend word) ≡ pos (placed (p.maps m) goal)
