-- What has been looked up of what stands in the GOT.
use Rattle.std.specs.Prelude.{◌≡◌, ℕ, true, List, [], ◌∷◌}
use Rattle.elf_model.specs.declared.object.Rel.{Rel}
use Rattle.elf_model.specs.declared.relocatable.RelObject.{RelObject}
use Rattle.link_model.specs.declared.input.Mode.{Mode}
use Rattle.link_model.specs.declared.target.Key.{Key}
use Rattle.link_model.specs.declared.target.Target.{Target}
use Rattle.link_model.specs.DynamicSymbols.{symbol_index}
use Rattle.link_model.specs.Targets.{is_dynamic, target_of_key}
use Rattle.link_words.specs.declared.need.DescriptorRels.{DescriptorRels}
use Rattle.link_words.specs.declared.need.DescriptorRels.TheVariants.{Filled, Moved}

-- what a key stands for, and its number among the symbols that the loader sees, where the loader settles it
pub record IsKeyed (mode : Mode) (inputs : List RelObject) (key : Key) (t : Target) (symbol : ℕ) : Type 0 where
  pub target' : t ≡ target_of_key mode inputs key
  pub symbol' : is_dynamic t.reach ≡ true → symbol ≡ symbol_index mode inputs t.key

-- those of a descriptor, in order
abbrev pub rels_in : DescriptorRels → List Rel
rels_in (Filled r) = r ∷ []
rels_in (Moved r s) = r ∷ s ∷ []
