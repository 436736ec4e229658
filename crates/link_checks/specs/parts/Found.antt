-- What has been looked up of relocations.
use Rattle.std.specs.Prelude.{ℕ, ◌==◌, List, All, if◌then◌else◌}
use Rattle.std.specs.List.{AllZip}
use Rattle.elf_model.specs.declared.constants.TheConstants.{R_ARM_GOT_BREL, R_ARM_GOTFUNCDESC}
use Rattle.elf_model.specs.declared.relocatable.RelObject.{RelObject}
use Rattle.link_model.specs.declared.input.Mode.{Mode}
use Rattle.link_model.specs.declared.need.Need.TheVariants.{Word, FuncWord}
use Rattle.link_model.specs.declared.target.Target.{Target}
use Rattle.link_model.specs.Inputs.{InputRel}
use Rattle.link_model.specs.Needs.{all_needs, offset_of, descriptor_need, is_function_kind}
use Rattle.link_words.specs.declared.facts.Facts.{Facts}
use Rattle.link_words.specs.parts.Facts.{AreFacts, AreNear}

-- of each relocation
pub record AreFound (mode : Mode) (inputs : List RelObject) (xs : List InputRel) (facts : List Facts) : Type 0 where
  pub each : AllZip (AreFacts mode inputs) xs facts
  pub near : All AreNear facts

-- the offset from the GOT of what a kind names there of a symbol
abbrev pub offset_at : Mode → List RelObject → ℕ → Target → ℕ
offset_at mode inputs kind t =
    if kind == R_ARM_GOT_BREL then offset_of (all_needs mode inputs) (Word t.key)
    else if kind == R_ARM_GOTFUNCDESC then offset_of (all_needs mode inputs) (FuncWord t.key)
    else if is_function_kind kind then offset_of (all_needs mode inputs) (descriptor_need inputs t)
    else 0
