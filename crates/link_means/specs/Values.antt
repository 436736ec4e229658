-- The values by which relocations of the inputs mean something after loading: S of a symbol, and the address of a
-- function's descriptor. Those that the linker settles are the object's own; the loader looks up the others.
use Rattle.std.specs.Prelude.{ℕ, ◌%◌, ◌^◌, ◌==◌, List, unwrap_or, if◌then◌else◌}
use Rattle.fd_base.specs.Sums.{plus}
use Rattle.elf_model.specs.declared.constants.TheConstants.{STB_WEAK}
use Rattle.elf_model.specs.declared.object.Object.{Object}
use Rattle.elf_model.specs.declared.relocatable.RelObject.{RelObject}
use Rattle.load_map.specs.Translation.{placed}
use Rattle.load_model.specs.declared.meaning.Definition.{Definition}
use Rattle.load_model.specs.Definition.{Linkage, lookup, definition_or}
use Rattle.load_model.specs.Image.{Placing}
use Rattle.link_model.specs.declared.input.Mode.{Mode}
use Rattle.link_model.specs.declared.need.Need.TheVariants.{Descriptor}
use Rattle.link_model.specs.declared.target.Reach.{Reach}
use Rattle.link_model.specs.declared.target.Reach.TheVariants.{Settled, Nothing, Dynamic}
use Rattle.link_model.specs.declared.target.Spot.{Spot}
use Rattle.link_model.specs.declared.target.Target.{Target}
use Rattle.link_model.specs.Inputs.{InputRel}
use Rattle.link_model.specs.Needs.{target_at}
use Rattle.link_model.specs.Places.{address_of, need_place}
use Rattle.link_model.specs.Sites.{input_word, sum_of, word_of}
use Rattle.link_model.specs.Targets.{is_absolute, is_static, name_of_key}
use Rattle.link_sites.specs.Meaning.{value_of_definition, descriptor_of_definition}

-- ---- S

-- of what the object defines: its link address, of 32 bits, as it is placed; or a number
abbrev pub settled_value : Mode → List RelObject → Placing → ℕ → Spot → ℕ
settled_value mode inputs p m spot = if is_absolute spot then address_of mode inputs spot else placed (p.maps m) (address_of mode inputs spot % 2 ^ 32)

-- what the loader finds for the name of a symbol
abbrev pub definition_of_target : List RelObject → Linkage → ℕ → Object → Target → Definition
definition_of_target inputs l m o t = definition_or (lookup l m o (name_of_key inputs t.key)) (t.binding == STB_WEAK)

-- 0 where there is no definition and will be none
abbrev pub value_by : Mode → List RelObject → Linkage → Placing → ℕ → Object → Target → Reach → ℕ
value_by mode inputs l p m o t Settled = settled_value mode inputs p m t.spot
value_by mode inputs l p m o t Nothing = 0
value_by mode inputs l p m o t Dynamic = value_of_definition l p (definition_of_target inputs l m o t)

abbrev pub value_of_target : Mode → List RelObject → Linkage → Placing → ℕ → Object → Target → ℕ
value_of_target mode inputs l p m o t = value_by mode inputs l p m o t t.reach

-- ---- descriptors

-- the address of that of the function at a link address: a static object has it at a place of its own
abbrev pub own_descriptor : Mode → List RelObject → Placing → ℕ → ℕ → ℕ
own_descriptor mode inputs p m a =
    if is_static mode then placed (p.maps m) (need_place mode inputs (Descriptor a))
    else unwrap_or (p.descriptors (record { «module» = m; value = a % 2 ^ 32 })) 0

abbrev pub descriptor_by : Mode → List RelObject → Linkage → Placing → ℕ → Object → Target → Reach → ℕ
descriptor_by mode inputs l p m o t Settled = own_descriptor mode inputs p m (address_of mode inputs t.spot)
descriptor_by mode inputs l p m o t Nothing = 0
descriptor_by mode inputs l p m o t Dynamic = descriptor_of_definition l p (definition_of_target inputs l m o t)

abbrev pub descriptor_of_target : Mode → List RelObject → Linkage → Placing → ℕ → Object → Target → ℕ
descriptor_of_target mode inputs l p m o t = descriptor_by mode inputs l p m o t t.reach

-- ---- the word of an address

-- S + A: a link address with its addend is placed as such
abbrev pub address_by : Mode → List RelObject → Linkage → Placing → ℕ → Object → InputRel → Target → Reach → ℕ
address_by mode inputs l p m o x t Settled = if is_absolute t.spot then word_of (sum_of mode inputs x) else placed (p.maps m) (word_of (sum_of mode inputs x))
address_by mode inputs l p m o x t Nothing = input_word x
address_by mode inputs l p m o x t Dynamic = plus (value_of_target mode inputs l p m o t) (input_word x)

abbrev pub address_word : Mode → List RelObject → Linkage → Placing → ℕ → Object → InputRel → ℕ
address_word mode inputs l p m o x = address_by mode inputs l p m o x (target_at mode inputs x) (target_at mode inputs x).reach
