use Rattle.std.proofs.Common.{◌≡◌, map, take}
use Rattle.elf_model.specs.declared.constants.TheConstants.{R_ARM_FUNCDESC_VALUE}
use Rattle.link_model.specs.declared.need.Need.TheVariants.{Slot}
use Rattle.link_model.specs.DynamicSymbols.{symbol_index}
use Rattle.link_model.specs.Needs.{slot_keys}
use Rattle.link_model.specs.Places.{need_place}
use Rattle.link_got.proofs.rels.slot_rels.Given as goal

abbrev pub invariant-loop-key : goal.invariant-loop-key
invariant-loop-key l =
    let mode = l.layout.mode in
    let inputs = l.layout.text.inputs.now in
    l.rels ≡ map (λ key. record { site = need_place mode inputs (Slot key); kind = R_ARM_FUNCDESC_VALUE; symbol = symbol_index mode inputs key }) (take l.key-index (slot_keys mode inputs))
