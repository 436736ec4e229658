use Rattle.std.proofs.Common.{[], ◌∷◌, ◌++◌, ap, ◌∙◌}
use Rattle.std.proofs.lemmas.List.{get_or_default}
use Rattle.elf_model.specs.declared.constants.TheConstants.{R_ARM_FUNCDESC_VALUE}
use Rattle.link_model.specs.declared.need.Need.TheVariants.{Slot}
use Rattle.link_model.specs.DynamicSymbols.{symbol_index}
use Rattle.link_model.specs.Needs.{slot_keys}
use Rattle.link_model.specs.Places.{need_place}
use Rattle.link_got.proofs.Rows.{mapped-more}
use Rattle.link_got.proofs.rels.slot_rels.Goals as goal

pub loop-key-preserved : goal.loop-key-preserved
loop-key-preserved c =
    let mode = c.args.layout.now.mode in
    let inputs = c.args.layout.now.text.inputs.now in
    mapped-more (λ key. record { site = need_place mode inputs (Slot key); kind = R_ARM_FUNCDESC_VALUE; symbol = symbol_index mode inputs key })
    (slot_keys mode inputs) _ c.loop-key.key-index _ c.loop-key.rels c.push.new.self c.slot_keys-key-items.ensures c.loop-key-test.true
    (get_or_default _ c.loop-key.key-index _ _ c.loop-key-test.true) c.loop-key.invariant
    (c.in_ok-push.ensures ∙ ap (λ r. c.loop-key.rels ++ r ∷ []) c.slot_rel.ensures)
