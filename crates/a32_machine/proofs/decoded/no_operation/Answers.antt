use Rattle.std.proofs.Common.{◌≡◌, Some, sym, refl, ◌∙◌}
use Rattle.std.proofs.lemmas.Option.{none-some}
use Rattle.a32_isa.specs.declared.instr.Op.TheVariants.{Nop}
use Rattle.a32_isa.specs.Decoding.{decode_of, candidate_of, wide_of}
use Rattle.a32_machine.proofs.decoded.no_operation.Goals as goal

-- the word is NOP's
is_decoded : decode_of 0xe320f000 ≡ Some (record { cond = 14; op = Nop })
unfolding decode_of candidate_of wide_of
is_decoded = refl

pub unreachable-requires : goal.unreachable-requires
unreachable-requires c = none-some (record { cond = 14; op = Nop }) (sym c.in-None.is ∙ (c.decode.ensures.value ∙ is_decoded))
