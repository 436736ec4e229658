use Rattle.std.proofs.Common.{ℕ, Option, IfSome, arith, sym, subst, ◌∙◌}
use Rattle.a32_isa.specs.Table.{IsInstruction}
use Rattle.a32_isa.specs.declared.instr.Instr.{Instr}
use Rattle.a32_isa.proofs.Sound.{decode_of-row}
use Rattle.a32_isa.proofs.Complete.{IsInstruction-decode_of, IsNone-exactly}
use Rattle.a32_isa.proofs.decoder.decode.Goals as goal

pub returns-clause-row : goal.returns-clause-row
returns-clause-row c = subst (λ (o : Option Instr). IfSome o (IsInstruction c.args.word)) (sym c.decoded.ensures) (decode_of-row c.args.word (omega arith))

pub returns-clause-only : goal.returns-clause-only
returns-clause-only c = λ i r. c.decoded.ensures ∙ IsInstruction-decode_of c.args.word i r

pub returns-clause-none : goal.returns-clause-none
returns-clause-none c =
    let w : ℕ = c.args.word in
    IsNone-exactly w _ (returns-clause-row c) (returns-clause-only c)
