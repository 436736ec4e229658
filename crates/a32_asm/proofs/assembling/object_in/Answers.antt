use Rattle.std.proofs.Common.{sym, subst}
use Rattle.fd_base.specs.Lines.{lines_of}
use Rattle.a32_asm.specs.parts.Made.{IsMade}
use Rattle.a32_asm.proofs.Writing.{first_made}
use Rattle.a32_asm.proofs.assembling.object_in.Goals as goal

pub second_pass-requires-clause-passed : goal.second_pass-requires-clause-passed
second_pass-requires-clause-passed c = record { lines = lines_of c.args.text.now; pass = c.in_ok-passed.ensures.value; fit = c.in_ok-passed.ensures.fit }

pub object_of-requires : goal.object_of-requires
object_of-requires c = subst IsMade (sym c.made.ensures) (first_made c.args.text.now c.in_ok-passed.passed c.in_ok-passed.ensures.value)
