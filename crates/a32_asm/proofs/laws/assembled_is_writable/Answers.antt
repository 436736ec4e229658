use Rattle.a32_asm.proofs.Writing.{assembled_writable}
use Rattle.a32_asm.proofs.laws.assembled_is_writable.Goals as goal

pub returns : goal.returns
returns c = assembled_writable
