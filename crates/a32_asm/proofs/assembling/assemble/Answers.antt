use Rattle.std.proofs.Common.{arith}
use Rattle.a32_asm.proofs.FileSize.{assembled_short}
use Rattle.a32_asm.proofs.Writing.{assembled_writable}
use Rattle.a32_asm.proofs.assembling.assemble.Goals as goal

pub write_rel_object-requires : goal.write_rel_object-requires
write_rel_object-requires c = assembled_writable c.args.text.now c.in_ok-object.object c.in_ok-object.ensures

pub overflow_cast-result : goal.overflow_cast-result
overflow_cast-result c =
    let short = assembled_short c.args.text.now c.in_ok-object.object c.in_ok-object.ensures in
    grind (arith, short, c.in-Err-TooLong.ensures)
