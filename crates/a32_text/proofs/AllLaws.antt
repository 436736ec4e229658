-- The laws of the rows as one.
use Rattle.std.proofs.Common.{ℕ}
use Rattle.a32_isa.specs.Table.{IsInstr}
use Rattle.a32_isa.specs.declared.instr.Instr.{Instr}
use Rattle.a32_isa.specs.declared.instr.Op.{Op}
use Rattle.a32_isa.specs.declared.instr.Op.TheVariants.{Data, Mul, Mla, Long, Clz, Movw, Movt, Nop, Mem, Half, Multi, Branch, Bx, Blx, Svc}
use Rattle.a32_text.specs.Printed.{IsReadBack}
use Rattle.a32_text.proofs.RowLaws.{data_law, mul_law, mla_law, long_law, clz_law, movw_law, movt_law, nop_law, branch_law, bx_law, blx_law, svc_law}
use Rattle.a32_text.proofs.AccessLaws.{mem_law, half_law, multi_law}

by_op : (cond : ℕ) (op : Op) → IsInstr (record { cond = cond; op = op }) → IsReadBack (record { cond = cond; op = op })
by_op cond (Data op s n d arg) is = data_law cond op s n d arg is
by_op cond (Mul s d s2 m) is = mul_law cond s d s2 m is
by_op cond (Mla s d n s2 m) is = mla_law cond s d n s2 m is
by_op cond (Long kind s hi lo s2 m) is = long_law cond kind s hi lo s2 m is
by_op cond (Clz d m) is = clz_law cond d m is
by_op cond (Movw d imm16) is = movw_law cond d imm16 is
by_op cond (Movt d imm16) is = movt_law cond d imm16 is
by_op cond Nop is = nop_law cond is
by_op cond (Mem load byte p u w n d off) is = mem_law cond load byte p u w n d off is
by_op cond (Half kind p u w n d off) is = half_law cond kind p u w n d off is
by_op cond (Multi load p u w n list) is = multi_law cond load p u w n list is
by_op cond (Branch link imm24) is = branch_law cond link imm24 is
by_op cond (Bx m) is = bx_law cond m is
by_op cond (Blx m) is = blx_law cond m is
by_op cond (Svc imm24) is = svc_law cond imm24 is

pub read_back : (i : Instr) → IsInstr i → IsReadBack i
read_back i is = by_op i.cond i.op is
