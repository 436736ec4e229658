-- Each row has 28 bits below the condition.
use Rattle.std.proofs.Common.{◌≡◌, ◌<◌, ◌^◌, refl}
use Rattle.a32_isa.specs.Fields.{width_of, number_of, Fit}
use Rattle.a32_isa.proofs.Fields.{number_of-lt}
use Rattle.a32_isa.specs.Table.{op_fields}
use Rattle.a32_isa.specs.declared.instr.Op.{Op}
use Rattle.a32_isa.specs.declared.instr.Op.TheVariants.{Data, Mul, Mla, Long, Clz, Movw, Movt, Nop, Mem, Half, Multi, Branch, Bx, Blx, Svc}
use Rattle.a32_isa.specs.declared.instr.Arg.TheVariants.{Imm, ByImm, ByReg}
use Rattle.a32_isa.specs.declared.instr.MemOff.TheVariants as mem

pub twenty_eight : (op : Op) → width_of (op_fields op) ≡ 28
twenty_eight (Data op s n d (Imm rot imm)) = refl
twenty_eight (Data op s n d (ByImm imm kind m)) = refl
twenty_eight (Data op s n d (ByReg s2 kind m)) = refl
twenty_eight (Mul s d s2 m) = refl
twenty_eight (Mla s d n s2 m) = refl
twenty_eight (Long kind s hi lo s2 m) = refl
twenty_eight (Clz d m) = refl
twenty_eight (Movw d imm16) = refl
twenty_eight (Movt d imm16) = refl
twenty_eight Nop = refl
twenty_eight (Mem load byte p u w n d (mem.Imm off)) = refl
twenty_eight (Mem load byte p u w n d (mem.Reg imm kind m)) = refl
twenty_eight (Half kind p u w n d off) = refl
twenty_eight (Multi load p u w n list) = refl
twenty_eight (Branch link imm24) = refl
twenty_eight (Bx m) = refl
twenty_eight (Blx m) = refl
twenty_eight (Svc imm24) = refl

pub number_of-row : (op : Op) → Fit (op_fields op) → number_of (op_fields op) < 2 ^ 28
number_of-row op h = let below = number_of-lt (op_fields op) h in rw (twenty_eight op) at below
