-- The text of an instruction: its mnemonic, a space and its operands, which are parted by a comma and a space.
-- The order of the operands is that of the assembler's language (Arm ARM, DDI 0406C, A8.8).
use Rattle.std.specs.Prelude.{ℕ, ◌-◌, ◌*◌, ◌^◌, Bool, true, false, not, ◌&&◌, ◌==◌, nat_lt, if◌then◌else◌, List, [], ◌∷◌, ◌++◌, map, filter, codes, decimal}
use Rattle.std.specs.List.{range_with_len}
use Rattle.a32_isa.specs.Registers.{is_comparison, is_move, is_listed}
use Rattle.a32_isa.specs.Names.{register_name, condition_name, data_name, long_name, half_name, shift_name}
use Rattle.a32_isa.specs.Immediate.{constant_of, is_lowest}
use Rattle.a32_isa.specs.declared.instr.Instr.{Instr}
use Rattle.a32_isa.specs.declared.instr.Op.{Op}
use Rattle.a32_isa.specs.declared.instr.Op.TheVariants.{Data, Mul, Mla, Long, Clz, Movw, Movt, Nop, Mem, Half, Multi, Branch, Bx, Blx, Svc}
use Rattle.a32_isa.specs.declared.instr.Arg.{Arg}
use Rattle.a32_isa.specs.declared.instr.Arg.TheVariants.{Imm, ByImm, ByReg}
use Rattle.a32_isa.specs.declared.instr.MemOff.{MemOff}
use Rattle.a32_isa.specs.declared.instr.MemOff.TheVariants as mem
use Rattle.a32_isa.specs.declared.instr.HalfOff.{HalfOff}
use Rattle.a32_isa.specs.declared.instr.HalfOff.TheVariants as half

-- texts, each behind a comma and a space
abbrev pub after : List (List ℕ) → List ℕ
after [] = []
after (text ∷ texts) = codes ", " ++ (text ++ after texts)

-- texts, with a comma and a space between them
abbrev pub parted : List (List ℕ) → List ℕ
parted [] = []
parted (text ∷ texts) = text ++ after texts

-- a text where a flag is set
abbrev pub where_set : Bool → List ℕ → List ℕ
where_set true text = text
where_set false text = []

-- a number or register that is added, or with a minus sign taken away
abbrev pub signed : Bool → List ℕ → List ℕ
signed up text = where_set (not up) (codes "-") ++ text

abbrev pub immediate : ℕ → List ℕ
immediate n = codes "#" ++ decimal n

abbrev pub offset : Bool → ℕ → List ℕ
offset up n = codes "#" ++ signed up (decimal n)

-- A shift by a number (A8.4.3). Where the number is 0, lsl does nothing, ror is rrx, and the others shift by 32.
unfoldable pub shift_operands : ℕ → ℕ → List (List ℕ)
shift_operands imm kind =
    if (imm == 0) && (kind == 0) then []
    else if (imm == 0) && (kind == 3) then codes "rrx" ∷ []
    else (shift_name kind ++ (codes " " ++ immediate (if imm == 0 then 32 else imm))) ∷ []

-- The constant is written where its rotation is the lowest that gives it, else the byte and the rotation.
unfoldable pub constant_operands : ℕ → ℕ → List (List ℕ)
constant_operands rot imm =
    if is_lowest (constant_of rot imm) rot then immediate (constant_of rot imm) ∷ []
    else immediate imm ∷ decimal (2 * rot) ∷ []

abbrev pub arg_operands : Arg → List (List ℕ)
arg_operands (Imm rot imm) = constant_operands rot imm
arg_operands (ByImm imm kind m) = register_name m ∷ shift_operands imm kind
arg_operands (ByReg s2 kind m) = register_name m ∷ (shift_name kind ++ (codes " " ++ register_name s2)) ∷ []

abbrev pub data_registers : ℕ → ℕ → ℕ → List ℕ
data_registers op n d = if is_comparison op then n ∷ [] else if is_move op then d ∷ [] else d ∷ n ∷ []

abbrev pub mem_off_operands : Bool → MemOff → List (List ℕ)
mem_off_operands u (mem.Imm off) = offset u off ∷ []
mem_off_operands u (mem.Reg imm kind m) = signed u (register_name m) ∷ shift_operands imm kind

abbrev pub half_off_operands : Bool → HalfOff → List (List ℕ)
half_off_operands u (half.Imm off) = offset u off ∷ []
half_off_operands u (half.Reg m) = signed u (register_name m) ∷ []

-- an address (A8.5): the offset stands in the brackets where it is added before the access, else behind them
abbrev pub address_operands : Bool → Bool → ℕ → List (List ℕ) → List (List ℕ)
address_operands true w n off = (codes "[" ++ (parted (register_name n ∷ off) ++ (codes "]" ++ where_set w (codes "!")))) ∷ []
address_operands false w n off = (codes "[" ++ (register_name n ++ codes "]")) ∷ off

-- the registers of a list that are below a number
unfoldable pub listed_below : ℕ → ℕ → List ℕ
listed_below list n = filter (is_listed list) (range_with_len 0 n)

unfoldable pub list_operand : ℕ → List ℕ
list_operand list = codes "{" ++ (parted (map register_name (listed_below list 16)) ++ codes "}")

-- how far a branch goes from its address plus 8, in bytes: 4 times a signed number of 24 bits
unfoldable pub branch_operand : ℕ → List ℕ
branch_operand imm24 =
    let forward : Bool = nat_lt imm24 (2 ^ 23) in offset forward (4 * (if forward then imm24 else 2 ^ 24 - imm24))

abbrev pub operands_of : Op → List (List ℕ)
operands_of (Data op s n d arg) = map register_name (data_registers op n d) ++ arg_operands arg
operands_of (Mul s d s2 m) = map register_name (d ∷ m ∷ s2 ∷ [])
operands_of (Mla s d n s2 m) = map register_name (d ∷ m ∷ s2 ∷ n ∷ [])
operands_of (Long kind s hi lo s2 m) = map register_name (lo ∷ hi ∷ m ∷ s2 ∷ [])
operands_of (Clz d m) = map register_name (d ∷ m ∷ [])
operands_of (Movw d imm16) = register_name d ∷ immediate imm16 ∷ []
operands_of (Movt d imm16) = register_name d ∷ immediate imm16 ∷ []
operands_of Nop = []
operands_of (Mem load byte p u w n d off) = register_name d ∷ address_operands p w n (mem_off_operands u off)
operands_of (Half kind p u w n d off) = register_name d ∷ address_operands p w n (half_off_operands u off)
operands_of (Multi load p u w n list) = (register_name n ++ where_set w (codes "!")) ∷ list_operand list ∷ []
operands_of (Branch link imm24) = branch_operand imm24 ∷ []
operands_of (Bx m) = register_name m ∷ []
operands_of (Blx m) = register_name m ∷ []
operands_of (Svc imm24) = immediate imm24 ∷ []

-- where a multiple load or store puts its registers: increment or decrement, after or before
abbrev pub mode_name : Bool → Bool → List ℕ
mode_name p u = (if u then codes "i" else codes "d") ++ (if p then codes "b" else codes "a")

-- the mnemonic but for the condition
abbrev pub op_name : Op → List ℕ
op_name (Data op s n d arg) = data_name op ++ where_set (s && not (is_comparison op)) (codes "s")
op_name (Mul s d s2 m) = codes "mul" ++ where_set s (codes "s")
op_name (Mla s d n s2 m) = codes "mla" ++ where_set s (codes "s")
op_name (Long kind s hi lo s2 m) = long_name kind ++ where_set s (codes "s")
op_name (Clz d m) = codes "clz"
op_name (Movw d imm16) = codes "movw"
op_name (Movt d imm16) = codes "movt"
op_name Nop = codes "nop"
op_name (Mem load byte p u w n d off) = (if load then codes "ldr" else codes "str") ++ where_set byte (codes "b")
op_name (Half kind p u w n d off) = half_name kind
op_name (Multi load p u w n list) = (if load then codes "ldm" else codes "stm") ++ mode_name p u
op_name (Branch link imm24) = codes "b" ++ where_set link (codes "l")
op_name (Bx m) = codes "bx"
op_name (Blx m) = codes "blx"
op_name (Svc imm24) = codes "svc"

abbrev pub mnemonic_of : Instr → List ℕ
mnemonic_of i = op_name i.op ++ condition_name i.cond

-- operands behind a space, where there are any
abbrev pub behind_space : List (List ℕ) → List ℕ
behind_space [] = []
behind_space (text ∷ texts) = codes " " ++ parted (text ∷ texts)

unfoldable pub text_of : Instr → List ℕ
text_of i = mnemonic_of i ++ behind_space (operands_of i.op)
