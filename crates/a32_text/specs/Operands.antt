-- The operands of each kind of instruction (Arm ARM, DDI 0406C, A8.8), which is then an operation with 0 in the place
-- of each number that doesn't fit.
use Rattle.std.specs.Prelude.{ℕ, ◌-◌, ◌/◌, ◌%◌, ◌^◌, Bool, true, false, not, ◌&&◌, ◌==◌, nat_le, nat_lt, List, [], ◌∷◌, Option, Some, None, option_map, option_and_then, if◌then◌else◌}
use Rattle.std.specs.Option.{option_map_or}
use Rattle.a32_isa.specs.Registers.{is_comparison, is_move}
use Rattle.a32_isa.specs.declared.instr.Op.{Op}
use Rattle.a32_isa.specs.declared.instr.Op.TheVariants.{Data, Mul, Mla, Long, Clz, Movw, Movt, Nop, Mem, Half, Multi, Branch, Bx, Blx, Svc}
use Rattle.a32_text.specs.declared.head.Head.{Head}
use Rattle.a32_text.specs.declared.head.Head.TheVariants as heads
use Rattle.a32_text.specs.declared.fitting.Draft.{Draft}
use Rattle.a32_text.specs.declared.fitting.FitArg.{FitArg}
use Rattle.a32_text.specs.declared.fitting.FitWide.{FitWide}
use Rattle.a32_text.specs.declared.fitting.Address.{Address}
use Rattle.a32_text.specs.Token.{Token, COMMA}
use Rattle.a32_text.specs.Taking.{Taken, followed, ended, behind_mark, take_register, take_number, take_next_register, take_immediate, take_pair}
use Rattle.a32_text.specs.Arg.{take_arg}
use Rattle.a32_text.specs.Address.{take_address, take_writeback, fit_mem_off, fit_half_off}
use Rattle.a32_text.specs.List.{take_list}

-- the operand behind a comma, and then nothing
abbrev pub last_behind_comma : {X : Type 0} → (List Token → Taken X) → List Token → Option X
last_behind_comma take tokens = ended (option_and_then take (behind_mark COMMA tokens))

abbrev pub drafted : Op → Bool → Draft
drafted op fits = record { op = op; fits = fits }

abbrev pub data_draft : ℕ → Bool → ℕ → ℕ → FitArg → Draft
data_draft op s n d arg = drafted (Data op s n d arg.arg) arg.fits

-- the last operand of a data operation on these registers
abbrev pub with_arg : ℕ → Bool → ℕ → ℕ → List Token → Option Draft
with_arg op s n d tokens = option_map (data_draft op s n d) (last_behind_comma take_arg tokens)

-- the operands behind the first register
unfoldable pub data_behind : ℕ → Bool → ℕ → List Token → Option Draft
data_behind op s r tokens =
    if is_comparison op then with_arg op true r 0 tokens
    else if is_move op then with_arg op s 0 r tokens
    else option_and_then (λ (taken : ℕ × List Token). with_arg op s taken.0 r taken.1) (take_next_register tokens)

unfoldable pub data_operands : ℕ → Bool → List Token → Option Draft
data_operands op s tokens = option_and_then (λ (taken : ℕ × List Token). data_behind op s taken.0 taken.1) (take_register tokens)

abbrev pub mem_draft : Bool → Bool → ℕ → Address → Draft
mem_draft load byte d at = drafted (Mem load byte at.p at.up at.w at.n d (fit_mem_off at.off).off) (fit_mem_off at.off).fits

unfoldable pub mem_operands : Bool → Bool → List Token → Option Draft
mem_operands load byte tokens =
    option_and_then (λ (taken : ℕ × List Token). option_map (mem_draft load byte taken.0) (last_behind_comma take_address taken.1)) (take_register tokens)

abbrev pub half_draft : ℕ → ℕ → Address → Option Draft
half_draft kind d at = option_map (λ by. drafted (Half kind at.p at.up at.w at.n d by.off) by.fits) (fit_half_off at.off)

unfoldable pub half_operands : ℕ → List Token → Option Draft
half_operands kind tokens =
    option_and_then (λ (taken : ℕ × List Token). option_and_then (half_draft kind taken.0) (last_behind_comma take_address taken.1)) (take_register tokens)

abbrev pub multi_draft : Bool → Bool → Bool → Bool → ℕ → ℕ → Draft
multi_draft load p u w n list = drafted (Multi load p u w n list) true

-- the base of a multiple load or store and whether it is written back
unfoldable pub take_base : List Token → Taken (ℕ × Bool)
take_base tokens = followed (take_register tokens) (λ n rest. followed (take_writeback rest) (λ w last. Some ((n, w), last)))

unfoldable pub multi_operands : Bool → Bool → Bool → List Token → Option Draft
multi_operands load p u tokens =
    option_and_then (λ (taken : (ℕ × Bool) × List Token). option_map (multi_draft load p u taken.0.1 taken.0.0) (last_behind_comma take_list taken.1)) (take_base tokens)

-- push is stmdb sp!, pop is ldmia sp!
unfoldable pub stack_operands : Bool → List Token → Option Draft
stack_operands load tokens = option_map (multi_draft load (not load) load true 13) (ended (take_list tokens))

-- how far a branch goes: a multiple of 4 from -2^25 to 2^25 - 4
unfoldable pub branch_by : Bool → Bool → ℕ → Draft
branch_by link back n =
    if (n % 4 == 0) && (if back then nat_le n (2 ^ 25) else nat_lt n (2 ^ 25))
    then drafted (Branch link (if back then (2 ^ 24 - n / 4) % 2 ^ 24 else n / 4)) true
    else drafted (Branch link 0) false

abbrev pub branch_number : Bool → Bool → List Token → Option Draft
branch_number link back tokens = option_map (branch_by link back) (ended (take_number tokens))

unfoldable pub branch_operands : Bool → List Token → Option Draft
branch_operands link tokens =
    option_and_then (λ (behind : List Token). option_map_or (branch_number link true) (behind_mark 0x2d behind) (branch_number link false behind))
    (behind_mark 0x23 tokens)

-- ---- registers alone

abbrev pub bx_operands : List Token → Option Draft
bx_operands tokens = option_map (λ m. drafted (Bx m) true) (ended (take_register tokens))

abbrev pub blx_operands : List Token → Option Draft
blx_operands tokens = option_map (λ m. drafted (Blx m) true) (ended (take_register tokens))

unfoldable pub clz_operands : List Token → Option Draft
clz_operands tokens = option_map (λ (both : ℕ × ℕ). drafted (Clz both.0 both.1) true) (ended (take_pair tokens))

-- d, m, s2
unfoldable pub mul_operands : Bool → List Token → Option Draft
mul_operands s tokens =
    option_and_then (λ (taken : (ℕ × ℕ) × List Token). option_map (λ s2. drafted (Mul s taken.0.0 s2 taken.0.1) true) (last_behind_comma take_register taken.1)) (take_pair tokens)

unfoldable pub four_operands : List Token → Option ((ℕ × ℕ) × (ℕ × ℕ))
four_operands tokens =
    option_and_then (λ (taken : (ℕ × ℕ) × List Token). option_map (λ (both : ℕ × ℕ). (taken.0, both)) (last_behind_comma take_pair taken.1)) (take_pair tokens)

-- d, m, s2, n
unfoldable pub mla_operands : Bool → List Token → Option Draft
mla_operands s tokens = option_map (λ (four : (ℕ × ℕ) × (ℕ × ℕ)). drafted (Mla s four.0.0 four.1.1 four.1.0 four.0.1) true) (four_operands tokens)

-- lo, hi, m, s2
unfoldable pub long_operands : ℕ → Bool → List Token → Option Draft
long_operands kind s tokens = option_map (λ (four : (ℕ × ℕ) × (ℕ × ℕ)). drafted (Long kind s four.0.1 four.0.0 four.1.1 four.1.0) true) (four_operands tokens)

-- ---- immediates alone

abbrev pub wide_by : ℕ → ℕ → FitWide
wide_by d n = record { d = d; imm16 = if nat_lt n (2 ^ 16) then n else 0; fits = nat_lt n (2 ^ 16) }

-- a register and an immediate of 16 bits
unfoldable pub wide_operands : List Token → Option FitWide
wide_operands tokens =
    option_and_then (λ (taken : ℕ × List Token). option_map (wide_by taken.0) (last_behind_comma take_immediate taken.1)) (take_register tokens)

abbrev pub movw_operands : List Token → Option Draft
movw_operands tokens = option_map (λ wide. drafted (Movw wide.d wide.imm16) wide.fits) (wide_operands tokens)

abbrev pub movt_operands : List Token → Option Draft
movt_operands tokens = option_map (λ wide. drafted (Movt wide.d wide.imm16) wide.fits) (wide_operands tokens)

unfoldable pub svc_by : ℕ → Draft
svc_by n = drafted (Svc (if nat_lt n (2 ^ 24) then n else 0)) (nat_lt n (2 ^ 24))

abbrev pub svc_operands : List Token → Option Draft
svc_operands tokens = option_map svc_by (ended (take_immediate tokens))

abbrev pub nop_operands : List Token → Option Draft
nop_operands [] = Some (drafted Nop true)
nop_operands (token ∷ tokens) = None

-- the operands of a mnemonic
unfoldable pub operands_of : Head → List Token → Option Draft
operands_of (heads.Data op s) tokens = data_operands op s tokens
operands_of (heads.Mul s) tokens = mul_operands s tokens
operands_of (heads.Mla s) tokens = mla_operands s tokens
operands_of (heads.Long kind s) tokens = long_operands kind s tokens
operands_of heads.Clz tokens = clz_operands tokens
operands_of heads.Movw tokens = movw_operands tokens
operands_of heads.Movt tokens = movt_operands tokens
operands_of heads.Nop tokens = nop_operands tokens
operands_of (heads.Mem load byte) tokens = mem_operands load byte tokens
operands_of (heads.Half kind) tokens = half_operands kind tokens
operands_of (heads.Multi load p u) tokens = multi_operands load p u tokens
operands_of (heads.Stack load) tokens = stack_operands load tokens
operands_of (heads.Branch link) tokens = branch_operands link tokens
operands_of heads.Bx tokens = bx_operands tokens
operands_of heads.Blx tokens = blx_operands tokens
operands_of heads.Svc tokens = svc_operands tokens
