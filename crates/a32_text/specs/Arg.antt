-- Shifts, and the last operand of a data operation (Arm ARM, DDI 0406C, A5.2.4, A8.4). In the place of a number that
-- doesn't fit stands 0.
use Rattle.std.specs.Prelude.{ℕ, ◌*◌, ◌/◌, ◌%◌, true, false, ◌&&◌, ◌==◌, nat_le, nat_lt, is_some, List, codes, find, Option, Some, None, option_and_then, unwrap_or, if◌then◌else◌}
use Rattle.std.specs.Option.{option_map_or}
use Rattle.std.specs.Int.{w32, rotate_left}
use Rattle.std.specs.List.{range_with_len}
use Rattle.std.specs.Str.{bytes_eq}
use Rattle.a32_isa.specs.Immediate.{gives}
use Rattle.a32_isa.specs.declared.instr.Arg.TheVariants.{Imm, ByImm, ByReg}
use Rattle.a32_text.specs.declared.fitting.FitArg.{FitArg}
use Rattle.a32_text.specs.declared.fitting.FitShift.{FitShift}
use Rattle.a32_text.specs.Token.{Token, COMMA}
use Rattle.a32_text.specs.Word.{shift_of}
use Rattle.a32_text.specs.Taking.{Taken, followed, behind_mark, behind_gap, take_word, take_register, take_number, take_immediate}

-- ---- shifts

-- the field of a shift by a number: lsl 0 to 31, lsr and asr 1 to 32, ror 1 to 31
unfoldable pub shift_field : ℕ → ℕ → Option ℕ
shift_field kind n =
    if kind == 0 then (if nat_lt n 32 then Some n else None)
    else if kind == 3 then (if nat_le 1 n && nat_lt n 32 then Some n else None)
    else (if nat_le 1 n && nat_le n 32 then Some (n % 32) else None)

abbrev pub shift_by : ℕ → ℕ → FitShift
shift_by kind n = record { imm = unwrap_or (shift_field kind n) 0; kind = kind; fits = is_some (shift_field kind n) }

-- rrx is ror by 0
abbrev pub rrx : FitShift
rrx = record { imm = 0; kind = 3; fits = true }

abbrev pub no_shift : FitShift
no_shift = record { imm = 0; kind = 0; fits = true }

-- the number of a shift of this kind
unfoldable pub take_amount : ℕ → List Token → Taken FitShift
take_amount kind tokens = followed (take_immediate tokens) (λ n rest. Some (shift_by kind n, rest))

-- the shift that a word begins
unfoldable pub take_shift_by : List ℕ → List Token → Taken FitShift
take_shift_by word tokens =
    if bytes_eq word (codes "rrx") then Some (rrx, tokens)
    else option_and_then (λ kind. option_and_then (take_amount kind) (behind_gap tokens)) (shift_of word)

-- a shift
unfoldable pub take_shift : List Token → Taken FitShift
take_shift tokens = followed (take_word tokens) take_shift_by

-- ---- the last operand of a data operation

-- the lowest rotation that gives a number
unfoldable pub rotation_of : ℕ → Option ℕ
rotation_of n = find (gives n) (range_with_len 0 16)

unfoldable pub constant_arg : ℕ → FitArg
constant_arg n =
    option_map_or (λ rot. record { arg = Imm rot (rotate_left w32 n (2 * rot)); fits = true })
    (rotation_of n) (record { arg = Imm 0 0; fits = false })

-- a byte and twice its rotation
unfoldable pub rotated_arg : ℕ → ℕ → FitArg
rotated_arg n turn =
    if nat_lt n 256 && (nat_le turn 30 && (turn % 2 == 0)) then record { arg = Imm (turn / 2) n; fits = true }
    else record { arg = Imm 0 0; fits = false }

unfoldable pub take_constant : List Token → Taken FitArg
take_constant tokens =
    followed (take_number tokens) (λ n rest.
    option_map_or (λ behind. followed (take_number behind) (λ turn last. Some (rotated_arg n turn, last)))
    (behind_mark COMMA rest) (Some (constant_arg n, rest)))

abbrev pub arg_by : ℕ → FitShift → FitArg
arg_by m shift = record { arg = ByImm shift.imm shift.kind m; fits = shift.fits }

abbrev pub arg_by_register : ℕ → ℕ → ℕ → FitArg
arg_by_register m kind s2 = record { arg = ByReg s2 kind m; fits = true }

-- what m is shifted by, in this kind of shift: a number or a register
unfoldable pub take_arg_amount : ℕ → ℕ → List Token → Taken FitArg
take_arg_amount m kind tokens =
    option_map_or (λ behind. followed (take_number behind) (λ n rest. Some (arg_by m (shift_by kind n), rest)))
    (behind_mark 0x23 tokens) (followed (take_register tokens) (λ s2 rest. Some (arg_by_register m kind s2, rest)))

unfoldable pub take_arg_shift_by : ℕ → List ℕ → List Token → Taken FitArg
take_arg_shift_by m word tokens =
    if bytes_eq word (codes "rrx") then Some (arg_by m rrx, tokens)
    else option_and_then (λ kind. option_and_then (take_arg_amount m kind) (behind_gap tokens)) (shift_of word)

unfoldable pub take_arg_shift : ℕ → List Token → Taken FitArg
take_arg_shift m tokens =
    option_map_or (λ behind. followed (take_word behind) (take_arg_shift_by m)) (behind_mark COMMA tokens) (Some (arg_by m no_shift, tokens))

unfoldable pub take_arg : List Token → Taken FitArg
take_arg tokens = option_map_or take_constant (behind_mark 0x23 tokens) (followed (take_register tokens) take_arg_shift)
