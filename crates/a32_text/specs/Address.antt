-- Addresses (Arm ARM, DDI 0406C, A8.5): a base register, and an offset that is added or, behind a minus sign, taken
-- away. In the place of a number that doesn't fit stands 0.
use Rattle.std.specs.Prelude.{ℕ, ◌<◌, Bool, true, false, nat_lt, List, Option, Some, None, option_and_then, if◌then◌else◌}
use Rattle.std.specs.Option.{option_map_or}
use Rattle.a32_isa.specs.declared.instr.MemOff.TheVariants as mem
use Rattle.a32_isa.specs.declared.instr.HalfOff.TheVariants as half
use Rattle.a32_text.specs.declared.fitting.Off.{Off}
use Rattle.a32_text.specs.declared.fitting.Off.TheVariants.{Number, Register, Shifted}
use Rattle.a32_text.specs.declared.fitting.SignedOff.{SignedOff}
use Rattle.a32_text.specs.declared.fitting.Address.{Address}
use Rattle.a32_text.specs.declared.fitting.FitMemOff.{FitMemOff}
use Rattle.a32_text.specs.declared.fitting.FitHalfOff.{FitHalfOff}
use Rattle.a32_text.specs.Token.{Token, COMMA}
use Rattle.a32_text.specs.Taking.{Taken, followed, behind_mark, take_register, take_number}
use Rattle.a32_text.specs.Arg.{take_shift}

abbrev pub signed_off : Bool → Off → SignedOff
signed_off up off = record { up = up; off = off }

unfoldable pub take_number_off : Bool → List Token → Taken SignedOff
take_number_off up tokens = followed (take_number tokens) (λ n rest. Some (signed_off up (Number n), rest))

-- behind a register: a shift, where a comma follows
unfoldable pub take_off_shift : Bool → ℕ → List Token → Taken SignedOff
take_off_shift up m tokens =
    option_map_or (λ behind. followed (take_shift behind) (λ by rest. Some (signed_off up (Shifted m by), rest)))
    (behind_mark COMMA tokens) (Some (signed_off up (Register m), tokens))

unfoldable pub take_register_off : Bool → List Token → Taken SignedOff
take_register_off up tokens = followed (take_register tokens) (take_off_shift up)

-- what a minus sign tells of what follows it
abbrev pub signed : (Bool → List Token → Taken SignedOff) → List Token → Taken SignedOff
signed take tokens = option_map_or (take false) (behind_mark 0x2d tokens) (take true tokens)

unfoldable pub take_off : List Token → Taken SignedOff
take_off tokens = option_map_or (signed take_number_off) (behind_mark 0x23 tokens) (signed take_register_off tokens)

-- whether `!` stands first
abbrev pub take_writeback : List Token → Taken Bool
take_writeback tokens = option_map_or (λ rest. Some (true, rest)) (behind_mark 0x21 tokens) (Some (false, tokens))

abbrev pub address : Bool → Bool → ℕ → SignedOff → Address
address p w n off = record { p = p; up = off.up; w = w; n = n; off = off.off }

-- the offset `#0`
abbrev pub no_offset : SignedOff
no_offset = signed_off true (Number 0)

-- behind the bracket that closes: an offset that is added afterwards, or `!`, or nothing
unfoldable pub take_behind_base : ℕ → List Token → Taken Address
take_behind_base n tokens =
    option_map_or (λ behind. followed (take_off behind) (λ off rest. Some (address false false n off, rest)))
    (behind_mark COMMA tokens)
    (followed (take_writeback tokens) (λ w rest. Some (address true w n no_offset, rest)))

-- an offset in the brackets
unfoldable pub take_inner : ℕ → List Token → Taken Address
take_inner n tokens =
    option_and_then (λ behind.
    followed (take_off behind) (λ off rest.
    option_and_then (λ closed. followed (take_writeback closed) (λ w last. Some (address true w n off, last)))
    (behind_mark 0x5d rest)))
    (behind_mark COMMA tokens)

unfoldable pub take_address : List Token → Taken Address
take_address tokens =
    option_and_then (λ opened.
    followed (take_register opened) (λ n rest. option_map_or (take_behind_base n) (behind_mark 0x5d rest) (take_inner n rest)))
    (behind_mark 0x5b tokens)

-- ---- the offset of an instruction

abbrev pub fit_mem_off : Off → FitMemOff
fit_mem_off (Number n) = record { off = mem.Imm (if nat_lt n 4096 then n else 0); fits = nat_lt n 4096 }
fit_mem_off (Register m) = record { off = mem.Reg 0 0 m; fits = true }
fit_mem_off (Shifted m by) = record { off = mem.Reg by.imm by.kind m; fits = by.fits }

-- halfwords and signed bytes shift no offset
abbrev pub fit_half_off : Off → Option FitHalfOff
fit_half_off (Number n) = Some (record { off = half.Imm (if nat_lt n 256 then n else 0); fits = nat_lt n 256 })
fit_half_off (Register m) = Some (record { off = half.Reg m; fits = true })
fit_half_off (Shifted m by) = None

-- an offset whose registers and shift are some
abbrev pub IsOff : Off → Type 0
IsOff (Number n) = Unit {0}
IsOff (Register m) = m < 16
IsOff (Shifted m by) = (m < 16) × (by.imm < 32) × (by.kind < 4)
