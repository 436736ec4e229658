-- The operands of loads and stores, as tokens, are read.
use Rattle.std.proofs.Common.{◌≡◌, ℕ, ◌^◌, ◌<◌, zero, suc, Bool, true, false, ◌&&◌, List, [], ◌∷◌, ◌++◌, refl, ap, ◌∙◌, arith, Some, None, append-nil}
use Rattle.std.specs.Prelude.{codes, decimal, ◌==◌, if◌then◌else◌, option_map, option_and_then}
use Rattle.std.proofs.lemmas.Bool.{lt-ltb, false≢true}
use Rattle.a32_isa.specs.Fields.{Fit}
use Rattle.a32_isa.specs.Table.{mem_off_fields, half_high, half_low}
use Rattle.a32_isa.specs.declared.instr.Op.TheVariants.{Mem, Half}
use Rattle.a32_isa.specs.declared.instr.MemOff.{MemOff}
use Rattle.a32_isa.specs.declared.instr.MemOff.TheVariants as mem
use Rattle.a32_isa.specs.declared.instr.HalfOff.{HalfOff}
use Rattle.a32_isa.specs.declared.instr.HalfOff.TheVariants as half
use Rattle.a32_isa.specs.Names.{register_name, shift_name}
use Rattle.a32_text.specs.declared.fitting.Off.{Off}
use Rattle.a32_text.specs.declared.fitting.Off.TheVariants.{Number, Register, Shifted}
use Rattle.a32_text.specs.declared.fitting.Address.{Address}
use Rattle.a32_text.specs.declared.fitting.FitMemOff.{FitMemOff}
use Rattle.a32_text.specs.declared.fitting.FitHalfOff.{FitHalfOff}
use Rattle.a32_text.specs.Token.{Token, Word, Mark, Gap, COMMA}
use Rattle.a32_text.specs.Taking.{ended, behind_mark, take_register, take_number, take_immediate}
use Rattle.a32_text.specs.Arg.{take_amount, take_shift_by, take_shift}
use Rattle.a32_text.specs.Address.{signed_off, take_number_off, take_off_shift, take_register_off, take_off, take_behind_base, take_inner, take_address, fit_mem_off, fit_half_off}
use Rattle.a32_text.specs.Operands.{drafted, mem_draft, mem_operands, half_draft, half_operands}
use Rattle.a32_text.proofs.Names.{register_read, shift_read}
use Rattle.a32_text.proofs.Spelling.{decimal_read}
use Rattle.a32_text.proofs.Pieces.{commas, together}
use Rattle.a32_text.proofs.Printed.{register_piece, immediate_piece, shift_pieces, fit_shift, no_rrx, written, small, not_zero}
use Rattle.a32_text.proofs.Rows.{minus}

-- ---- offsets

off_shift_read : (up : Bool) (m imm kind : ℕ) (none rotates : Bool) (last : List Token) → imm < 32 → kind < 4 → ((imm == 0) && (kind == 0)) ≡ none → ((imm == 0) && (kind == 3)) ≡ rotates → behind_mark COMMA last ≡ None
    → take_off_shift up m (commas (if none then [] else if rotates then (Word (codes "rrx") ∷ []) ∷ [] else (Word (shift_name kind) ∷ Gap ∷ immediate_piece (if imm == 0 then 32 else imm)) ∷ []) ++ last)
    ≡ Some (signed_off up (if none then Register m else Shifted m (fit_shift imm kind)), last)
unfolding take_off_shift take_shift take_shift_by take_amount take_immediate take_number
off_shift_read up m imm kind true rotates last i k a b e = rw e refl
off_shift_read up m zero (suc (suc (suc zero))) false true last i k a b e = refl
off_shift_read up m zero zero false true last i k a b e = absurd cc
off_shift_read up m zero (suc zero) false true last i k a b e = absurd cc
off_shift_read up m zero (suc (suc zero)) false true last i k a b e = absurd cc
off_shift_read up m zero (suc (suc (suc (suc kind)))) false true last i k a b e = absurd (omega arith)
off_shift_read up m (suc imm) kind false true last i k a b e = absurd (false≢true (rw (not_zero imm) at b))
off_shift_read up m imm kind false false last i k a b e =
    rw (no_rrx kind k, shift_read kind k, decimal_read (if imm == 0 then 32 else imm) (small imm i)) (ap (λ shift. Some (signed_off up (Shifted m shift), last)) (written imm kind i k a b))

number_off_read : (u : Bool) (n : ℕ) (last : List Token) → n < 2 ^ 32 → take_off (Mark 0x23 ∷ (minus u (Word (decimal n) ∷ []) ++ last)) ≡ Some (signed_off u (Number n), last)
unfolding take_off take_number_off take_number
number_off_read true n last h = rw (decimal_read n h) refl
number_off_read false n last h = rw (decimal_read n h) refl

abbrev pub number_pieces : Bool → ℕ → List (List Token)
number_pieces u n = (Mark 0x23 ∷ minus u (Word (decimal n) ∷ [])) ∷ []

abbrev pub off_pieces : Bool → MemOff → List (List Token)
off_pieces u (mem.Imm off) = number_pieces u off
off_pieces u (mem.Reg imm kind m) = minus u (register_piece m) ∷ shift_pieces imm kind

abbrev pub half_pieces : Bool → HalfOff → List (List Token)
half_pieces u (half.Imm off) = number_pieces u off
half_pieces u (half.Reg m) = minus u (register_piece m) ∷ []

-- the offset as it is written
abbrev pub mem_raw : MemOff → Off
mem_raw (mem.Imm off) = Number off
mem_raw (mem.Reg imm kind m) = if (imm == 0) && (kind == 0) then Register m else Shifted m (fit_shift imm kind)

abbrev pub half_raw : HalfOff → Off
half_raw (half.Imm off) = Number off
half_raw (half.Reg m) = Register m

-- pieces, one at least, that are read as an offset
pub record OffRead (u : Bool) (pieces : List (List Token)) (off : Off) : Type 0 where
  pub comma : commas pieces ≡ Mark COMMA ∷ together pieces
  pub read : (last : List Token) → behind_mark COMMA last ≡ None → take_off (together pieces ++ last) ≡ Some (signed_off u off, last)

pub mem_off_read : (u : Bool) (off : MemOff) → Fit (mem_off_fields off) → OffRead u (off_pieces u off) (mem_raw off)
unfolding take_off take_number_off take_register_off take_number take_register
mem_off_read true (mem.Imm off) fit = record { comma = refl; read = λ last e. rw (decimal_read off (omega (arith, fit.0))) refl }
mem_off_read false (mem.Imm off) fit = record { comma = refl; read = λ last e. rw (decimal_read off (omega (arith, fit.0))) refl }
mem_off_read true (mem.Reg imm kind m) fit =
    record { comma = refl; read = λ last e. rw (register_read m fit.1.1.1.0) (off_shift_read true m imm kind ((imm == 0) && (kind == 0)) ((imm == 0) && (kind == 3)) last fit.0 fit.1.0 refl refl e) }
mem_off_read false (mem.Reg imm kind m) fit =
    record { comma = refl; read = λ last e. rw (register_read m fit.1.1.1.0) (off_shift_read false m imm kind ((imm == 0) && (kind == 0)) ((imm == 0) && (kind == 3)) last fit.0 fit.1.0 refl refl e) }

pub half_off_read : (u : Bool) (off : HalfOff) → half_high off < 16 → half_low off < 16 → OffRead u (half_pieces u off) (half_raw off)
unfolding take_off take_number_off take_register_off take_off_shift take_number take_register
half_off_read true (half.Imm off) hh hl = record { comma = refl; read = λ last e. rw (decimal_read off (omega arith)) refl }
half_off_read false (half.Imm off) hh hl = record { comma = refl; read = λ last e. rw (decimal_read off (omega arith)) refl }
half_off_read true (half.Reg m) hh hl = record { comma = refl; read = λ last e. rw (register_read m hl, e) refl }
half_off_read false (half.Reg m) hh hl = record { comma = refl; read = λ last e. rw (register_read m hl, e) refl }

mem_back : (off : MemOff) → Fit (mem_off_fields off) → fit_mem_off (mem_raw off) ≡ record { off = off; fits = true }
mem_back (mem.Imm off) fit = rw (lt-ltb off 4096 fit.0) refl
mem_back (mem.Reg zero zero m) fit = refl
mem_back (mem.Reg zero (suc kind) m) fit = rw (not_zero kind) refl
mem_back (mem.Reg (suc imm) kind m) fit = rw (not_zero imm) refl

half_back : (off : HalfOff) → half_high off < 16 → half_low off < 16 → fit_half_off (half_raw off) ≡ Some (record { off = off; fits = true })
half_back (half.Imm off) hh hl = rw (lt-ltb off 256 (omega arith)) refl
half_back (half.Reg m) hh hl = refl

-- ---- addresses

abbrev pub closing : Bool → List Token
closing true = Mark 0x5d ∷ Mark 0x21 ∷ []
closing false = Mark 0x5d ∷ []

abbrev pub address_pieces : Bool → Bool → ℕ → List (List Token) → List (List Token)
address_pieces true w n off = (Mark 0x5b ∷ (together (register_piece n ∷ off) ++ closing w)) ∷ []
address_pieces false w n off = (Mark 0x5b ∷ Word (register_name n) ∷ Mark 0x5d ∷ []) ∷ off

abbrev pub address_at : Bool → Bool → Bool → ℕ → Off → Address
address_at p u w n off = record { p = p; up = u; w = w; n = n; off = off }

pub address_read : (p u w : Bool) (n : ℕ) (pieces : List (List Token)) (off : Off) → OffRead u pieces off → n < 16 → (p ≡ false → w ≡ false)
    → ended (take_address (together (address_pieces p w n pieces))) ≡ Some (address_at p u w n off)
unfolding take_address take_register take_inner take_behind_base
address_read true u true n pieces off is hn h =
    ap (λ tokens. ended (take_address tokens)) (append-nil (Mark 0x5b ∷ (together (register_piece n ∷ pieces) ++ closing true)))
    ∙ rw (register_read n hn, is.comma, is.read (Mark 0x5d ∷ Mark 0x21 ∷ []) refl) refl
address_read true u false n pieces off is hn h =
    ap (λ tokens. ended (take_address tokens)) (append-nil (Mark 0x5b ∷ (together (register_piece n ∷ pieces) ++ closing false)))
    ∙ rw (register_read n hn, is.comma, is.read (Mark 0x5d ∷ []) refl) refl
address_read false u w n pieces off is hn h =
    let e = is.read [] refl in
    let e2 = rw append-nil at e in
    rw (register_read n hn, is.comma, e2, h refl) refl

-- ---- whole operands

abbrev pub access_pieces : ℕ → Bool → Bool → ℕ → List (List Token) → List (List Token)
access_pieces d p w n off = register_piece d ∷ address_pieces p w n off

pub mem_read : (load byte p u w : Bool) (n d : ℕ) (off : MemOff) → n < 16 → d < 16 → Fit (mem_off_fields off) → (p ≡ false → w ≡ false)
    → mem_operands load byte (together (access_pieces d p w n (off_pieces u off))) ≡ Some (drafted (Mem load byte p u w n d off) true)
unfolding mem_operands take_register
mem_read load byte true u w n d off hn hd fit h =
    rw (register_read d hd) (ap (option_map (mem_draft load byte d)) (address_read true u w n (off_pieces u off) (mem_raw off) (mem_off_read u off fit) hn h)
    ∙ ap (λ (by : FitMemOff). Some (drafted (Mem load byte true u w n d by.off) by.fits)) (mem_back off fit))
mem_read load byte false u w n d off hn hd fit h =
    rw (register_read d hd) (ap (option_map (mem_draft load byte d)) (address_read false u w n (off_pieces u off) (mem_raw off) (mem_off_read u off fit) hn h)
    ∙ ap (λ (by : FitMemOff). Some (drafted (Mem load byte false u w n d by.off) by.fits)) (mem_back off fit))

pub half_read : (kind : ℕ) (p u w : Bool) (n d : ℕ) (off : HalfOff) → n < 16 → d < 16 → half_high off < 16 → half_low off < 16 → (p ≡ false → w ≡ false)
    → half_operands kind (together (access_pieces d p w n (half_pieces u off))) ≡ Some (drafted (Half kind p u w n d off) true)
unfolding half_operands take_register
half_read kind true u w n d off hn hd hh hl h =
    rw (register_read d hd) (ap (option_and_then (half_draft kind d)) (address_read true u w n (half_pieces u off) (half_raw off) (half_off_read u off hh hl) hn h)
    ∙ ap (option_map (λ (by : FitHalfOff). drafted (Half kind true u w n d by.off) by.fits)) (half_back off hh hl))
half_read kind false u w n d off hn hd hh hl h =
    rw (register_read d hd) (ap (option_and_then (half_draft kind d)) (address_read false u w n (half_pieces u off) (half_raw off) (half_off_read u off hh hl) hn h)
    ∙ ap (option_map (λ (by : FitHalfOff). drafted (Half kind false u w n d by.off) by.fits)) (half_back off hh hl))
