-- Operands that are printed are read again.
use Rattle.std.proofs.Common.{◌≡◌, ℕ, ◌+◌, ◌*◌, ◌/◌, ◌%◌, ◌^◌, ◌<◌, zero, suc, Bool, true, false, not, ◌&&◌, List, [], ◌∷◌, refl, ap, arith, Some, add-zero}
use Rattle.std.specs.Prelude.{codes, decimal, ◌==◌, if◌then◌else◌, find}
use Rattle.std.specs.Str.{bytes_eq}
use Rattle.std.specs.List.{list_all, range_with_len}
use Rattle.std.proofs.lemmas.Bool.{lt-ltb, le-leb, ne_eqb, false≢true, and_parts}
use Rattle.a32_isa.specs.Fields.{Fit}
use Rattle.a32_isa.specs.Table.{arg_fields}
use Rattle.a32_isa.specs.declared.instr.Arg.{Arg}
use Rattle.a32_isa.specs.declared.instr.Arg.TheVariants.{Imm, ByImm, ByReg}
use Rattle.a32_isa.specs.Names.{register_name, shift_name}
use Rattle.a32_isa.specs.Immediate.{constant_of, gives, is_lowest}
use Rattle.a32_text.specs.declared.fitting.FitArg.{FitArg}
use Rattle.a32_text.specs.declared.fitting.FitShift.{FitShift}
use Rattle.a32_text.specs.Token.{Token, Word, Mark, Gap}
use Rattle.a32_text.specs.Taking.{ended, take_register, take_number}
use Rattle.a32_text.specs.Arg.{shift_field, shift_by, rotation_of, constant_arg, rotated_arg, take_constant, arg_by, take_arg_amount, take_arg_shift_by, take_arg_shift, take_arg}
use Rattle.a32_isa.proofs.Immediates.{constant_of-back, gives-exactly, constant_fits}
use Rattle.a32_text.proofs.Cases.{each4}
use Rattle.a32_text.proofs.Names.{register_read, shift_read}
use Rattle.a32_text.proofs.Spelling.{decimal_read}
use Rattle.a32_text.proofs.Pieces.{commas, together}

-- ---- the pieces

abbrev pub register_piece : ℕ → List Token
register_piece r = Word (register_name r) ∷ []

abbrev pub immediate_piece : ℕ → List Token
immediate_piece n = Mark 0x23 ∷ Word (decimal n) ∷ []

abbrev pub shift_pieces : ℕ → ℕ → List (List Token)
shift_pieces imm kind =
    if (imm == 0) && (kind == 0) then []
    else if (imm == 0) && (kind == 3) then (Word (codes "rrx") ∷ []) ∷ []
    else (Word (shift_name kind) ∷ Gap ∷ immediate_piece (if imm == 0 then 32 else imm)) ∷ []

abbrev pub constant_pieces : ℕ → ℕ → List (List Token)
constant_pieces rot imm =
    if is_lowest (constant_of rot imm) rot then immediate_piece (constant_of rot imm) ∷ []
    else immediate_piece imm ∷ (Word (decimal (2 * rot)) ∷ []) ∷ []

abbrev pub arg_pieces : Arg → List (List Token)
arg_pieces (Imm rot imm) = constant_pieces rot imm
arg_pieces (ByImm imm kind m) = register_piece m ∷ shift_pieces imm kind
arg_pieces (ByReg s2 kind m) = register_piece m ∷ (Word (shift_name kind) ∷ Gap ∷ Word (register_name s2) ∷ []) ∷ []

-- ---- shifts

pub no_rrx : (kind : ℕ) → kind < 4 → bytes_eq (shift_name kind) (codes "rrx") ≡ false
unfolding shift_name
no_rrx kind h = each4 (λ k. bytes_eq (shift_name k) (codes "rrx") ≡ false) refl refl refl refl kind h

abbrev pub fit_shift : ℕ → ℕ → FitShift
fit_shift imm kind = record { imm = imm; kind = kind; fits = true }

pub not_zero : (n : ℕ) → (suc n == 0) ≡ false
not_zero n = ne_eqb (suc n) 0 (omega arith)

-- a shift by a number that is written
pub written : (imm kind : ℕ) → imm < 32 → kind < 4 → ((imm == 0) && (kind == 0)) ≡ false → ((imm == 0) && (kind == 3)) ≡ false → shift_by kind (if imm == 0 then 32 else imm) ≡ fit_shift imm kind
unfolding shift_field
written zero zero i k a b = absurd cc
written zero (suc zero) i k a b = refl
written zero (suc (suc zero)) i k a b = refl
written zero (suc (suc (suc zero))) i k a b = absurd cc
written (suc imm) zero i k a b = rw (not_zero imm, lt-ltb (suc imm) 32 i) refl
written (suc imm) (suc zero) i k a b =
    let same : suc imm % 32 ≡ suc imm = omega arith in
    rw (not_zero imm, le-leb 1 (suc imm) (omega arith), le-leb (suc imm) 32 (omega arith), same) refl
written (suc imm) (suc (suc zero)) i k a b =
    let same : suc imm % 32 ≡ suc imm = omega arith in
    rw (not_zero imm, le-leb 1 (suc imm) (omega arith), le-leb (suc imm) 32 (omega arith), same) refl
written (suc imm) (suc (suc (suc zero))) i k a b = rw (not_zero imm, le-leb 1 (suc imm) (omega arith), lt-ltb (suc imm) 32 i) refl
written zero (suc (suc (suc (suc kind)))) i k a b = absurd (omega arith)
written (suc imm) (suc (suc (suc (suc kind)))) i k a b = absurd (omega arith)

pub small : (imm : ℕ) → imm < 32 → (if imm == 0 then 32 else imm) < 2 ^ 32
small zero h = omega arith
small (suc imm) h = rw (not_zero imm) (omega arith)

pub arg_shift_by : (m imm kind : ℕ) (none rotates : Bool) → imm < 32 → kind < 4 → ((imm == 0) && (kind == 0)) ≡ none → ((imm == 0) && (kind == 3)) ≡ rotates
    → ended (take_arg_shift m (commas (if none then [] else if rotates then (Word (codes "rrx") ∷ []) ∷ [] else (Word (shift_name kind) ∷ Gap ∷ immediate_piece (if imm == 0 then 32 else imm)) ∷ [])))
    ≡ Some (arg_by m (fit_shift imm kind))
unfolding take_arg_shift take_arg_shift_by take_arg_amount take_number
arg_shift_by m zero zero true rotates i k a b = refl
arg_shift_by m zero (suc kind) true rotates i k a b = absurd (false≢true (rw (not_zero kind) at a))
arg_shift_by m (suc imm) kind true rotates i k a b = absurd (false≢true (rw (not_zero imm) at a))
arg_shift_by m zero (suc (suc (suc zero))) false true i k a b = refl
arg_shift_by m zero zero false true i k a b = absurd cc
arg_shift_by m zero (suc zero) false true i k a b = absurd cc
arg_shift_by m zero (suc (suc zero)) false true i k a b = absurd cc
arg_shift_by m zero (suc (suc (suc (suc kind)))) false true i k a b = absurd (omega arith)
arg_shift_by m (suc imm) kind false true i k a b = absurd (false≢true (rw (not_zero imm) at b))
arg_shift_by m imm kind false false i k a b =
    rw (no_rrx kind k, shift_read kind k, decimal_read (if imm == 0 then 32 else imm) (small imm i)) (ap (λ shift. Some (arg_by m shift)) (written imm kind i k a b))

-- ---- the last operand of a data operation

abbrev pub fit_arg : Arg → FitArg
fit_arg arg = record { arg = arg; fits = true }

pub by_register_read : (s2 kind m : ℕ) → s2 < 16 → kind < 4 → m < 16 → ended (take_arg (together (arg_pieces (ByReg s2 kind m)))) ≡ Some (fit_arg (ByReg s2 kind m))
unfolding take_arg take_arg_shift take_arg_shift_by take_arg_amount take_register
by_register_read s2 kind m hs hk hm = rw (register_read m hm, no_rrx kind hk, shift_read kind hk, register_read s2 hs) refl

pub by_number_read : (imm kind m : ℕ) → imm < 32 → kind < 4 → m < 16 → ended (take_arg (together (arg_pieces (ByImm imm kind m)))) ≡ Some (fit_arg (ByImm imm kind m))
unfolding take_arg take_register
by_number_read imm kind m hi hk hm = rw (register_read m hm) (arg_shift_by m imm kind ((imm == 0) && (kind == 0)) ((imm == 0) && (kind == 3)) hi hk refl refl)

-- ---- constants

not_first : (p : ℕ → Bool) (a n rot : ℕ) → list_all (λ k. not (p k)) (range_with_len a rot) ≡ true → p (a + rot) ≡ true → rot < n → find p (range_with_len a n) ≡ Some (a + rot)
not_first p a zero rot lower here h = absurd (omega arith)
not_first p a (suc n) zero lower here h = let at : p a ≡ true = rw add-zero at here in rw (at, add-zero) refl
not_first p a (suc n) (suc rot) lower here h =
    let parts = and_parts (not (p a)) (list_all (λ k. not (p k)) (range_with_len (a + 1) rot)) lower in
    let moved : a + suc rot ≡ (a + 1) + rot = omega arith in
    let here2 : p ((a + 1) + rot) ≡ true = rw moved at here in
    rw (is_not (p a) parts.0, moved) (not_first p (a + 1) n rot parts.1 here2 (omega arith))
  where
    is_not : (b : Bool) → not b ≡ true → b ≡ false
    is_not true e = absurd cc
    is_not false e = refl

rotation_read : (rot imm : ℕ) → rot < 16 → imm < 256 → constant_of rot imm < 2 ^ 32 → is_lowest (constant_of rot imm) rot ≡ true → constant_arg (constant_of rot imm) ≡ fit_arg (Imm rot imm)
unfolding constant_arg rotation_of is_lowest
rotation_read rot imm r i w lowest =
    let given : gives (constant_of rot imm) rot ≡ true = (gives-exactly (constant_of rot imm) rot w r).1 (imm, i, refl) in
    let zero_first : 0 + rot ≡ rot = omega arith in
    let found : find (gives (constant_of rot imm)) (range_with_len 0 16) ≡ Some rot = rw zero_first at (not_first (gives (constant_of rot imm)) 0 16 rot lowest (rw zero_first given) r) in
    rw (found, constant_of-back rot imm r i) refl

half_back : (rot : ℕ) → 2 * rot / 2 ≡ rot
half_back rot = omega arith

rotated_read : (rot imm : ℕ) → rot < 16 → imm < 256 → rotated_arg imm (2 * rot) ≡ fit_arg (Imm rot imm)
unfolding rotated_arg
rotated_read rot imm r i =
    let even : 2 * rot % 2 ≡ 0 = omega arith in
    rw (lt-ltb imm 256 i, le-leb (2 * rot) 30 (omega arith), even, half_back rot) refl

pub constant_read : (rot imm : ℕ) → rot < 16 → imm < 256 → ended (take_arg (together (arg_pieces (Imm rot imm)))) ≡ Some (fit_arg (Imm rot imm))
unfolding take_arg take_constant take_number
constant_read rot imm r i = by_lowest (is_lowest (constant_of rot imm) rot) refl
  where
    by_lowest : (b : Bool) → is_lowest (constant_of rot imm) rot ≡ b
        → ended (take_arg (together (if b then immediate_piece (constant_of rot imm) ∷ [] else immediate_piece imm ∷ (Word (decimal (2 * rot)) ∷ []) ∷ []))) ≡ Some (fit_arg (Imm rot imm))
    by_lowest true e = let w = constant_fits rot imm r i in rw (decimal_read (constant_of rot imm) w) (ap Some (rotation_read rot imm r i w e))
    by_lowest false e = rw (decimal_read imm (omega arith), decimal_read (2 * rot) (omega arith)) (ap Some (rotated_read rot imm r i))

pub arg_read : (arg : Arg) → Fit (arg_fields arg) → ended (take_arg (together (arg_pieces arg))) ≡ Some (fit_arg arg)
arg_read (Imm rot imm) fit = constant_read rot imm fit.0 fit.1.0
arg_read (ByImm imm kind m) fit = by_number_read imm kind m fit.0 fit.1.0 fit.1.1.1.0
arg_read (ByReg s2 kind m) fit = by_register_read s2 kind m fit.0 fit.1.1.0 fit.1.1.1.1.0
