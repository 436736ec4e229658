-- The operands of data operations and branches, as tokens, are read.
use Rattle.std.proofs.Common.{◌≡◌, ℕ, ◌-◌, ◌*◌, ◌/◌, ◌%◌, ◌^◌, ◌<◌, ◌≤◌, Bool, true, false, not, ◌&&◌, List, [], ◌∷◌, ◌++◌, map, refl, sym, ap, ◌∙◌, arith, Some}
use Rattle.std.specs.Prelude.{decimal, if◌then◌else◌, nat_lt, option_map}
use Rattle.std.proofs.lemmas.Bool.{lt-ltb, le-leb, ltb-true, ltb-false}
use Rattle.a32_isa.specs.Fields.{Fit}
use Rattle.a32_isa.specs.Registers.{is_comparison, is_move}
use Rattle.a32_isa.specs.Table.{arg_fields}
use Rattle.a32_isa.specs.declared.instr.Op.TheVariants.{Data, Mul, Mla, Long, Clz, Movw, Movt, Branch, Bx, Blx, Svc}
use Rattle.a32_isa.specs.declared.instr.Arg.{Arg}
use Rattle.a32_isa.specs.declared.instr.Arg.TheVariants.{Imm, ByImm, ByReg}
use Rattle.a32_isa.specs.Immediate.{constant_of, is_lowest}
use Rattle.a32_isa.specs.Text.{data_registers}
use Rattle.a32_text.specs.declared.fitting.FitArg.{FitArg}
use Rattle.a32_text.specs.Token.{Token, Word, Mark, COMMA}
use Rattle.a32_text.specs.Taking.{take_register, take_number, take_next_register, take_immediate, take_pair}
use Rattle.a32_text.specs.Operands.{drafted, with_arg, data_behind, data_operands, branch_by, branch_operands, bx_operands, blx_operands, clz_operands, mul_operands, mla_operands, long_operands, four_operands, wide_operands, movw_operands, movt_operands, svc_by, svc_operands}
use Rattle.a32_text.proofs.Names.{register_read}
use Rattle.a32_text.proofs.Spelling.{decimal_read}
use Rattle.a32_text.proofs.Pieces.{commas, together}
use Rattle.a32_text.proofs.Printed.{register_piece, immediate_piece, arg_pieces, arg_read}

-- ---- data operations

-- the first piece is never empty
comma_first : (arg : Arg) → commas (arg_pieces arg) ≡ Mark COMMA ∷ together (arg_pieces arg)
comma_first (Imm rot imm) = by_lowest rot imm
  where
    two : (a b : List (List Token)) (c : Bool) → commas a ≡ Mark COMMA ∷ together a → commas b ≡ Mark COMMA ∷ together b → commas (if c then a else b) ≡ Mark COMMA ∷ together (if c then a else b)
    two a b true p q = p
    two a b false p q = q

    by_lowest : (rot imm : ℕ) → commas (arg_pieces (Imm rot imm)) ≡ Mark COMMA ∷ together (arg_pieces (Imm rot imm))
    by_lowest rot imm = two (immediate_piece (constant_of rot imm) ∷ []) (immediate_piece imm ∷ (Word (decimal (2 * rot)) ∷ []) ∷ []) (is_lowest (constant_of rot imm) rot) refl refl
comma_first (ByImm imm kind m) = refl
comma_first (ByReg s2 kind m) = refl

with_arg_read : (op : ℕ) (s : Bool) (n d : ℕ) (arg : Arg) → Fit (arg_fields arg) → with_arg op s n d (commas (arg_pieces arg)) ≡ Some (drafted (Data op s n d arg) true)
with_arg_read op s n d arg fit = rw (comma_first arg) (ap (option_map (λ (a : FitArg). drafted (Data op s n d a.arg) a.fits)) (arg_read arg fit))

abbrev pub data_pieces : ℕ → ℕ → ℕ → Arg → List (List Token)
data_pieces op n d arg = map register_piece (data_registers op n d) ++ arg_pieces arg

-- what the rows of comparisons and moves leave out is zero
pub data_read : (op : ℕ) (s : Bool) (n d : ℕ) (arg : Arg) → n < 16 → d < 16 → Fit (arg_fields arg)
    → (is_comparison op ≡ true → (s ≡ true) × (d ≡ 0)) → (is_move op ≡ true → n ≡ 0)
    → data_operands op (s && not (is_comparison op)) (together (data_pieces op n d arg)) ≡ Some (drafted (Data op s n d arg) true)
unfolding data_operands data_behind take_register take_next_register
data_read op s n d arg hn hd fit compares moves = by_kind (is_comparison op) (is_move op) refl refl
  where
    and_true : (b : Bool) → (b && true) ≡ b
    and_true true = refl
    and_true false = refl

    by_kind : (c m : Bool) → is_comparison op ≡ c → is_move op ≡ m
        → data_operands op (s && not (is_comparison op)) (together (map register_piece (if is_comparison op then n ∷ [] else if is_move op then d ∷ [] else d ∷ n ∷ []) ++ arg_pieces arg)) ≡ Some (drafted (Data op s n d arg) true)
    by_kind true m ec em =
        let p = compares ec in
        rw (ec, register_read n hn) (with_arg_read op true n 0 arg fit ∙ ap (λ set. Some (drafted (Data op set n 0 arg) true)) (sym p.0) ∙ ap (λ r. Some (drafted (Data op s n r arg) true)) (sym p.1))
    by_kind false true ec em =
        let p = moves em in
        rw (ec, em, register_read d hd) (with_arg_read op (s && true) 0 d arg fit ∙ ap (λ set. Some (drafted (Data op set 0 d arg) true)) (and_true s) ∙ ap (λ r. Some (drafted (Data op s r d arg) true)) (sym p))
    by_kind false false ec em =
        rw (ec, em, register_read d hd, register_read n hn) (with_arg_read op (s && true) n d arg fit ∙ ap (λ set. Some (drafted (Data op set n d arg) true)) (and_true s))

-- ---- registers alone

pub bx_read : (m : ℕ) → m < 16 → bx_operands (together (map register_piece (m ∷ []))) ≡ Some (drafted (Bx m) true)
unfolding take_register
bx_read m h = rw (register_read m h) refl

pub blx_read : (m : ℕ) → m < 16 → blx_operands (together (map register_piece (m ∷ []))) ≡ Some (drafted (Blx m) true)
unfolding take_register
blx_read m h = rw (register_read m h) refl

pub clz_read : (d m : ℕ) → d < 16 → m < 16 → clz_operands (together (map register_piece (d ∷ m ∷ []))) ≡ Some (drafted (Clz d m) true)
unfolding clz_operands take_pair take_next_register take_register
clz_read d m hd hm = rw (register_read d hd, register_read m hm) refl

pub mul_read : (s : Bool) (d s2 m : ℕ) → d < 16 → s2 < 16 → m < 16 → mul_operands s (together (map register_piece (d ∷ m ∷ s2 ∷ []))) ≡ Some (drafted (Mul s d s2 m) true)
unfolding mul_operands take_pair take_next_register take_register
mul_read s d s2 m hd hs hm = rw (register_read d hd, register_read m hm, register_read s2 hs) refl

pub mla_read : (s : Bool) (d n s2 m : ℕ) → d < 16 → n < 16 → s2 < 16 → m < 16 → mla_operands s (together (map register_piece (d ∷ m ∷ s2 ∷ n ∷ []))) ≡ Some (drafted (Mla s d n s2 m) true)
unfolding mla_operands four_operands take_pair take_next_register take_register
mla_read s d n s2 m hd hn hs hm = rw (register_read d hd, register_read m hm, register_read s2 hs, register_read n hn) refl

pub long_read : (kind : ℕ) (s : Bool) (hi lo s2 m : ℕ) → hi < 16 → lo < 16 → s2 < 16 → m < 16
    → long_operands kind s (together (map register_piece (lo ∷ hi ∷ m ∷ s2 ∷ []))) ≡ Some (drafted (Long kind s hi lo s2 m) true)
unfolding long_operands four_operands take_pair take_next_register take_register
long_read kind s hi lo s2 m hh hl hs hm = rw (register_read lo hl, register_read hi hh, register_read m hm, register_read s2 hs) refl

-- ---- immediates alone

abbrev pub wide_pieces : ℕ → ℕ → List (List Token)
wide_pieces d imm16 = register_piece d ∷ immediate_piece imm16 ∷ []

pub movw_read : (d imm16 : ℕ) → d < 16 → imm16 < 2 ^ 16 → movw_operands (together (wide_pieces d imm16)) ≡ Some (drafted (Movw d imm16) true)
unfolding wide_operands take_immediate take_number take_register
movw_read d imm16 hd hi = rw (register_read d hd, decimal_read imm16 (omega arith), lt-ltb imm16 (2 ^ 16) hi) refl

pub movt_read : (d imm16 : ℕ) → d < 16 → imm16 < 2 ^ 16 → movt_operands (together (wide_pieces d imm16)) ≡ Some (drafted (Movt d imm16) true)
unfolding wide_operands take_immediate take_number take_register
movt_read d imm16 hd hi = rw (register_read d hd, decimal_read imm16 (omega arith), lt-ltb imm16 (2 ^ 16) hi) refl

pub svc_read : (imm24 : ℕ) → imm24 < 2 ^ 24 → svc_operands (together (immediate_piece imm24 ∷ [])) ≡ Some (drafted (Svc imm24) true)
unfolding take_immediate take_number svc_by
svc_read imm24 h = rw (decimal_read imm24 (omega arith), lt-ltb imm24 (2 ^ 24) h) refl

abbrev pub minus : Bool → List Token → List Token
minus true tokens = tokens
minus false tokens = Mark 0x2d ∷ tokens

-- ---- branches

abbrev pub branch_pieces : ℕ → List (List Token)
branch_pieces imm24 =
    let forward : Bool = nat_lt imm24 (2 ^ 23) in (Mark 0x23 ∷ minus forward (Word (decimal (4 * (if forward then imm24 else 2 ^ 24 - imm24))) ∷ [])) ∷ []

pub branch_read : (link : Bool) (imm24 : ℕ) → imm24 < 2 ^ 24 → branch_operands link (together (branch_pieces imm24)) ≡ Some (drafted (Branch link imm24) true)
unfolding branch_operands take_number branch_by
branch_read link imm24 h = by_way (nat_lt imm24 (2 ^ 23)) refl
  where
    by_way : (b : Bool) → nat_lt imm24 (2 ^ 23) ≡ b → branch_operands link (together ((Mark 0x23 ∷ minus b (Word (decimal (4 * (if b then imm24 else 2 ^ 24 - imm24))) ∷ [])) ∷ [])) ≡ Some (drafted (Branch link imm24) true)
    by_way true e =
        let below : imm24 < 2 ^ 23 = ltb-true imm24 (2 ^ 23) e in
        let multiple : 4 * imm24 % 4 ≡ 0 = omega arith in
        let quarter : 4 * imm24 / 4 ≡ imm24 = omega arith in
        rw (decimal_read (4 * imm24) (omega arith), multiple, lt-ltb (4 * imm24) (2 ^ 25) (omega arith), quarter) refl
    by_way false e =
        let above : 2 ^ 23 ≤ imm24 = ltb-false imm24 (2 ^ 23) e in
        let multiple : 4 * (2 ^ 24 - imm24) % 4 ≡ 0 = omega arith in
        let back : (2 ^ 24 - 4 * (2 ^ 24 - imm24) / 4) % 2 ^ 24 ≡ imm24 = omega arith in
        rw (decimal_read (4 * (2 ^ 24 - imm24)) (omega arith), multiple, le-leb (4 * (2 ^ 24 - imm24)) (2 ^ 25) (omega arith), back) refl
