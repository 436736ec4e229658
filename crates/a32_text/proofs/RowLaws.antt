-- Data operations, multiplications, immediates and branches that are printed are read again.
use Rattle.std.proofs.Common.{◌≡◌, ℕ, ◌-◌, ◌*◌, ◌/◌, ◌^◌, ◌<◌, Bool, true, false, not, ◌&&◌, ◌||◌, cond, [], ◌∷◌, ◌++◌, map, refl, ap, ◌∙◌, arith, append-nil}
use Rattle.std.specs.Prelude.{codes, decimal, ◌==◌, if◌then◌else◌, nat_lt}
use Rattle.std.proofs.lemmas.Bool.{and_parts, false≢true, eqb-true}
use Rattle.a32_isa.specs.Fields.{Fit}
use Rattle.a32_isa.specs.Registers.{is_comparison, is_move}
use Rattle.a32_isa.specs.Allowed.{is_allowed, is_data_allowed, is_arg_allowed}
use Rattle.a32_isa.specs.Table.{IsInstr, arg_fields}
use Rattle.a32_isa.specs.declared.instr.Op.TheVariants.{Data, Mul, Mla, Long, Clz, Movw, Movt, Nop, Branch, Bx, Blx, Svc}
use Rattle.a32_isa.specs.declared.instr.Arg.{Arg}
use Rattle.a32_isa.specs.Names.{register_name}
use Rattle.a32_isa.specs.Text.{branch_operand, where_set}
use Rattle.a32_text.specs.declared.head.Head.TheVariants as heads
use Rattle.a32_text.specs.Token.{Word, Mark, is_word}
use Rattle.a32_text.specs.Operands.{operands_of}
use Rattle.a32_text.specs.Statement.{named_of}
use Rattle.a32_text.specs.Taking.{take_name}
use Rattle.a32_text.specs.Printed.{IsReadBack}
use Rattle.a32_text.proofs.Scanning.{NoGap, NoWord}
use Rattle.a32_text.proofs.FactorNames.{read_clz, read_movw, read_movt, read_nop}
use Rattle.a32_text.proofs.AccessNames.{read_bx, read_blx, read_svc}
use Rattle.a32_text.proofs.Names.{data_named, mul_named, mla_named, long_named, branch_named}
use Rattle.a32_text.proofs.Spelling.{spell, decimal_word, is_mark}
use Rattle.a32_text.proofs.Pieces.{AllFine}
use Rattle.a32_text.proofs.Printed.{register_piece, immediate_piece}
use Rattle.a32_text.proofs.Rows.{data_pieces, data_read, bx_read, blx_read, clz_read, mul_read, mla_read, long_read, wide_pieces, movw_read, movt_read, svc_read, minus, branch_pieces, branch_read}
use Rattle.a32_text.proofs.Spelt.{register_spelt, registers_spelt, immediate_spelt, data_spelt, data_fine, registers_fine, word_fine, register_word, immediate_fine, hash_mark}
use Rattle.a32_text.proofs.Reading.{read_so}

-- ---- data operations

and_left : (a b : Bool) → (a && b) ≡ true → a ≡ true
and_left a b h = (and_parts a b h).0

rule : (c s z : Bool) → (not c || (s && z)) ≡ true → c ≡ true → (s ≡ true) × (z ≡ true)
rule false s z h e = absurd (false≢true e)
rule true s z h e = and_parts s z h

zero_rule : (m z : Bool) → (not m || z) ≡ true → m ≡ true → z ≡ true
zero_rule false z h e = absurd (false≢true e)
zero_rule true z h e = h

parts : (op : ℕ) (s : Bool) (n d : ℕ) → is_data_allowed op s n d ≡ true → (is_comparison op ≡ true → (s ≡ true) × (d ≡ 0)) × (is_move op ≡ true → n ≡ 0)
parts op s n d h =
    let first = and_parts ((not (is_comparison op) || (s && (d == 0))) && (not (is_move op) || (n == 0))) (not (s && (d == 15))) h in
    let both = and_parts (not (is_comparison op) || (s && (d == 0))) (not (is_move op) || (n == 0)) first.0 in
    (λ c. (let r = rule (is_comparison op) s (d == 0) both.0 c in (r.0, eqb-true d 0 r.1)), λ m. eqb-true n 0 (zero_rule (is_move op) (n == 0) both.1 m))

pub data_law : (cond op : ℕ) (s : Bool) (n d : ℕ) (arg : Arg) → IsInstr (record { cond = cond; op = Data op s n d arg }) → IsReadBack (record { cond = cond; op = Data op s n d arg })
unfolding operands_of named_of
data_law cond op s n d arg is =
    let fit = is.fit in
    let allowed : is_allowed (Data op s n d arg) ≡ true = is.allowed in
    let ruled = (and_parts (is_data_allowed op s n d) (is_arg_allowed n d arg) allowed).0 in
    let hop : op < 16 = fit.1.1.0 in
    let hn : n < 16 = fit.1.1.1.1.0 in
    let hd : d < 16 = fit.1.1.1.1.1.0 in
    let harg : Fit (arg_fields arg) = fit.1.1.1.1.1.1 in
    let rules = parts op s n d ruled in
    read_so (record { cond = cond; op = Data op s n d arg }) (heads.Data op (s && not (is_comparison op))) (data_pieces op n d arg)
    (data_named op s hop) is.cond (data_spelt op n d arg) (data_fine op n d arg hn hd harg) refl
    (data_read op s n d arg hn hd harg rules.0 rules.1) allowed

-- ---- registers alone

pub mul_law : (cond : ℕ) (s : Bool) (d s2 m : ℕ) → IsInstr (record { cond = cond; op = Mul s d s2 m }) → IsReadBack (record { cond = cond; op = Mul s d s2 m })
unfolding operands_of named_of
mul_law cond s d s2 m is =
    let hd : d < 16 = is.fit.1.1.1.1.1.0 in
    let hs : s2 < 16 = is.fit.1.1.1.1.1.1.1.0 in
    let hm : m < 16 = is.fit.1.1.1.1.1.1.1.1.1.1.1.0 in
    read_so (record { cond = cond; op = Mul s d s2 m }) (heads.Mul s) (map register_piece (d ∷ m ∷ s2 ∷ []))
    (mul_named s) is.cond (registers_spelt (d ∷ m ∷ s2 ∷ [])) (registers_fine (d ∷ m ∷ s2 ∷ []) (hd, (hm, (hs, tt)))) refl (mul_read s d s2 m hd hs hm) is.allowed

pub mla_law : (cond : ℕ) (s : Bool) (d n s2 m : ℕ) → IsInstr (record { cond = cond; op = Mla s d n s2 m }) → IsReadBack (record { cond = cond; op = Mla s d n s2 m })
unfolding operands_of named_of
mla_law cond s d n s2 m is =
    let hd : d < 16 = is.fit.1.1.1.1.1.0 in
    let hn : n < 16 = is.fit.1.1.1.1.1.1.0 in
    let hs : s2 < 16 = is.fit.1.1.1.1.1.1.1.0 in
    let hm : m < 16 = is.fit.1.1.1.1.1.1.1.1.1.1.1.0 in
    read_so (record { cond = cond; op = Mla s d n s2 m }) (heads.Mla s) (map register_piece (d ∷ m ∷ s2 ∷ n ∷ []))
    (mla_named s) is.cond (registers_spelt (d ∷ m ∷ s2 ∷ n ∷ [])) (registers_fine (d ∷ m ∷ s2 ∷ n ∷ []) (hd, (hm, (hs, (hn, tt))))) refl (mla_read s d n s2 m hd hn hs hm) is.allowed

pub long_law : (cond kind : ℕ) (s : Bool) (hi lo s2 m : ℕ) → IsInstr (record { cond = cond; op = Long kind s hi lo s2 m }) → IsReadBack (record { cond = cond; op = Long kind s hi lo s2 m })
unfolding operands_of named_of
long_law cond kind s hi lo s2 m is =
    let hk : kind < 4 = is.fit.1.1.1.0 in
    let hh : hi < 16 = is.fit.1.1.1.1.1.0 in
    let hl : lo < 16 = is.fit.1.1.1.1.1.1.0 in
    let hs : s2 < 16 = is.fit.1.1.1.1.1.1.1.0 in
    let hm : m < 16 = is.fit.1.1.1.1.1.1.1.1.1.1.1.0 in
    read_so (record { cond = cond; op = Long kind s hi lo s2 m }) (heads.Long kind s) (map register_piece (lo ∷ hi ∷ m ∷ s2 ∷ []))
    (long_named kind s hk) is.cond (registers_spelt (lo ∷ hi ∷ m ∷ s2 ∷ [])) (registers_fine (lo ∷ hi ∷ m ∷ s2 ∷ []) (hl, (hh, (hm, (hs, tt))))) refl (long_read kind s hi lo s2 m hh hl hs hm) is.allowed

pub clz_law : (cond d m : ℕ) → IsInstr (record { cond = cond; op = Clz d m }) → IsReadBack (record { cond = cond; op = Clz d m })
unfolding operands_of named_of
clz_law cond d m is =
    let hd : d < 16 = is.fit.1.1.1.1.1.0 in
    let hm : m < 16 = is.fit.1.1.1.1.1.1.1.1.1.1.0 in
    read_so (record { cond = cond; op = Clz d m }) heads.Clz (map register_piece (d ∷ m ∷ []))
    read_clz is.cond (registers_spelt (d ∷ m ∷ [])) (registers_fine (d ∷ m ∷ []) (hd, (hm, tt))) refl (clz_read d m hd hm) is.allowed

pub bx_law : (cond m : ℕ) → IsInstr (record { cond = cond; op = Bx m }) → IsReadBack (record { cond = cond; op = Bx m })
unfolding operands_of named_of
bx_law cond m is =
    let hm : m < 16 = is.fit.1.1.1.1.1.1.1.1.0 in
    read_so (record { cond = cond; op = Bx m }) heads.Bx (map register_piece (m ∷ []))
    read_bx is.cond (registers_spelt (m ∷ [])) (registers_fine (m ∷ []) (hm, tt)) refl (bx_read m hm) is.allowed

pub blx_law : (cond m : ℕ) → IsInstr (record { cond = cond; op = Blx m }) → IsReadBack (record { cond = cond; op = Blx m })
unfolding operands_of named_of
blx_law cond m is =
    let hm : m < 16 = is.fit.1.1.1.1.1.1.1.1.0 in
    read_so (record { cond = cond; op = Blx m }) heads.Blx (map register_piece (m ∷ []))
    read_blx is.cond (registers_spelt (m ∷ [])) (registers_fine (m ∷ []) (hm, tt)) refl (blx_read m hm) is.allowed

-- ---- immediates alone

wide_spelt : (d imm16 : ℕ) → map spell (wide_pieces d imm16) ≡ register_name d ∷ (codes "#" ++ decimal imm16) ∷ []
wide_spelt d imm16 = ap (λ t. t ∷ spell (immediate_piece imm16) ∷ []) (register_spelt d) ∙ ap (λ t. register_name d ∷ t ∷ []) (immediate_spelt imm16)

wide_fine : (d imm16 : ℕ) → d < 16 → imm16 < 2 ^ 16 → AllFine (wide_pieces d imm16)
wide_fine d imm16 hd hi = (word_fine (register_name d) (register_word d hd), (immediate_fine imm16 (omega arith), tt))

-- an immediate in two parts
whole : (imm16 : ℕ) → imm16 / 4096 < 16 → imm16 < 2 ^ 16
whole imm16 h = omega arith

pub movw_law : (cond d imm16 : ℕ) → IsInstr (record { cond = cond; op = Movw d imm16 }) → IsReadBack (record { cond = cond; op = Movw d imm16 })
unfolding operands_of named_of
movw_law cond d imm16 is =
    let hi : imm16 < 2 ^ 16 = whole imm16 is.fit.1.1.1.1.0 in
    let hd : d < 16 = is.fit.1.1.1.1.1.0 in
    read_so (record { cond = cond; op = Movw d imm16 }) heads.Movw (wide_pieces d imm16)
    read_movw is.cond (wide_spelt d imm16) (wide_fine d imm16 hd hi) refl (movw_read d imm16 hd hi) is.allowed

pub movt_law : (cond d imm16 : ℕ) → IsInstr (record { cond = cond; op = Movt d imm16 }) → IsReadBack (record { cond = cond; op = Movt d imm16 })
unfolding operands_of named_of
movt_law cond d imm16 is =
    let hi : imm16 < 2 ^ 16 = whole imm16 is.fit.1.1.1.1.0 in
    let hd : d < 16 = is.fit.1.1.1.1.1.0 in
    read_so (record { cond = cond; op = Movt d imm16 }) heads.Movt (wide_pieces d imm16)
    read_movt is.cond (wide_spelt d imm16) (wide_fine d imm16 hd hi) refl (movt_read d imm16 hd hi) is.allowed

pub svc_law : (cond imm24 : ℕ) → IsInstr (record { cond = cond; op = Svc imm24 }) → IsReadBack (record { cond = cond; op = Svc imm24 })
unfolding operands_of named_of
svc_law cond imm24 is =
    let h : imm24 < 2 ^ 24 = is.fit.1.1.1.0 in
    read_so (record { cond = cond; op = Svc imm24 }) heads.Svc (immediate_piece imm24 ∷ [])
    read_svc is.cond (ap (λ t. t ∷ []) (immediate_spelt imm24)) (immediate_fine imm24 (omega arith), tt) refl (svc_read imm24 h) refl

pub nop_law : (cond : ℕ) → IsInstr (record { cond = cond; op = Nop }) → IsReadBack (record { cond = cond; op = Nop })
unfolding operands_of named_of
nop_law cond is = read_so (record { cond = cond; op = Nop }) heads.Nop [] read_nop is.cond refl tt refl refl refl

-- ---- branches

minus_mark : is_mark 0x2d ≡ true
unfolding is_mark is_word
minus_mark = refl

branch_spelt : (imm24 : ℕ) → map spell (branch_pieces imm24) ≡ branch_operand imm24 ∷ []
unfolding branch_operand
branch_spelt imm24 = by_way (nat_lt imm24 (2 ^ 23))
  where
    by_way : (b : Bool) → map spell ((Mark 0x23 ∷ minus b (Word (decimal (4 * (if b then imm24 else 2 ^ 24 - imm24))) ∷ [])) ∷ []) ≡ (codes "#" ++ (where_set (not b) (codes "-") ++ decimal (4 * (if b then imm24 else 2 ^ 24 - imm24)))) ∷ []
    by_way true = ap (λ t. (codes "#" ++ t) ∷ []) (append-nil (decimal (4 * imm24)))
    by_way false = ap (λ t. (codes "#-" ++ t) ∷ []) (append-nil (decimal (4 * (2 ^ 24 - imm24))))

branch_fine : (imm24 : ℕ) → imm24 < 2 ^ 24 → AllFine (branch_pieces imm24)
branch_fine imm24 h = by_way (nat_lt imm24 (2 ^ 23)) refl
  where
    plain : (n : ℕ) → n < 2 ^ 32 → AllFine ((Mark 0x23 ∷ Word (decimal n) ∷ []) ∷ [])
    plain n l = (((hash_mark, (unfold NoGap in tt, (decimal_word n l, (unfold NoWord in tt, tt)))), unfold NoGap in tt), tt)

    signed : (n : ℕ) → n < 2 ^ 32 → AllFine ((Mark 0x23 ∷ Mark 0x2d ∷ Word (decimal n) ∷ []) ∷ [])
    signed n l = (((hash_mark, (unfold NoGap in tt, (minus_mark, (unfold NoGap in tt, (decimal_word n l, (unfold NoWord in tt, tt)))))), unfold NoGap in tt), tt)

    by_way : (b : Bool) → nat_lt imm24 (2 ^ 23) ≡ b → AllFine ((Mark 0x23 ∷ minus b (Word (decimal (4 * (if b then imm24 else 2 ^ 24 - imm24))) ∷ [])) ∷ [])
    by_way true e = plain (4 * imm24) (omega arith)
    by_way false e = signed (4 * (2 ^ 24 - imm24)) (omega arith)

pub branch_law : (cond : ℕ) (link : Bool) (imm24 : ℕ) → IsInstr (record { cond = cond; op = Branch link imm24 }) → IsReadBack (record { cond = cond; op = Branch link imm24 })
unfolding operands_of named_of take_name
branch_law cond link imm24 is =
    let h : imm24 < 2 ^ 24 = is.fit.1.1.1.0 in
    read_so (record { cond = cond; op = Branch link imm24 }) (heads.Branch link) (branch_pieces imm24)
    (branch_named link) is.cond (branch_spelt imm24) (branch_fine imm24 h) refl (branch_read link imm24 h) refl
