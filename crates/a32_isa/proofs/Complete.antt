-- A row's instruction is decoded.
use Rattle.std.proofs.Common.{◌≡◌, ◌↔◌, ℕ, zero, suc, ◌+◌, ◌*◌, ◌^◌, Bool, true, false, cond, Option, Some, None, IfSome, IsNone, true≢false, refl, ap, ◌∙◌, sym, arith, tests}
use Rattle.std.specs.Prelude.{◌==◌}
use Rattle.std.proofs.lemmas.Option.{none-some}
use Rattle.a32_isa.specs.Fields.{width_of, number_of, field, flag}
use Rattle.a32_isa.specs.Allowed.{is_allowed}
use Rattle.a32_isa.specs.Table.{IsInstruction, op_fields, fields_of, half_load, half_code, half_high, half_low, half_immediate}
use Rattle.a32_isa.specs.Decoding.{data_of, or_else, multiply_of, half_with_kind, half_class_of, misc_of, register_class_of, wide_of, of_class, candidate_of, with_condition, decode_of}
use Rattle.a32_isa.proofs.Fields.{Has, number_of-has, flag_from_bit}
use Rattle.a32_isa.proofs.Widths.{twenty_eight}
use Rattle.a32_isa.specs.declared.instr.Instr.{Instr}
use Rattle.a32_isa.specs.declared.instr.Op.{Op}
use Rattle.a32_isa.specs.declared.instr.Op.TheVariants.{Data, Mul, Mla, Long, Clz, Movw, Movt, Nop, Mem, Half, Multi, Branch, Bx, Blx, Svc}
use Rattle.a32_isa.specs.declared.instr.Arg.{Arg}
use Rattle.a32_isa.specs.declared.instr.Arg.TheVariants.{Imm, ByImm, ByReg}
use Rattle.a32_isa.specs.declared.instr.MemOff.TheVariants as mem
use Rattle.a32_isa.specs.declared.instr.HalfOff.{HalfOff}
use Rattle.a32_isa.specs.declared.instr.HalfOff.TheVariants as half

-- an operation code that data needs flags for, without them
not_data : (w op : ℕ) (arg : Arg) → flag w 20 ≡ false → field w 21 4 ≡ op → is_allowed (Data op false (field w 16 4) (field w 12 4) arg) ≡ false → is_allowed (data_of w arg) ≡ false
not_data w op arg f o h = ap (λ v. is_allowed (Data v (flag w 20) (field w 16 4) (field w 12 4) arg)) o ∙ ap (λ s. is_allowed (Data op s (field w 16 4) (field w 12 4) arg)) f ∙ h

-- an operation that is allowed is not passed over
allowed_first : (op op' : Op) (other : Option Op) → op ≡ op' → is_allowed op' ≡ true → or_else op other ≡ Some op'
allowed_first op op' other same a = ap (λ o. or_else o other) same ∙ ap (λ b. cond b (Some op') other) a

refused_first : (op : Op) (other : Option Op) → is_allowed op ≡ false → or_else op other ≡ other
refused_first op other a = ap (λ b. cond b (Some op) other) a

not_zero : (k : ℕ) → (suc k == 0) ≡ false
not_zero k = grind (arith, tests)

half_word_from : (w kind : ℕ) (p u w' : Bool) (n d : ℕ) (off : HalfOff) → flag w 24 ≡ p → flag w 23 ≡ u → field w 22 1 ≡ half_immediate off → flag w 21 ≡ w' → field w 16 4 ≡ n → field w 12 4 ≡ d
    → field w 8 4 ≡ half_high off → field w 0 4 ≡ half_low off → half_with_kind w kind ≡ Some (Half kind p u w' n d off)
unfolding half_with_kind
half_word_from w kind p u w' n d (half.Imm imm) f24 f23 i f21 en ed high low =
    let f22 : flag w 22 ≡ true = flag_from_bit w 22 true i in
    let whole : 16 * field w 8 4 + field w 0 4 ≡ imm = omega (arith, high, low) in
    rw f22 cc
half_word_from w kind p u w' n d (half.Reg m) f24 f23 i f21 en ed high low =
    let f22 : flag w 22 ≡ false = flag_from_bit w 22 false i in
    rw (f22, high) cc

half_class_from : (w kind : ℕ) (op : Op) → field w 20 1 ≡ half_load kind → field w 5 2 ≡ half_code kind → half_with_kind w kind ≡ Some op → half_class_of w ≡ Some op
unfolding half_class_of
half_class_from w zero op l k h =
    let f20 : flag w 20 ≡ false = flag_from_bit w 20 false l in
    rw (f20, k) h
half_class_from w (suc kind) op l k h =
    let one : half_load (suc kind) ≡ 1 = ap (λ b. cond b 0 1) (not_zero kind) in
    let code : half_code (suc kind) ≡ suc kind = ap (λ b. cond b 1 (suc kind)) (not_zero kind) in
    let f20 : flag w 20 ≡ true = flag_from_bit w 20 true (l ∙ one) in
    rw f20 (ap (half_with_kind w) (k ∙ code) ∙ h)

half_code-nonzero : (kind : ℕ) → (half_code kind == 0) ≡ false
half_code-nonzero zero = refl
half_code-nonzero (suc kind) = ap (λ b. cond b 1 (suc kind) == 0) (not_zero kind) ∙ not_zero kind

-- an operation is read from its fields
candidate_from : (w : ℕ) (op : Op) → is_allowed op ≡ true → Has w (op_fields op) → candidate_of w ≡ Some op
unfolding candidate_of register_class_of multiply_of half_class_of half_with_kind misc_of wide_of
candidate_from w (Data op s n d (Imm rot imm)) a h =
    let same : data_of w (Imm (field w 8 4) (field w 0 8)) ≡ Data op s n d (Imm rot imm) = let f20 : flag w 20 ≡ s = flag_from_bit w 20 s h.1.1.0 in cc in
    ap (of_class w) h.0 ∙ allowed_first _ _ (wide_of w) same a
candidate_from w (Data op s n d (ByImm imm kind m)) a h =
    let f20 : flag w 20 ≡ s = flag_from_bit w 20 s h.1.1.0 in
    let f4 : flag w 4 ≡ false = flag_from_bit w 4 false h.1.1.1.1.1.1.1.0 in
    ap (of_class w) h.0 ∙ rw (f4) cc
candidate_from w (Data op s n d (ByReg s2 kind m)) a h =
    let same : data_of w (ByReg (field w 8 4) (field w 5 2) (field w 0 4)) ≡ Data op s n d (ByReg s2 kind m) = let f20 : flag w 20 ≡ s = flag_from_bit w 20 s h.1.1.0 in cc in
    let f4 : flag w 4 ≡ true = flag_from_bit w 4 true h.1.1.1.1.1.1.1.1.0 in
    let f7 : flag w 7 ≡ false = flag_from_bit w 7 false h.1.1.1.1.1.1.0 in
    ap (of_class w) h.0 ∙ rw (f4, f7) (allowed_first _ _ (misc_of w) same a)
candidate_from w (Mul s d s2 m) a h =
    let f20 : flag w 20 ≡ s = flag_from_bit w 20 s h.1.1.1.0 in
    let f7 : flag w 7 ≡ true = flag_from_bit w 7 true h.1.1.1.1.1.1.1.0 in
    let f4 : flag w 4 ≡ true = flag_from_bit w 4 true h.1.1.1.1.1.1.1.1.1.0 in
    let e5 : field w 5 2 ≡ 0 = h.1.1.1.1.1.1.1.1.0 in
    let e23 : field w 23 2 ≡ 0 = h.1.0 in
    let e21 : field w 21 2 ≡ 0 = h.1.1.0 in
    let e12 : field w 12 4 ≡ 0 = h.1.1.1.1.1.0 in
    ap (of_class w) h.0 ∙ rw (f7, f4, e5, e23, e21, e12) cc
candidate_from w (Mla s d n s2 m) a h =
    let f20 : flag w 20 ≡ s = flag_from_bit w 20 s h.1.1.1.0 in
    let f7 : flag w 7 ≡ true = flag_from_bit w 7 true h.1.1.1.1.1.1.1.0 in
    let f4 : flag w 4 ≡ true = flag_from_bit w 4 true h.1.1.1.1.1.1.1.1.1.0 in
    let e5 : field w 5 2 ≡ 0 = h.1.1.1.1.1.1.1.1.0 in
    let e23 : field w 23 2 ≡ 0 = h.1.0 in
    let e21 : field w 21 2 ≡ 1 = h.1.1.0 in
    ap (of_class w) h.0 ∙ rw (f7, f4, e5, e23, e21) cc
candidate_from w (Long kind s hi lo s2 m) a h =
    let f20 : flag w 20 ≡ s = flag_from_bit w 20 s h.1.1.1.0 in
    let f7 : flag w 7 ≡ true = flag_from_bit w 7 true h.1.1.1.1.1.1.1.0 in
    let f4 : flag w 4 ≡ true = flag_from_bit w 4 true h.1.1.1.1.1.1.1.1.1.0 in
    let e5 : field w 5 2 ≡ 0 = h.1.1.1.1.1.1.1.1.0 in
    let e23 : field w 23 2 ≡ 1 = h.1.0 in
    ap (of_class w) h.0 ∙ rw (f7, f4, e5, e23) cc
candidate_from w (Clz d m) a h =
    let f20 : flag w 20 ≡ false = flag_from_bit w 20 false h.1.1.0 in
    let f4 : flag w 4 ≡ true = flag_from_bit w 4 true h.1.1.1.1.1.1.1.1.0 in
    let f7 : flag w 7 ≡ false = flag_from_bit w 7 false h.1.1.1.1.1.1.0 in
    ap (of_class w) h.0 ∙ rw (f4, f7) (refused_first (data_of w (ByReg (field w 8 4) (field w 5 2) (field w 0 4))) (misc_of w) (not_data w 11 (ByReg (field w 8 4) (field w 5 2) (field w 0 4)) f20 h.1.0 refl)
    ∙ rw (f20, h.1.0, h.1.1.1.0, h.1.1.1.1.1.0, h.1.1.1.1.1.1.1.0) cc)
candidate_from w (Movw d imm16) a h =
    let f20 : flag w 20 ≡ false = flag_from_bit w 20 false h.1.1.0 in
    let whole : 4096 * field w 16 4 + field w 0 12 ≡ imm16 = omega (arith, h.1.1.1.0, h.1.1.1.1.1.0) in
    ap (of_class w) h.0 ∙ refused_first (data_of w (Imm (field w 8 4) (field w 0 8))) (wide_of w) (not_data w 8 (Imm (field w 8 4) (field w 0 8)) f20 h.1.0 refl) ∙ rw (f20, h.1.0) cc
candidate_from w (Movt d imm16) a h =
    let f20 : flag w 20 ≡ false = flag_from_bit w 20 false h.1.1.0 in
    let whole : 4096 * field w 16 4 + field w 0 12 ≡ imm16 = omega (arith, h.1.1.1.0, h.1.1.1.1.1.0) in
    ap (of_class w) h.0 ∙ refused_first (data_of w (Imm (field w 8 4) (field w 0 8))) (wide_of w) (not_data w 10 (Imm (field w 8 4) (field w 0 8)) f20 h.1.0 refl) ∙ rw (f20, h.1.0) cc
candidate_from w Nop a h =
    let f20 : flag w 20 ≡ false = flag_from_bit w 20 false h.1.1.0 in
    ap (of_class w) h.0 ∙ refused_first (data_of w (Imm (field w 8 4) (field w 0 8))) (wide_of w) (not_data w 9 (Imm (field w 8 4) (field w 0 8)) f20 h.1.0 refl) ∙ rw (f20, h.1.0, h.1.1.1.0)
candidate_from w (Mem load byte p u w' n d (mem.Imm off)) a h =
    let f24 : flag w 24 ≡ p = flag_from_bit w 24 p h.1.0 in
    let f23 : flag w 23 ≡ u = flag_from_bit w 23 u h.1.1.0 in
    let f22 : flag w 22 ≡ byte = flag_from_bit w 22 byte h.1.1.1.0 in
    let f21 : flag w 21 ≡ w' = flag_from_bit w 21 w' h.1.1.1.1.0 in
    let f20 : flag w 20 ≡ load = flag_from_bit w 20 load h.1.1.1.1.1.0 in
    ap (of_class w) h.0 ∙ cc
candidate_from w (Mem load byte p u w' n d (mem.Reg imm kind m)) a h =
    let f24 : flag w 24 ≡ p = flag_from_bit w 24 p h.1.0 in
    let f23 : flag w 23 ≡ u = flag_from_bit w 23 u h.1.1.0 in
    let f22 : flag w 22 ≡ byte = flag_from_bit w 22 byte h.1.1.1.0 in
    let f21 : flag w 21 ≡ w' = flag_from_bit w 21 w' h.1.1.1.1.0 in
    let f20 : flag w 20 ≡ load = flag_from_bit w 20 load h.1.1.1.1.1.0 in
    let f4 : flag w 4 ≡ false = flag_from_bit w 4 false h.1.1.1.1.1.1.1.1.1.1.0 in
    ap (of_class w) h.0 ∙ rw (f4) cc
candidate_from w (Half kind p u w' n d off) a h =
    let f4 : flag w 4 ≡ true = flag_from_bit w 4 true h.1.1.1.1.1.1.1.1.1.1.1.0 in
    let f7 : flag w 7 ≡ true = flag_from_bit w 7 true h.1.1.1.1.1.1.1.1.1.0 in
    let k : (field w 5 2 == 0) ≡ false = ap (λ v. v == 0) h.1.1.1.1.1.1.1.1.1.1.0 ∙ half_code-nonzero kind in
    ap (of_class w) h.0 ∙ rw (f4, f7, k) (half_class_from w kind (Half kind p u w' n d off) h.1.1.1.1.1.0 h.1.1.1.1.1.1.1.1.1.1.0
    (half_word_from w kind p u w' n d off (flag_from_bit w 24 p h.1.0) (flag_from_bit w 23 u h.1.1.0) h.1.1.1.0 (flag_from_bit w 21 w' h.1.1.1.1.0) h.1.1.1.1.1.1.0 h.1.1.1.1.1.1.1.0 h.1.1.1.1.1.1.1.1.0 h.1.1.1.1.1.1.1.1.1.1.1.1.0))
candidate_from w (Multi load p u w' n list) a h =
    let f24 : flag w 24 ≡ p = flag_from_bit w 24 p h.1.0 in
    let f23 : flag w 23 ≡ u = flag_from_bit w 23 u h.1.1.0 in
    let f22 : flag w 22 ≡ false = flag_from_bit w 22 false h.1.1.1.0 in
    let f21 : flag w 21 ≡ w' = flag_from_bit w 21 w' h.1.1.1.1.0 in
    let f20 : flag w 20 ≡ load = flag_from_bit w 20 load h.1.1.1.1.1.0 in
    ap (of_class w) h.0 ∙ rw (f22) cc
candidate_from w (Branch link imm24) a h =
    let f24 : flag w 24 ≡ link = flag_from_bit w 24 link h.1.0 in
    ap (of_class w) h.0 ∙ cc
candidate_from w (Bx m) a h =
    let f20 : flag w 20 ≡ false = flag_from_bit w 20 false h.1.1.0 in
    let f4 : flag w 4 ≡ true = flag_from_bit w 4 true h.1.1.1.1.1.1.0 in
    let f7 : flag w 7 ≡ false = flag_from_bit w 7 false h.1.1.1.1.0 in
    ap (of_class w) h.0 ∙ rw (f4, f7) (refused_first (data_of w (ByReg (field w 8 4) (field w 5 2) (field w 0 4))) (misc_of w) (not_data w 9 (ByReg (field w 8 4) (field w 5 2) (field w 0 4)) f20 h.1.0 refl)
    ∙ rw (f20, h.1.0, h.1.1.1.0, h.1.1.1.1.1.0) cc)
candidate_from w (Blx m) a h =
    let f20 : flag w 20 ≡ false = flag_from_bit w 20 false h.1.1.0 in
    let f4 : flag w 4 ≡ true = flag_from_bit w 4 true h.1.1.1.1.1.1.0 in
    let f7 : flag w 7 ≡ false = flag_from_bit w 7 false h.1.1.1.1.0 in
    ap (of_class w) h.0 ∙ rw (f4, f7) (refused_first (data_of w (ByReg (field w 8 4) (field w 5 2) (field w 0 4))) (misc_of w) (not_data w 9 (ByReg (field w 8 4) (field w 5 2) (field w 0 4)) f20 h.1.0 refl)
    ∙ rw (f20, h.1.0, h.1.1.1.0, h.1.1.1.1.1.0) cc)
candidate_from w (Svc imm24) a h =
    let f24 : flag w 24 ≡ true = flag_from_bit w 24 true h.1.0 in
    ap (of_class w) h.0 ∙ rw (f24) cc

-- a row's instruction is decoded
pub IsInstruction-decode_of : (w : ℕ) (i : Instr) → IsInstruction w i → decode_of w ≡ Some i
unfolding decode_of
IsInstruction-decode_of w i r =
    let whole : w ≡ 0 * 2 ^ width_of (fields_of i) + number_of (fields_of i) = omega (arith, r.word) in
    let has : Has w (fields_of i) = number_of-has (fields_of i) 0 w r.instr.fit whole in
    let c : field w 28 4 ≡ i.cond = sym (ap (λ k. field w k 4) (twenty_eight i.op)) ∙ has.0 in
    let ne : (i.cond == 15) ≡ false = grind (arith, tests, r.instr.cond) in
    ap (λ c. cond (c == 15) None (with_condition c (candidate_of w))) c ∙ ap (λ b. cond b None (with_condition i.cond (candidate_of w))) ne
    ∙ ap (with_condition i.cond) (candidate_from w i.op r.instr.allowed has.1) ∙ ap (λ b. cond b (Some (record { cond = i.cond; op = i.op })) None) r.instr.allowed

-- what is an instruction wherever there is one, and is the row's wherever a row has the word, is none exactly where no row has it
pub IsNone-exactly : (w : ℕ) (o : Option Instr) → IfSome o (IsInstruction w) → ((i : Instr) → IsInstruction w i → o ≡ Some i) → IsNone o ↔ ((i : Instr) → IsInstruction w i → ⊥)
IsNone-exactly w None row only = (λ _ i r. none-some i (only i r), λ _. refl)
IsNone-exactly w (Some i) row only = (λ n. absurd (true≢false n), λ h. absurd (h i row))
