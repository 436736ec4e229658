-- Loads and stores that are printed are read again.
use Rattle.std.proofs.Common.{◌≡◌, ℕ, ◌+◌, ◌^◌, ◌<◌, zero, suc, Bool, true, false, not, ◌&&◌, ◌||◌, cond, List, [], ◌∷◌, ◌++◌, map, refl, sym, ap, ◌∙◌, arith, Some, None, append-nil, ltb-true}
use Rattle.std.specs.Prelude.{codes, decimal, if◌then◌else◌, nat_lt, option_map}
use Rattle.std.proofs.lemmas.Bool.{and_parts, false≢true}
use Rattle.a32_isa.specs.Fields.{Fit}
use Rattle.a32_isa.specs.Registers.{differs, is_listed, is_general}
use Rattle.a32_isa.specs.Allowed.{is_allowed, is_base_allowed, is_multi_allowed, is_mem_off_allowed, is_half_off_allowed}
use Rattle.a32_isa.specs.Table.{IsInstr, mem_off_fields, half_high, half_low}
use Rattle.a32_isa.specs.declared.instr.Op.TheVariants.{Mem, Half, Multi}
use Rattle.a32_isa.specs.declared.instr.MemOff.{MemOff}
use Rattle.a32_isa.specs.declared.instr.MemOff.TheVariants as mem
use Rattle.a32_isa.specs.declared.instr.HalfOff.{HalfOff}
use Rattle.a32_isa.specs.declared.instr.HalfOff.TheVariants as half
use Rattle.a32_isa.specs.Names.{register_name}
use Rattle.a32_isa.specs.Text.{operands_of as operand_texts, parted, signed, offset, mem_off_operands, half_off_operands, address_operands, list_operand, listed_below, where_set}
use Rattle.a32_text.specs.Token.{Token, Word, Mark, is_word}
use Rattle.a32_text.specs.Taking.{take_register, take_name, ended}
use Rattle.a32_text.specs.List.{take_list}
use Rattle.a32_text.specs.Operands.{operands_of, drafted, multi_operands, multi_draft, take_base}
use Rattle.a32_text.specs.Statement.{named_of, literal_of}
use Rattle.a32_text.specs.Printed.{IsReadBack}
use Rattle.a32_text.specs.declared.head.Head.TheVariants as heads
use Rattle.a32_text.proofs.Scanning.{NoGap, NoWord}
use Rattle.a32_text.proofs.Names.{mem_named, half_named, multi_named, register_read}
use Rattle.a32_text.proofs.Spelling.{spell, Clear, is_mark, decimal_word}
use Rattle.a32_text.proofs.Pieces.{together, AllFine, Fine, MarkFirst, clear-append, no_gap-append, clear-together, spell-append, spell-together}
use Rattle.a32_text.proofs.Printed.{register_piece, shift_pieces}
use Rattle.a32_text.proofs.Lists.{closed, from, list_read}
use Rattle.a32_text.proofs.Rows.{minus}
use Rattle.a32_text.proofs.Accesses.{number_pieces, off_pieces, half_pieces, address_pieces, access_pieces, closing, mem_read, half_read}
use Rattle.a32_text.proofs.Spelt.{word_fine, register_word, shift_fine, registers_spelt, register_spelt, shift_spelt, hash_mark}
use Rattle.a32_text.proofs.Reading.{read_so}

marks : (is_mark 0x5b ≡ true) × (is_mark 0x5d ≡ true) × (is_mark 0x21 ≡ true) × (is_mark 0x7b ≡ true) × (is_mark 0x7d ≡ true) × (is_mark 0x2d ≡ true)
unfolding is_mark is_word
marks = (refl, refl, refl, refl, refl, refl)

-- ---- offsets and addresses

number_spelt : (u : Bool) (n : ℕ) → map spell (number_pieces u n) ≡ offset u n ∷ []
number_spelt true n = ap (λ t. (codes "#" ++ t) ∷ []) (append-nil (decimal n))
number_spelt false n = ap (λ t. (codes "#-" ++ t) ∷ []) (append-nil (decimal n))

signed_spelt : (u : Bool) (m : ℕ) → spell (minus u (register_piece m)) ≡ signed u (register_name m)
signed_spelt true m = register_spelt m
signed_spelt false m = ap (λ t. codes "-" ++ t) (register_spelt m)

off_spelt : (u : Bool) (off : MemOff) → map spell (off_pieces u off) ≡ mem_off_operands u off
off_spelt u (mem.Imm off) = number_spelt u off
off_spelt u (mem.Reg imm kind m) = ap (λ t. t ∷ map spell (shift_pieces imm kind)) (signed_spelt u m) ∙ ap (λ ts. signed u (register_name m) ∷ ts) (shift_spelt imm kind)

half_spelt : (u : Bool) (off : HalfOff) → map spell (half_pieces u off) ≡ half_off_operands u off
half_spelt u (half.Imm off) = number_spelt u off
half_spelt u (half.Reg m) = ap (λ t. t ∷ []) (signed_spelt u m)

number_fine : (u : Bool) (n : ℕ) → n < 2 ^ 32 → AllFine (number_pieces u n)
unfolding NoGap NoWord
number_fine true n h = (((hash_mark, (tt, (decimal_word n h, (tt, tt)))), tt), tt)
number_fine false n h = (((hash_mark, (tt, (marks.5, (tt, (decimal_word n h, (tt, tt)))))), tt), tt)

signed_fine : (u : Bool) (m : ℕ) → m < 16 → Fine (minus u (register_piece m))
unfolding NoGap NoWord
signed_fine true m h = word_fine (register_name m) (register_word m h)
signed_fine false m h = ((marks.5, (tt, (register_word m h, (tt, tt)))), tt)

off_fine : (u : Bool) (off : MemOff) → Fit (mem_off_fields off) → AllFine (off_pieces u off)
off_fine u (mem.Imm off) fit = number_fine u off (omega (arith, fit.0))
off_fine u (mem.Reg imm kind m) fit = (signed_fine u m fit.1.1.1.0, shift_fine imm kind fit.0 fit.1.0)

half_fine : (u : Bool) (off : HalfOff) → half_high off < 16 → half_low off < 16 → AllFine (half_pieces u off)
half_fine u (half.Imm off) hh hl = number_fine u off (omega arith)
half_fine u (half.Reg m) hh hl = (signed_fine u m hl, tt)

address_spelt : (p w : Bool) (n : ℕ) (pieces : List (List Token)) (texts : List (List ℕ)) → map spell pieces ≡ texts → map spell (address_pieces p w n pieces) ≡ address_operands p w n texts
address_spelt true true n pieces texts e =
    ap (λ t. (codes "[" ++ t) ∷ []) (spell-append (together (register_piece n ∷ pieces)) (closing true)
    ∙ ap (λ t. t ++ codes "]!") (spell-together (register_piece n ∷ pieces) ∙ ap (λ t. parted (t ∷ map spell pieces)) (register_spelt n) ∙ ap (λ ts. parted (register_name n ∷ ts)) e))
address_spelt true false n pieces texts e =
    ap (λ t. (codes "[" ++ t) ∷ []) (spell-append (together (register_piece n ∷ pieces)) (closing false)
    ∙ ap (λ t. t ++ codes "]") (spell-together (register_piece n ∷ pieces) ∙ ap (λ t. parted (t ∷ map spell pieces)) (register_spelt n) ∙ ap (λ ts. parted (register_name n ∷ ts)) e))
address_spelt false w n pieces texts e = ap (λ ts. (codes "[" ++ (register_name n ++ codes "]")) ∷ ts) e

closing_clear : (w : Bool) → Clear (closing w)
unfolding NoGap
closing_clear true = (marks.1, (tt, (marks.2, (tt, tt))))
closing_clear false = (marks.1, (tt, tt))

closing_first : (w : Bool) → MarkFirst (closing w)
closing_first true = tt
closing_first false = tt

address_fine : (p w : Bool) (n : ℕ) (pieces : List (List Token)) → n < 16 → AllFine pieces → AllFine (address_pieces p w n pieces)
unfolding NoGap NoWord
address_fine true w n pieces h fine =
    let inner = clear-together (register_piece n ∷ pieces) (word_fine (register_name n) (register_word n h), fine) in
    (((marks.0, (no_gap-append (together (register_piece n ∷ pieces)) (closing w) inner.1 (closing_first w), clear-append (together (register_piece n ∷ pieces)) (closing w) inner.0 (closing_first w) (closing_clear w))), tt), tt)
address_fine false w n pieces h fine = (((marks.0, (tt, (register_word n h, (tt, (marks.1, (tt, tt)))))), tt), fine)

-- after-indexing is written without W
plain_after : (p w x : Bool) → ((p || not w) && x) ≡ true → p ≡ false → w ≡ false
plain_after true w x h e = absurd (false≢true (sym e))
plain_after false true x h e = absurd (false≢true h)
plain_after false false x h e = refl

access_spelt : (d : ℕ) (p w : Bool) (n : ℕ) (pieces : List (List Token)) (texts : List (List ℕ)) → map spell pieces ≡ texts → map spell (access_pieces d p w n pieces) ≡ register_name d ∷ address_operands p w n texts
access_spelt d p w n pieces texts e =
    ap (λ t. t ∷ map spell (address_pieces p w n pieces)) (register_spelt d) ∙ ap (λ ts. register_name d ∷ ts) (address_spelt p w n pieces texts e)

-- an address is no name
no_name : (cond : ℕ) (load byte p w : Bool) (n d : ℕ) (pieces : List (List Token)) → d < 16 → named_of cond (heads.Mem load byte) (together (access_pieces d p w n pieces)) ≡ None
unfolding named_of literal_of take_register take_name
no_name cond true false true w n d pieces h = rw (register_read d h) refl
no_name cond true false false w n d pieces h = rw (register_read d h) refl
no_name cond true true p w n d pieces h = refl
no_name cond false byte p w n d pieces h = refl

pub mem_law : (cond : ℕ) (load byte p u w : Bool) (n d : ℕ) (off : MemOff) → IsInstr (record { cond = cond; op = Mem load byte p u w n d off }) → IsReadBack (record { cond = cond; op = Mem load byte p u w n d off })
unfolding operands_of
mem_law cond load byte p u w n d off is =
    let fit = is.fit in
    let allowed : is_allowed (Mem load byte p u w n d off) ≡ true = is.allowed in
    let base = (and_parts (is_base_allowed p w n d) (is_general d || (load && not byte)) (and_parts (is_base_allowed p w n d && (is_general d || (load && not byte))) (is_mem_off_allowed off) allowed).0).0 in
    let hn : n < 16 = fit.1.1.1.1.1.1.1.0 in
    let hd : d < 16 = fit.1.1.1.1.1.1.1.1.0 in
    let hoff : Fit (mem_off_fields off) = fit.1.1.1.1.1.1.1.1.1 in
    read_so (record { cond = cond; op = Mem load byte p u w n d off }) (heads.Mem load byte) (access_pieces d p w n (off_pieces u off))
    (mem_named load byte) is.cond (access_spelt d p w n (off_pieces u off) (mem_off_operands u off) (off_spelt u off))
    (word_fine (register_name d) (register_word d hd), address_fine p w n (off_pieces u off) hn (off_fine u off hoff)) (no_name cond load byte p w n d (off_pieces u off) hd)
    (mem_read load byte p u w n d off hn hd hoff (plain_after p w ((p && not w) || (is_general n && differs n d)) base)) allowed

-- the parts of what the row of a halfword asks
half_parts : (kind : ℕ) (p w : Bool) (n d : ℕ) (off : HalfOff) → is_allowed (Half kind p true w n d off) ≡ true → (kind < 4) × (is_base_allowed p w n d ≡ true)
half_parts kind p w n d off allowed =
    let first = (and_parts (nat_lt kind 4 && is_base_allowed p w n d && is_general d) (is_half_off_allowed off) allowed).0 in
    let second = (and_parts (nat_lt kind 4 && is_base_allowed p w n d) (is_general d) first).0 in
    let both = and_parts (nat_lt kind 4) (is_base_allowed p w n d) second in
    (ltb-true kind 4 both.0, both.1)

pub half_law : (cond kind : ℕ) (p u w : Bool) (n d : ℕ) (off : HalfOff) → IsInstr (record { cond = cond; op = Half kind p u w n d off }) → IsReadBack (record { cond = cond; op = Half kind p u w n d off })
unfolding operands_of named_of
half_law cond kind p u w n d off is =
    let fit = is.fit in
    let allowed : is_allowed (Half kind p u w n d off) ≡ true = is.allowed in
    let asked = half_parts kind p w n d off allowed in
    let hn : n < 16 = fit.1.1.1.1.1.1.1.0 in
    let hd : d < 16 = fit.1.1.1.1.1.1.1.1.0 in
    let hh : half_high off < 16 = fit.1.1.1.1.1.1.1.1.1.0 in
    let hl : half_low off < 16 = fit.1.1.1.1.1.1.1.1.1.1.1.1.1.0 in
    read_so (record { cond = cond; op = Half kind p u w n d off }) (heads.Half kind) (access_pieces d p w n (half_pieces u off))
    (half_named kind asked.0) is.cond (access_spelt d p w n (half_pieces u off) (half_off_operands u off) (half_spelt u off))
    (word_fine (register_name d) (register_word d hd), address_fine p w n (half_pieces u off) hn (half_fine u off hh hl)) refl
    (half_read kind p u w n d off hn hd hh hl (plain_after p w ((p && not w) || (is_general n && differs n d)) asked.1)) allowed

-- ---- multiple loads and stores

abbrev bang : Bool → List Token
bang true = Mark 0x21 ∷ []
bang false = []

abbrev multi_pieces : Bool → ℕ → ℕ → List (List Token)
multi_pieces w n list = (Word (register_name n) ∷ bang w) ∷ (Mark 0x7b ∷ closed (listed_below list 16)) ∷ []

multi_spelt : (w : Bool) (n list : ℕ) → map spell (multi_pieces w n list) ≡ operand_texts (Multi true true true w n list)
unfolding list_operand
multi_spelt w n list =
    ap (λ t. t ∷ spell (Mark 0x7b ∷ closed (listed_below list 16)) ∷ []) (base w)
    ∙ ap (λ t. (register_name n ++ where_set w (codes "!")) ∷ (codes "{" ++ t) ∷ [])
    (spell-append (together (map register_piece (listed_below list 16))) (Mark 0x7d ∷ []) ∙ ap (λ t. t ++ codes "}") (spell-together (map register_piece (listed_below list 16)) ∙ ap parted (registers_spelt (listed_below list 16))))
  where
    base : (w : Bool) → spell (Word (register_name n) ∷ bang w) ≡ register_name n ++ where_set w (codes "!")
    base true = refl
    base false = refl

registers_fine : (list n k : ℕ) → k + n ≡ 16 → AllFine (map register_piece (from list k n))
registers_fine list zero k e = tt
registers_fine list (suc n) k e = by_bit (is_listed list k) (registers_fine list n (k + 1) (omega arith))
  where
    by_bit : (b : Bool) → AllFine (map register_piece (from list (k + 1) n)) → AllFine (map register_piece (if b then k ∷ from list (k + 1) n else from list (k + 1) n))
    by_bit true rest = (word_fine (register_name k) (register_word k (omega arith)), rest)
    by_bit false rest = rest

multi_fine : (w : Bool) (n list : ℕ) → n < 16 → AllFine (multi_pieces w n list)
unfolding NoGap NoWord listed_below
multi_fine w n list h =
    let inner = clear-together (map register_piece (from list 0 16)) (registers_fine list 16 0 (omega arith)) in
    (base w, (((marks.3, (no_gap-append (together (map register_piece (from list 0 16))) (Mark 0x7d ∷ []) inner.1 tt, clear-append (together (map register_piece (from list 0 16))) (Mark 0x7d ∷ []) inner.0 tt (marks.4, (tt, tt)))), tt), tt))
  where
    base : (w : Bool) → Fine (Word (register_name n) ∷ bang w)
    base true = ((register_word n h, (tt, (marks.2, (tt, tt)))), tt)
    base false = word_fine (register_name n) (register_word n h)

multi_are : (load p u w : Bool) (n list : ℕ) → n < 16 → list < 2 ^ 16 → 0 < list → operands_of (heads.Multi load p u) (together (multi_pieces w n list)) ≡ Some (drafted (Multi load p u w n list) true)
unfolding operands_of multi_operands take_base take_register listed_below
multi_are load p u true n list hn hl some =
    rw (register_read n hn) (ap (λ tokens. option_map (multi_draft load p u true n) (ended (take_list tokens))) (append-nil (Mark 0x7b ∷ closed (from list 0 16))) ∙ ap (λ taken. option_map (multi_draft load p u true n) (ended taken)) (list_read list hl some))
multi_are load p u false n list hn hl some =
    rw (register_read n hn) (ap (λ tokens. option_map (multi_draft load p u false n) (ended (take_list tokens))) (append-nil (Mark 0x7b ∷ closed (from list 0 16))) ∙ ap (λ taken. option_map (multi_draft load p u false n) (ended taken)) (list_read list hl some))

some_bit : (list : ℕ) (b c d : Bool) → ((differs list 0 && b) && c && d) ≡ true → 0 < list
some_bit zero b c d h = absurd (false≢true h)
some_bit (suc list) b c d h = omega arith

pub multi_law : (cond : ℕ) (load p u w : Bool) (n list : ℕ) → IsInstr (record { cond = cond; op = Multi load p u w n list }) → IsReadBack (record { cond = cond; op = Multi load p u w n list })
unfolding named_of
multi_law cond load p u w n list is =
    let fit = is.fit in
    let allowed : is_multi_allowed load w n list ≡ true = is.allowed in
    let hn : n < 16 = fit.1.1.1.1.1.1.1.0 in
    let hl : list < 2 ^ 16 = fit.1.1.1.1.1.1.1.1.0 in
    read_so (record { cond = cond; op = Multi load p u w n list }) (heads.Multi load p u) (multi_pieces w n list)
    (multi_named load p u) is.cond (multi_spelt w n list) (multi_fine w n list hn) refl
    (multi_are load p u w n list hn hl (some_bit list (nat_lt n 15) (not (w && is_listed list n)) (load || not (is_listed list 15)) allowed)) allowed
