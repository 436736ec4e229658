-- Operands are spelt as they are printed, and their tokens are clear of each other.
use Rattle.std.proofs.Common.{◌≡◌, ℕ, ◌*◌, ◌^◌, ◌<◌, Bool, true, false, ◌&&◌, List, [], ◌∷◌, ◌++◌, map, refl, ap, ◌∙◌, arith, append-nil}
use Rattle.std.specs.Prelude.{codes, decimal, ◌==◌, if◌then◌else◌}
use Rattle.std.proofs.lemmas.List.{map-append}
use Rattle.a32_isa.specs.Fields.{Fit}
use Rattle.a32_isa.specs.Registers.{is_comparison, is_move}
use Rattle.a32_isa.specs.Table.{arg_fields}
use Rattle.a32_isa.specs.declared.instr.Arg.{Arg}
use Rattle.a32_isa.specs.declared.instr.Arg.TheVariants.{Imm, ByImm, ByReg}
use Rattle.a32_isa.specs.Names.{register_name, shift_name}
use Rattle.a32_isa.specs.Immediate.{constant_of, is_lowest}
use Rattle.a32_isa.specs.Text.{arg_operands, constant_operands, shift_operands, data_registers}
use Rattle.a32_isa.proofs.Immediates.{constant_fits}
use Rattle.a32_text.specs.Token.{Token, Word, Gap, is_word}
use Rattle.a32_text.proofs.Cases.{each4, each16}
use Rattle.a32_text.proofs.Scanning.{NoGap, NoWord, Other}
use Rattle.a32_text.proofs.Spelling.{spell, IsWord, is_mark, decimal_word}
use Rattle.a32_text.proofs.Pieces.{AllFine, Fine}
use Rattle.a32_text.proofs.Printed.{register_piece, immediate_piece, shift_pieces, constant_pieces, arg_pieces, small}
use Rattle.a32_text.proofs.Rows.{data_pieces}

-- ---- pieces are spelt as operands are printed

pub register_spelt : (r : ℕ) → spell (register_piece r) ≡ register_name r
register_spelt r = append-nil (register_name r)

pub immediate_spelt : (n : ℕ) → spell (immediate_piece n) ≡ codes "#" ++ decimal n
immediate_spelt n = ap (λ t. codes "#" ++ t) (append-nil (decimal n))

pub registers_spelt : (rs : List ℕ) → map spell (map register_piece rs) ≡ map register_name rs
registers_spelt [] = refl
registers_spelt (r ∷ rs) = ap (λ t. t ∷ map spell (map register_piece rs)) (register_spelt r) ∙ ap (λ ts. register_name r ∷ ts) (registers_spelt rs)

pub shift_spelt : (imm kind : ℕ) → map spell (shift_pieces imm kind) ≡ shift_operands imm kind
unfolding shift_operands
shift_spelt imm kind = by_kind ((imm == 0) && (kind == 0)) ((imm == 0) && (kind == 3))
  where
    by_kind : (a b : Bool) → map spell (if a then [] else if b then (Word (codes "rrx") ∷ []) ∷ [] else (Word (shift_name kind) ∷ Gap ∷ immediate_piece (if imm == 0 then 32 else imm)) ∷ [])
        ≡ (if a then [] else if b then codes "rrx" ∷ [] else (shift_name kind ++ (codes " " ++ (codes "#" ++ decimal (if imm == 0 then 32 else imm)))) ∷ [])
    by_kind true b = refl
    by_kind false true = refl
    by_kind false false = ap (λ t. (shift_name kind ++ (codes " " ++ t)) ∷ []) (immediate_spelt (if imm == 0 then 32 else imm))

pub constant_spelt : (rot imm : ℕ) → map spell (constant_pieces rot imm) ≡ constant_operands rot imm
unfolding constant_operands
constant_spelt rot imm = by_lowest (is_lowest (constant_of rot imm) rot)
  where
    by_lowest : (b : Bool) → map spell (if b then immediate_piece (constant_of rot imm) ∷ [] else immediate_piece imm ∷ (Word (decimal (2 * rot)) ∷ []) ∷ [])
        ≡ (if b then (codes "#" ++ decimal (constant_of rot imm)) ∷ [] else (codes "#" ++ decimal imm) ∷ decimal (2 * rot) ∷ [])
    by_lowest true = ap (λ t. t ∷ []) (immediate_spelt (constant_of rot imm))
    by_lowest false = ap (λ t. t ∷ spell (Word (decimal (2 * rot)) ∷ []) ∷ []) (immediate_spelt imm) ∙ ap (λ t. (codes "#" ++ decimal imm) ∷ t ∷ []) (append-nil (decimal (2 * rot)))

pub arg_spelt : (arg : Arg) → map spell (arg_pieces arg) ≡ arg_operands arg
arg_spelt (Imm rot imm) = constant_spelt rot imm
arg_spelt (ByImm imm kind m) = ap (λ t. t ∷ map spell (shift_pieces imm kind)) (register_spelt m) ∙ ap (λ ts. register_name m ∷ ts) (shift_spelt imm kind)
arg_spelt (ByReg s2 kind m) =
    ap (λ t. t ∷ (shift_name kind ++ (codes " " ++ (register_name s2 ++ []))) ∷ []) (register_spelt m)
    ∙ ap (λ t. register_name m ∷ (shift_name kind ++ (codes " " ++ t)) ∷ []) (append-nil (register_name s2))

pub data_spelt : (op n d : ℕ) (arg : Arg) → map spell (data_pieces op n d arg) ≡ map register_name (data_registers op n d) ++ arg_operands arg
data_spelt op n d arg =
    map-append spell (map register_piece (data_registers op n d)) (arg_pieces arg)
    ∙ ap (λ ts. ts ++ map spell (arg_pieces arg)) (registers_spelt (data_registers op n d)) ∙ ap (λ ts. map register_name (data_registers op n d) ++ ts) (arg_spelt arg)

-- ---- pieces are clear of each other

pub register_word : (r : ℕ) → r < 16 → IsWord (register_name r)
unfolding register_name is_word
register_word r h = each16 (λ r. IsWord (register_name r)) (record { some = omega arith; bytes = refl }) (record { some = omega arith; bytes = refl }) (record { some = omega arith; bytes = refl }) (record { some = omega arith; bytes = refl }) (record { some = omega arith; bytes = refl }) (record { some = omega arith; bytes = refl }) (record { some = omega arith; bytes = refl }) (record { some = omega arith; bytes = refl }) (record { some = omega arith; bytes = refl }) (record { some = omega arith; bytes = refl }) (record { some = omega arith; bytes = refl }) (record { some = omega arith; bytes = refl }) (record { some = omega arith; bytes = refl }) (record { some = omega arith; bytes = refl }) (record { some = omega arith; bytes = refl }) (record { some = omega arith; bytes = refl }) r h

pub shift_word : (k : ℕ) → k < 4 → IsWord (shift_name k)
unfolding shift_name is_word
shift_word k h = each4 (λ k. IsWord (shift_name k)) (record { some = omega arith; bytes = refl }) (record { some = omega arith; bytes = refl }) (record { some = omega arith; bytes = refl }) (record { some = omega arith; bytes = refl }) k h

rrx_word : IsWord (codes "rrx")
unfolding is_word
rrx_word = record { some = omega arith; bytes = refl }

pub hash_mark : is_mark 0x23 ≡ true
unfolding is_mark is_word
hash_mark = refl

-- a word by itself
pub word_fine : (word : List ℕ) → IsWord word → Fine (Word word ∷ [])
unfolding NoGap NoWord
word_fine word w = ((w, (tt, tt)), tt)

pub immediate_fine : (n : ℕ) → n < 2 ^ 32 → Fine (immediate_piece n)
unfolding NoGap NoWord
immediate_fine n h = ((hash_mark, (tt, (decimal_word n h, (tt, tt)))), tt)

amount_fine : (kind n : ℕ) → kind < 4 → n < 2 ^ 32 → Fine (Word (shift_name kind) ∷ Gap ∷ immediate_piece n)
unfolding NoGap NoWord Other
amount_fine kind n k h = ((shift_word kind k, (tt, (refl, (hash_mark, (tt, (decimal_word n h, (tt, tt))))))), tt)

by_register_fine : (kind s2 : ℕ) → kind < 4 → s2 < 16 → Fine (Word (shift_name kind) ∷ Gap ∷ Word (register_name s2) ∷ [])
unfolding NoGap NoWord Other
by_register_fine kind s2 k h = ((shift_word kind k, (tt, (tt, (register_word s2 h, (tt, tt))))), tt)

pub shift_fine : (imm kind : ℕ) → imm < 32 → kind < 4 → AllFine (shift_pieces imm kind)
shift_fine imm kind i k = by_kind ((imm == 0) && (kind == 0)) ((imm == 0) && (kind == 3))
  where
    by_kind : (a b : Bool) → AllFine (if a then [] else if b then (Word (codes "rrx") ∷ []) ∷ [] else (Word (shift_name kind) ∷ Gap ∷ immediate_piece (if imm == 0 then 32 else imm)) ∷ [])
    by_kind true b = tt
    by_kind false true = (word_fine (codes "rrx") rrx_word, tt)
    by_kind false false = (amount_fine kind (if imm == 0 then 32 else imm) k (small imm i), tt)

pub constant_fine : (rot imm : ℕ) → rot < 16 → imm < 256 → AllFine (constant_pieces rot imm)
constant_fine rot imm r i = by_lowest (is_lowest (constant_of rot imm) rot)
  where
    by_lowest : (b : Bool) → AllFine (if b then immediate_piece (constant_of rot imm) ∷ [] else immediate_piece imm ∷ (Word (decimal (2 * rot)) ∷ []) ∷ [])
    by_lowest true = (immediate_fine (constant_of rot imm) (constant_fits rot imm r i), tt)
    by_lowest false = (immediate_fine imm (omega arith), (word_fine (decimal (2 * rot)) (decimal_word (2 * rot) (omega arith)), tt))

pub arg_fine : (arg : Arg) → Fit (arg_fields arg) → AllFine (arg_pieces arg)
arg_fine (Imm rot imm) fit = constant_fine rot imm fit.0 fit.1.0
arg_fine (ByImm imm kind m) fit = (word_fine (register_name m) (register_word m fit.1.1.1.0), shift_fine imm kind fit.0 fit.1.0)
arg_fine (ByReg s2 kind m) fit = (word_fine (register_name m) (register_word m fit.1.1.1.1.0), (by_register_fine kind s2 fit.1.1.0 fit.0, tt))

pub append_fine : (a b : List (List Token)) → AllFine a → AllFine b → AllFine (a ++ b)
append_fine [] b f g = g
append_fine (p ∷ a) b f g = (f.0, append_fine a b f.1 g)

pub data_fine : (op n d : ℕ) (arg : Arg) → n < 16 → d < 16 → Fit (arg_fields arg) → AllFine (data_pieces op n d arg)
data_fine op n d arg hn hd fit = append_fine (map register_piece (data_registers op n d)) (arg_pieces arg) (by_kind (is_comparison op) (is_move op)) (arg_fine arg fit)
  where
    by_kind : (c m : Bool) → AllFine (map register_piece (if c then n ∷ [] else if m then d ∷ [] else d ∷ n ∷ []))
    by_kind true m = (word_fine (register_name n) (register_word n hn), tt)
    by_kind false true = (word_fine (register_name d) (register_word d hd), tt)
    by_kind false false = (word_fine (register_name d) (register_word d hd), (word_fine (register_name n) (register_word n hn), tt))

abbrev pub AllBelow : List ℕ → Type 0
AllBelow [] = Unit {0}
AllBelow (r ∷ rs) = (r < 16) × AllBelow rs

-- registers by themselves
pub registers_fine : (rs : List ℕ) → AllBelow rs → AllFine (map register_piece rs)
registers_fine [] h = tt
registers_fine (r ∷ rs) h = (word_fine (register_name r) (register_word r h.0), registers_fine rs h.1)
