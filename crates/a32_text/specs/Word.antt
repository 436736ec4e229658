-- What words stand for: the tables of the instructions, read the other way.
use Rattle.std.specs.Prelude.{◌<◌, ℕ, nat_eq, nat_le, Bool, true, false, not, ◌&&◌, ◌-◌, List, [], ◌∷◌, length, take, drop, codes, find, Option, Some, None, option_map, option_and_then, if◌then◌else◌}
use Rattle.std.specs.Option.{option_or}
use Rattle.std.specs.List.{list_all, range_with_len}
use Rattle.std.specs.Str.{bytes_eq}
use lib.Pointwise.{pointwise}
use Rattle.a32_isa.specs.Names.{register_name, condition_name, data_name, half_name, long_name, shift_name}
use Rattle.a32_isa.specs.Registers.{is_comparison}
use Rattle.a32_text.specs.Token.{is_decimal, is_word}
use Rattle.a32_text.specs.declared.head.Mnemonic.{Mnemonic}
use Rattle.a32_text.specs.declared.head.Head.{Head}
use Rattle.a32_text.specs.declared.head.Head.TheVariants.{Data, Mul, Mla, Long, Clz, Movw, Movt, Nop, Mem, Half, Multi, Stack, Branch, Bx, Blx, Svc}

-- the first number below n that has the name
abbrev pub numbered : (ℕ → List ℕ) → ℕ → List ℕ → Option ℕ
numbered name n word = find (λ k. bytes_eq (name k) word) (range_with_len 0 n)

-- r13 to r15 and ip, beside the names that are printed
unfoldable pub other_register : List ℕ → Option ℕ
other_register word =
    if bytes_eq word (codes "r13") then Some 13
    else if bytes_eq word (codes "r14") then Some 14
    else if bytes_eq word (codes "r15") then Some 15
    else if bytes_eq word (codes "ip") then Some 12
    else None

unfoldable pub register_of : List ℕ → Option ℕ
register_of word = option_or (numbered register_name 16 word) (other_register word)

unfoldable pub shift_of : List ℕ → Option ℕ
shift_of word = numbered shift_name 4 word

-- always has no name
unfoldable pub condition_of : List ℕ → Option ℕ
condition_of word = numbered condition_name 14 word

-- comparisons set the flags without `s`
abbrev pub setting_head : ℕ → Option Head
setting_head op = if is_comparison op then None else Some (Data op true)

-- the name before an `s` at the end
abbrev pub setting_name : List ℕ → Option (List ℕ)
setting_name word = if pointwise nat_eq (drop (length word - 1) word) (codes "s") then Some (take (length word - 1) word) else None

-- a data operation, and with `s` behind its name one that sets the flags
unfoldable pub data_head : List ℕ → Option Head
data_head word =
    option_or (option_map (λ op. Data op false) (numbered data_name 16 word))
    (option_and_then (λ name. option_and_then setting_head (numbered data_name 16 name)) (setting_name word))

-- loads and stores of a word or byte
unfoldable pub single_head : List ℕ → Option Head
single_head word =
    if bytes_eq word (codes "ldr") then Some (Mem true false)
    else if bytes_eq word (codes "str") then Some (Mem false false)
    else if bytes_eq word (codes "ldrb") then Some (Mem true true)
    else if bytes_eq word (codes "strb") then Some (Mem false true)
    else None

-- branches and the supervisor's call
unfoldable pub branch_head : List ℕ → Option Head
branch_head word =
    if bytes_eq word (codes "b") then Some (Branch false)
    else if bytes_eq word (codes "bl") then Some (Branch true)
    else if bytes_eq word (codes "bx") then Some Bx
    else if bytes_eq word (codes "blx") then Some Blx
    else if bytes_eq word (codes "svc") then Some Svc
    else None

-- multiple loads and stores
unfoldable pub multi_head : List ℕ → Option Head
multi_head word =
    if bytes_eq word (codes "ldmia") then Some (Multi true false true)
    else if bytes_eq word (codes "ldmib") then Some (Multi true true true)
    else if bytes_eq word (codes "ldmda") then Some (Multi true false false)
    else if bytes_eq word (codes "ldmdb") then Some (Multi true true false)
    else if bytes_eq word (codes "stmia") then Some (Multi false false true)
    else if bytes_eq word (codes "stmib") then Some (Multi false true true)
    else if bytes_eq word (codes "stmda") then Some (Multi false false false)
    else if bytes_eq word (codes "stmdb") then Some (Multi false true false)
    else if bytes_eq word (codes "push") then Some (Stack false)
    else if bytes_eq word (codes "pop") then Some (Stack true)
    else None

-- multiplications of words, and what has no kinds
unfoldable pub plain_head : List ℕ → Option Head
plain_head word =
    if bytes_eq word (codes "mul") then Some (Mul false)
    else if bytes_eq word (codes "muls") then Some (Mul true)
    else if bytes_eq word (codes "mla") then Some (Mla false)
    else if bytes_eq word (codes "mlas") then Some (Mla true)
    else if bytes_eq word (codes "clz") then Some Clz
    else if bytes_eq word (codes "movw") then Some Movw
    else if bytes_eq word (codes "movt") then Some Movt
    else if bytes_eq word (codes "nop") then Some Nop
    else None

-- long multiplications, with `s` behind their names where they set the flags
unfoldable pub long_head : List ℕ → Option Head
long_head word =
    option_or (option_map (λ kind. Long kind false) (numbered long_name 4 word))
    (option_and_then (λ name. option_map (λ kind. Long kind true) (numbered long_name 4 name)) (setting_name word))

-- loads and stores of halfwords and signed bytes
unfoldable pub half_head : List ℕ → Option Head
half_head word = option_map (λ kind. Half kind) (numbered half_name 4 word)

-- what a word says that has no condition
unfoldable pub head_of : List ℕ → Option Head
head_of word =
    option_or (data_head word) (option_or (single_head word) (option_or (branch_head word) (option_or (multi_head word)
    (option_or (plain_head word) (option_or (long_head word) (half_head word))))))

abbrev pub mnemonic_with : ℕ → Head → Mnemonic
mnemonic_with cond head = record { head = head; cond = cond }

-- a head, and behind it a condition, two letters
unfoldable pub conditional_of : List ℕ → Option Mnemonic
conditional_of word =
    option_and_then (λ cond. option_map (mnemonic_with cond) (head_of (take (length word - 2) word)))
    (condition_of (drop (length word - 2) word))

unfoldable pub mnemonic_of : List ℕ → Option Mnemonic
mnemonic_of word = option_or (option_map (mnemonic_with 14) (head_of word)) (conditional_of word)

-- letters, digits, `_`, `.` and `$`, up to 255 and the first of them no digit
unfoldable pub is_name : List ℕ → Bool
is_name [] = false
is_name (first ∷ others) = not (is_decimal first) && (nat_le (length (first ∷ others)) 255 && list_all is_word (first ∷ others))

-- a head whose numbers are those of rows
abbrev pub IsHead : Head → Type 0
IsHead (Data op s) = op < 16
IsHead (Mul s) = Unit {0}
IsHead (Mla s) = Unit {0}
IsHead (Long kind s) = kind < 4
IsHead Clz = Unit {0}
IsHead Movw = Unit {0}
IsHead Movt = Unit {0}
IsHead Nop = Unit {0}
IsHead (Mem load byte) = Unit {0}
IsHead (Half kind) = kind < 4
IsHead (Multi load p u) = Unit {0}
IsHead (Stack load) = Unit {0}
IsHead (Branch link) = Unit {0}
IsHead Bx = Unit {0}
IsHead Blx = Unit {0}
IsHead Svc = Unit {0}
