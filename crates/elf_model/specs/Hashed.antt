-- The hash of symbol names (gABI, "Hash Table").
use Rattle.std.specs.Prelude.{ℕ, ◌+◌, ◌*◌, ◌-◌, ◌/◌, ◌%◌, ◌^◌, List, fold, bit_and, bit_xor}

-- one more byte is shifted in, and the top four bits are moved down by 24 and cleared
unfoldable pub step : ℕ → ℕ → ℕ
step h c =
    let shifted = (16 * h + c) % 2 ^ 32 in
    let top = bit_and shifted 0xf0000000 in
    bit_and (bit_xor shifted (top / 2 ^ 24)) (0xffffffff - top)

unfoldable pub symbol_hash : List ℕ → ℕ
symbol_hash name = fold step 0 name
