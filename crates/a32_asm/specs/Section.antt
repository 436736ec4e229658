-- The sections of a text, by number: their names are those of their directives.
use Rattle.std.specs.Prelude.{ℕ, List, [], ◌∷◌, get_or, codes}

unfoldable pub section_name : ℕ → List ℕ
section_name number = get_or (codes ".text" ∷ codes ".rodata" ∷ codes ".data" ∷ []) number (codes ".bss")

-- SHT_PROGBITS, and SHT_NOBITS of `.bss`
abbrev pub section_kind : ℕ → ℕ
section_kind number = get_or (1 ∷ 1 ∷ 1 ∷ []) number 8

-- SHF_ALLOC, with SHF_EXECINSTR or SHF_WRITE
abbrev pub section_flags : ℕ → ℕ
section_flags number = get_or (6 ∷ 2 ∷ 3 ∷ []) number 3
