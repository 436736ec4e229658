-- The definitions of an accepted object, computed on small files.
use Rattle.std.proofs.Common.{◌≡◌, ℕ, true, ◌||◌, ◌==◌, List, [], ◌∷◌, Some, None, refl}
use lib.Count.{ones}
use Rattle.std.specs.Prelude.{replicate}
use Rattle.std.specs.Int.{is_power_of_two}
use Rattle.elf_model.specs.declared.refusal.ElfKind.TheVariants.{Short, Ident, Header}
use Rattle.elf_model.specs.Object.{refusal_of, object_of}
use Rattle.elf_model.specs.Places.{file_word}
use Rattle.elf_model.proofs.Computing.{computing}

-- alignment to words
pub word_aligned : (4 == 0 || is_power_of_two 4) ≡ true
unfolding ones
word_aligned = refl

-- a file of no bytes
no_bytes : refusal_of [] ≡ Some (record { kind = Short; at = 0 })
unfolding computing
no_bytes = refl

-- 51 bytes, whatever they are
short_file : refusal_of (replicate 51 127) ≡ Some (record { kind = Short; at = 51 })
unfolding computing
short_file = refl

-- a header for big-endian numbers
big_endian : refusal_of (127 ∷ 69 ∷ 76 ∷ 70 ∷ 1 ∷ 2 ∷ replicate 46 0) ≡ Some (record { kind = Ident; at = 5 })
unfolding computing
big_endian = refl

-- a whole header of a shared object with three program headers, and no byte behind it
header : List ℕ
header =
    127 ∷ 69 ∷ 76 ∷ 70 ∷ 1 ∷ 1 ∷ 1 ∷ 65 ∷ 0 ∷ 0 ∷ 0 ∷ 0 ∷ 0 ∷ 0 ∷ 0 ∷ 0 ∷ 3 ∷ 0 ∷ 40 ∷ 0 ∷ 1 ∷ 0 ∷ 0 ∷ 0 ∷ 0 ∷
    0 ∷ 0 ∷ 0 ∷ 52 ∷ 0 ∷ 0 ∷ 0 ∷ 0 ∷ 0 ∷ 0 ∷ 0 ∷ 0 ∷ 0 ∷ 0 ∷ 5 ∷ 52 ∷ 0 ∷ 32 ∷ 0 ∷ 3 ∷ 0 ∷ 40 ∷ 0 ∷ 0 ∷ 0 ∷ 0 ∷
    0 ∷ []

header_alone : refusal_of header ≡ Some (record { kind = Header; at = 28 })
unfolding computing header
header_alone = refl

-- A shared object of two segments with one slot: text at 0, data at 0x10000 with the GOT, the slot at 0x1000c, its
-- relocation at 0x10014 and the dynamic section at 0x1001c.
whole : List ℕ
whole =
    127 ∷ 69 ∷ 76 ∷ 70 ∷ 1 ∷ 1 ∷ 1 ∷ 65 ∷ 0 ∷ 0 ∷ 0 ∷ 0 ∷ 0 ∷ 0 ∷ 0 ∷ 0 ∷ 3 ∷ 0 ∷ 40 ∷ 0 ∷ 1 ∷ 0 ∷ 0 ∷ 0 ∷ 0 ∷
    0 ∷ 0 ∷ 0 ∷ 52 ∷ 0 ∷ 0 ∷ 0 ∷ 0 ∷ 0 ∷ 0 ∷ 0 ∷ 0 ∷ 0 ∷ 0 ∷ 5 ∷ 52 ∷ 0 ∷ 32 ∷ 0 ∷ 3 ∷ 0 ∷ 40 ∷ 0 ∷ 0 ∷ 0 ∷ 0 ∷
    0 ∷ 1 ∷ 0 ∷ 0 ∷ 0 ∷ 0 ∷ 0 ∷ 0 ∷ 0 ∷ 0 ∷ 0 ∷ 0 ∷ 0 ∷ 0 ∷ 0 ∷ 0 ∷ 0 ∷ 0 ∷ 0 ∷ 0 ∷ 0 ∷ 0 ∷ 4 ∷ 0 ∷ 0 ∷ 5 ∷ 0 ∷
    0 ∷ 0 ∷ 16 ∷ 0 ∷ 0 ∷ 0 ∷ 1 ∷ 0 ∷ 0 ∷ 0 ∷ 148 ∷ 0 ∷ 0 ∷ 0 ∷ 0 ∷ 0 ∷ 1 ∷ 0 ∷ 0 ∷ 0 ∷ 1 ∷ 0 ∷ 68 ∷ 0 ∷ 0 ∷ 0 ∷
    0 ∷ 1 ∷ 0 ∷ 0 ∷ 6 ∷ 0 ∷ 0 ∷ 0 ∷ 16 ∷ 0 ∷ 0 ∷ 0 ∷ 2 ∷ 0 ∷ 0 ∷ 0 ∷ 176 ∷ 0 ∷ 0 ∷ 0 ∷ 28 ∷ 0 ∷ 1 ∷ 0 ∷ 28 ∷ 0 ∷
    1 ∷ 0 ∷ 40 ∷ 0 ∷ 0 ∷ 0 ∷ 40 ∷ 0 ∷ 0 ∷ 0 ∷ 4 ∷ 0 ∷ 0 ∷ 0 ∷ 4 ∷ 0 ∷ 0 ∷ 0 ∷ 0 ∷ 0 ∷ 0 ∷ 0 ∷ 0 ∷ 0 ∷ 0 ∷ 0 ∷
    0 ∷ 0 ∷ 0 ∷ 0 ∷ 0 ∷ 3 ∷ 0 ∷ 0 ∷ 0 ∷ 0 ∷ 0 ∷ 0 ∷ 12 ∷ 0 ∷ 1 ∷ 0 ∷ 164 ∷ 0 ∷ 0 ∷ 0 ∷ 3 ∷ 0 ∷ 0 ∷ 0 ∷ 0 ∷ 0 ∷
    1 ∷ 0 ∷ 23 ∷ 0 ∷ 0 ∷ 0 ∷ 20 ∷ 0 ∷ 1 ∷ 0 ∷ 2 ∷ 0 ∷ 0 ∷ 0 ∷ 8 ∷ 0 ∷ 0 ∷ 0 ∷ 20 ∷ 0 ∷ 0 ∷ 0 ∷ 17 ∷ 0 ∷ 0 ∷ 0 ∷
    0 ∷ 0 ∷ 0 ∷ 0 ∷ 0 ∷ 0 ∷ 0 ∷ 0 ∷ []

accepted : refusal_of whole ≡ None
unfolding computing whole
accepted = refl

slots : (object_of whole).jmprels ≡ record { site = 65548; kind = 164; symbol = 0 } ∷ []
unfolding computing whole
slots = refl

word_of_slot : file_word (object_of whole).segments 65548 ≡ 768
unfolding computing whole
word_of_slot = refl
