-- The table as a correspondence between words and instructions.
use Rattle.std.proofs.Common.{◌≡◌, ℕ, ◌^◌, ◌<◌, Option, Some, None, IfSome, refl, sym, ◌∙◌}
use Rattle.a32_isa.specs.Table.{IsInstr, IsInstruction, word_of}
use Rattle.a32_isa.specs.Decoding.{decode_of}
use Rattle.a32_isa.specs.declared.instr.Instr.{Instr}
use Rattle.a32_isa.proofs.Sound.{decode_of-row}
use Rattle.a32_isa.proofs.Complete.{IsInstruction-decode_of}

-- the word of an instruction is its row's
pub IsInstr-word_of : (i : Instr) → IsInstr i → IsInstruction (word_of i) i
IsInstr-word_of i h = record { instr = h; word = refl }

pub decode_of-word_of : (i : Instr) → IsInstr i → decode_of (word_of i) ≡ Some i
decode_of-word_of i h = IsInstruction-decode_of (word_of i) i (IsInstr-word_of i h)

pub one_word : (v w : ℕ) (i : Instr) → IsInstruction v i → IsInstruction w i → v ≡ w
one_word v w i p q = p.word ∙ sym q.word

pub one_instruction : (w : ℕ) (i j : Instr) → IsInstruction w i → IsInstruction w j → i ≡ j
one_instruction w i j p q =
    let same : Some i ≡ Some j = sym (IsInstruction-decode_of w i p) ∙ IsInstruction-decode_of w j q in cc

pub word_of-decode_of : (w : ℕ) → w < 2 ^ 32 → IfSome (decode_of w) (λ i. word_of i ≡ w)
word_of-decode_of w l = of_row (decode_of w) (decode_of-row w l)
  where
    of_row : (o : Option Instr) → IfSome o (IsInstruction w) → IfSome o (λ i. word_of i ≡ w)
    of_row None h = tt
    of_row (Some i) h = sym h.word
