-- The words of the assembler's language (Arm ARM, DDI 0406C, A8.2 and A8.8), by the numbers that stand for
-- them in instructions.
use Rattle.std.specs.Prelude.{ℕ, List, [], ◌∷◌, get_or, codes}

abbrev pub name_at : List (List ℕ) → ℕ → List ℕ
name_at names number = get_or names number []

unfoldable pub register_name : ℕ → List ℕ
register_name r =
    name_at (codes "r0" ∷ codes "r1" ∷ codes "r2" ∷ codes "r3" ∷ codes "r4" ∷ codes "r5" ∷ codes "r6" ∷ codes "r7"
    ∷ codes "r8" ∷ codes "r9" ∷ codes "r10" ∷ codes "r11" ∷ codes "r12" ∷ codes "sp" ∷ codes "lr" ∷ codes "pc" ∷ []) r

-- A8.3; always (14) is not written
unfoldable pub condition_name : ℕ → List ℕ
condition_name cond =
    name_at (codes "eq" ∷ codes "ne" ∷ codes "cs" ∷ codes "cc" ∷ codes "mi" ∷ codes "pl" ∷ codes "vs" ∷ codes "vc"
    ∷ codes "hi" ∷ codes "ls" ∷ codes "ge" ∷ codes "lt" ∷ codes "gt" ∷ codes "le" ∷ []) cond

unfoldable pub data_name : ℕ → List ℕ
data_name op =
    name_at (codes "and" ∷ codes "eor" ∷ codes "sub" ∷ codes "rsb" ∷ codes "add" ∷ codes "adc" ∷ codes "sbc" ∷ codes "rsc"
    ∷ codes "tst" ∷ codes "teq" ∷ codes "cmp" ∷ codes "cmn" ∷ codes "orr" ∷ codes "mov" ∷ codes "bic" ∷ codes "mvn" ∷ []) op

unfoldable pub long_name : ℕ → List ℕ
long_name kind = name_at (codes "umull" ∷ codes "umlal" ∷ codes "smull" ∷ codes "smlal" ∷ []) kind

unfoldable pub half_name : ℕ → List ℕ
half_name kind = name_at (codes "strh" ∷ codes "ldrh" ∷ codes "ldrsb" ∷ codes "ldrsh" ∷ []) kind

-- A8.4
unfoldable pub shift_name : ℕ → List ℕ
shift_name kind = name_at (codes "lsl" ∷ codes "lsr" ∷ codes "asr" ∷ codes "ror" ∷ []) kind
