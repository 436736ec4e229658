-- The first pass: what each line says and where it stands, or the first line that is refused.
use Rattle.std.specs.Prelude.{ℕ, ◌+◌, ◌==◌, List, [], ◌∷◌, ◌++◌, Result, Ok, Err}
use Rattle.std.specs.Option.{option_map_or}
use Rattle.a32_text.specs.declared.refusal.AsmKind.{AsmKind}
use Rattle.a32_asm.specs.declared.refusal.AsmRefusal.{AsmRefusal}
use Rattle.a32_asm.specs.declared.section.TheConstants.{BSS}
use Rattle.a32_asm.specs.Said.{Said}
use Rattle.a32_asm.specs.Line.{said_of}
use Rattle.a32_asm.specs.Layout.{Layout, with_said, place_refusal}

pub record Passed : Type 0 where
  pub saids : List Said
  pub layout : Layout

abbrev pub refused_at : ℕ → AsmKind → AsmRefusal
refused_at line kind = record { line = line; kind = kind }

-- with one more line, unless it is refused where it stands
abbrev pub with_line : Passed → Result Said AsmKind → Result Passed AsmKind
with_line passed (Err kind) = Err kind
with_line passed (Ok said) =
    option_map_or Err (place_refusal passed.layout said) (Ok (record { saids = passed.saids ++ said ∷ []; layout = with_said said passed.layout }))

-- the first refusal ends the pass
abbrev pub one_more : {X : Type 0} → ℕ → Result X AsmKind → (X → Result X AsmRefusal) → Result X AsmRefusal
one_more number (Err kind) rest = Err (refused_at number kind)
one_more number (Ok x) rest = rest x

-- the lines that are left behind those that have passed, the first of which has a number
abbrev pub first_pass : ℕ → Passed → List (List ℕ) → Result Passed AsmRefusal
first_pass number passed [] = Ok passed
first_pass number passed (line ∷ lines) =
    one_more number (with_line passed (said_of (passed.layout.here == BSS) line)) (λ next. first_pass (number + 1) next lines)
