-- What the stages answer. Want of memory is free.
use Rattle.std.specs.Prelude.{◌≡◌, ℕ, Option, Some, Result, Ok, Err}
use Rattle.a32_text.specs.declared.refusal.AsmKind.{AsmKind}
use Rattle.a32_asm.specs.declared.refusal.AsmRefusal.{AsmRefusal}
use Rattle.a32_asm.specs.declared.refusal.AsmErr.{AsmErr}
use Rattle.a32_asm.specs.declared.refusal.AsmErr.TheVariants.{Refused as TextRefused, TooLong, Memory as TextMemory}
use Rattle.a32_asm.specs.declared.refusal.LineErr.{LineErr}
use Rattle.a32_asm.specs.declared.refusal.LineErr.TheVariants.{Refused, Memory}

-- the refusal of one line is this one
abbrev pub IsOf : LineErr → Option AsmKind → Type 0
IsOf (Refused kind) wanted = wanted ≡ Some kind
IsOf Memory wanted = Unit {0}

-- the state behind one line is this one, or its refusal
abbrev pub StepsTo : {X : Type 0} → Result (Unit {0}) LineErr → X → Result X AsmKind → Type 0
StepsTo (Ok done) new wanted = wanted ≡ Ok new
StepsTo (Err (Refused kind)) new wanted = wanted ≡ Err kind
StepsTo (Err Memory) new wanted = Unit {0}

-- the answer of one line, as that of the line with this number
abbrev pub err_at : ℕ → LineErr → AsmErr
err_at line (Refused kind) = TextRefused (record { line = line; kind = kind })
err_at line Memory = TextMemory

-- a pass answers this
abbrev pub Answers : {X : Type 0} → Result X AsmErr → Result X AsmRefusal → Type 0
Answers (Ok x) wanted = wanted ≡ Ok x
Answers (Err (TextRefused refusal)) wanted = wanted ≡ Err refusal
Answers (Err (TooLong n)) wanted = ⊥
Answers (Err TextMemory) wanted = Unit {0}
