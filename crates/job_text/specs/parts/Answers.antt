-- What the stages of the reader answer. Want of memory is free.
use Rattle.std.specs.Prelude.{◌≡◌, ℕ, ◌+◌, ◌^◌, ◌<◌, true, List, length, drop, Option, Some, Result, Ok, Err}
use Rattle.fd_base.specs.Lines.{Lines}
use Rattle.job_text.specs.Job.{is_headed}
use Rattle.job_text.specs.declared.refusal.JobKind.{JobKind}
use Rattle.job_text.specs.declared.refusal.JobErr.{JobErr}
use Rattle.job_text.specs.declared.refusal.JobErr.TheVariants.{Refused as JobRefused, Memory as JobMemory}
use Rattle.job_text.specs.declared.refusal.JobRefusal.{JobRefusal}
use Rattle.job_text.specs.declared.refusal.LineErr.{LineErr}
use Rattle.job_text.specs.declared.refusal.LineErr.TheVariants.{Refused, Memory}

-- these are the lines behind the first one, which is that of a job
pub record AreBehindFirst (all : List (List ℕ)) (lines : Lines) : Type 0 where
  pub headed : is_headed all ≡ true
  pub before' : lines.before ≡ 1
  pub left' : lines.left ≡ drop 1 all
  pub few : length lines.left + 2 < 2 ^ 32

-- the answer of one line, as that of the line with this number
abbrev pub err_at : ℕ → LineErr → JobErr
err_at line (Refused kind) = JobRefused (record { line = line; kind = kind })
err_at line Memory = JobMemory

-- the answer of one line is this one
abbrev pub Says : {X : Type 0} → Result X LineErr → Result X JobKind → Type 0
Says (Ok x) wanted = wanted ≡ Ok x
Says (Err (Refused kind)) wanted = wanted ≡ Err kind
Says (Err Memory) wanted = Unit {0}

-- the refusal of one line is this one
abbrev pub IsOf : LineErr → Option JobKind → Type 0
IsOf (Refused kind) wanted = wanted ≡ Some kind
IsOf Memory wanted = Unit {0}

-- the refusal of a text is this one
abbrev pub IsRefusal : JobErr → Option JobRefusal → Type 0
IsRefusal (JobRefused refusal) wanted = wanted ≡ Some refusal
IsRefusal JobMemory wanted = Unit {0}

-- the answer for a text is this one
abbrev pub Answers : {X : Type 0} → Result X JobErr → Result X JobRefusal → Type 0
Answers (Ok x) wanted = wanted ≡ Ok x
Answers (Err (JobRefused refusal)) wanted = wanted ≡ Err refusal
Answers (Err JobMemory) wanted = Unit {0}

-- the answer is this one, unless memory was wanted
abbrev pub IsAnswer : {X : Type 0} → Result X JobErr → Result X JobErr → Type 0
IsAnswer (Ok x) wanted = Ok x ≡ wanted
IsAnswer (Err (JobRefused refusal)) wanted = Err (JobRefused refusal) ≡ wanted
IsAnswer (Err JobMemory) wanted = Unit {0}
