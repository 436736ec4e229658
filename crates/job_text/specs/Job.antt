-- The job of a text, and why a text is none.
use Rattle.std.specs.Prelude.{◌≡◌, ℕ, ◌+◌, Bool, false, ◌&&◌, List, [], ◌∷◌, ◌++◌, length, drop, codes, if◌then◌else◌, Option, Some, None, option_map, Result, Ok, Err}
use Rattle.std.specs.Option.{option_or}
use Rattle.std.specs.List.{filter_map}
use Rattle.std.specs.Result.{result_map_both}
use Rattle.std.specs.Str.{bytes_eq}
use Rattle.fd_base.specs.Lines.{lines_of}
use Rattle.run_model.specs.declared.job.Job.{Job}
use Rattle.job_text.specs.declared.given.Given.{Given}
use Rattle.job_text.specs.declared.limits.Limits.{Limits}
use Rattle.job_text.specs.Format.{first_format}
use Rattle.job_text.specs.declared.refusal.JobKind.{JobKind}
use Rattle.job_text.specs.declared.refusal.JobKind.TheVariants.{First}
use Rattle.job_text.specs.declared.refusal.JobRefusal.{JobRefusal}
use Rattle.job_text.specs.declared.statement.Statement.{Statement}
use Rattle.job_text.specs.declared.refusal.JobErr.{JobErr}
use Rattle.job_text.specs.declared.refusal.JobErr.TheVariants.{Refused, Memory}
use Rattle.job_text.specs.Fields.{fields_of}
use Rattle.job_text.specs.Statement.{statement_of}
use Rattle.job_text.specs.Given.{given_by, with_statement, repeat_refusal, job_by}

-- ---- the first line

-- whether these are the two fields of a first line
abbrev pub is_header : List (List ℕ) → Bool
is_header [] = false
is_header (word ∷ []) = false
is_header (word ∷ format ∷ []) = bytes_eq word (codes "fdpic-job") && bytes_eq format (codes "1")
is_header (word ∷ format ∷ third ∷ more) = false

-- whether the first of these lines is the first line of a job
abbrev pub is_headed : List (List ℕ) → Bool
is_headed [] = false
is_headed (line ∷ lines) = is_header (fields_of line)

-- ---- the lines behind it

-- the statement, where there is one
abbrev pub statement_in : Result (Option Statement) JobKind → Option Statement
statement_in (Ok said) = said
statement_in (Err kind) = None

-- what the statements of these lines give
abbrev pub given_behind : Limits → List (List ℕ) → Given
given_behind limits lines = given_by (filter_map (λ line. statement_in (statement_of limits line)) lines)

-- What refuses a line that says this, where that is given by the lines before it: what is wrong with it by itself, and
-- else what rules its statement out.
abbrev pub refusal_by : Limits → Given → Result (Option Statement) JobKind → Option JobKind
refusal_by limits given (Err kind) = Some kind
refusal_by limits given (Ok None) = None
refusal_by limits given (Ok (Some statement)) = repeat_refusal limits given statement

-- what refuses a line, where that is given by the lines before it
abbrev pub line_refusal : Limits → Given → List ℕ → Option JobKind
line_refusal limits given line = refusal_by limits given (statement_of limits line)

-- the refusal of this kind at the line with this number
abbrev pub refused_at : ℕ → JobKind → JobRefusal
refused_at line kind = record { line = line; kind = kind }

-- The refusal of the first line that has one, each with the lines before it. The lines begin with line 2.
abbrev pub first_refusal : Limits → List (List ℕ) → List (List ℕ) → Option JobRefusal
first_refusal limits before [] = None
first_refusal limits before (line ∷ lines) =
    option_or (option_map (refused_at (length before + 2)) (line_refusal limits (given_behind limits before) line))
    (first_refusal limits (before ++ line ∷ []) lines)

-- what is given with one more line
abbrev pub given_with : Result (Option Statement) JobKind → Given → Given
given_with (Err kind) given = given
given_with (Ok None) given = given
given_with (Ok (Some statement)) given = with_statement statement given

-- ---- the job

-- the refusal, where there is one, and else the answer
abbrev pub unless : {X : Type 0} → Option JobRefusal → Result X JobRefusal → Result X JobRefusal
unless None answer = answer
unless (Some refusal) answer = Err refusal

-- The job of the lines behind the first: what refuses a line comes before what refuses the job. That has the number
-- behind the last line.
unfoldable pub job_behind : Limits → List (List ℕ) → Result Job JobRefusal
job_behind limits lines =
    unless (first_refusal limits [] lines)
    (result_map_both (λ job. job) (refused_at (length lines + 2)) (job_by limits (given_behind limits lines)))

-- the job of the lines of a text, or its refusal
unfoldable pub job_of : Limits → List (List ℕ) → Result Job JobRefusal
job_of limits lines = if is_headed lines then job_behind limits (drop 1 lines) else Err (refused_at 1 First)

-- the bytes are this job, in the format 1
abbrev pub IsJob : List ℕ → Job → Type 0
IsJob bytes job = job_of first_format (lines_of bytes) ≡ Ok job

-- the bytes are no job of the format 1, and this is the first cause
abbrev pub IsRefused : List ℕ → JobRefusal → Type 0
IsRefused bytes refusal = job_of first_format (lines_of bytes) ≡ Err refusal

-- the error says why the bytes are no job, and want of memory says nothing
abbrev pub IsRefusedBy : List ℕ → JobErr → Type 0
IsRefusedBy bytes (Refused refusal) = IsRefused bytes refusal
IsRefusedBy bytes Memory = Unit {0}
