-- What the statements of a job give, which further statements they rule out, and the job that they make.
use Rattle.std.specs.Prelude.{ℕ, ◌*◌, Bool, nat_le, nat_lt, ◌&&◌, List, [], ◌∷◌, ◌++◌, length, if◌then◌else◌, Option, Some, None, Result, Ok, Err, unwrap_or}
use Rattle.std.specs.Option.{option_or, option_map_or}
use Rattle.std.specs.List.{filter_map, list_any}
use Rattle.std.specs.Str.{bytes_eq}
use Rattle.load_model.specs.declared.plan.MemPlan.{MemPlan}
use Rattle.load_model.specs.declared.plan.PlaceLine.{PlaceLine}
use Rattle.load_model.specs.Plan.{low_of, high_of}
use Rattle.run_model.specs.declared.job.Job.{Job}
use Rattle.run_model.specs.declared.job.Turn.{Turn}
use Rattle.job_text.specs.declared.given.Given.{Given}
use Rattle.job_text.specs.declared.limits.Limits.{Limits}
use Rattle.job_text.specs.declared.refusal.JobKind.{JobKind}
use Rattle.job_text.specs.declared.refusal.JobKind.TheVariants.{Twice, TooMany, NoProgram, Small}
use Rattle.job_text.specs.declared.statement.Statement.{Statement}
use Rattle.job_text.specs.declared.statement.Statement.TheVariants.{Program, Memory, Descriptors, Stack, Steps, Mode, Place, Turn as TurnLine}

-- ---- the value of a statement, where it is of the kind

abbrev pub program_in : Statement → Option (List ℕ)
program_in (Program name) = Some name
program_in other = None

abbrev pub memory_in : Statement → Option ℕ
memory_in (Memory n) = Some n
memory_in other = None

abbrev pub descriptors_in : Statement → Option ℕ
descriptors_in (Descriptors n) = Some n
descriptors_in other = None

abbrev pub stack_in : Statement → Option ℕ
stack_in (Stack n) = Some n
stack_in other = None

abbrev pub steps_in : Statement → Option ℕ
steps_in (Steps n) = Some n
steps_in other = None

abbrev pub lazy_in : Statement → Option Bool
lazy_in (Mode lazy) = Some lazy
lazy_in other = None

abbrev pub place_in : Statement → Option PlaceLine
place_in (Place line) = Some line
place_in other = None

abbrev pub turn_in : Statement → Option Turn
turn_in (TurnLine turn) = Some turn
turn_in other = None

-- ---- what statements give

-- the value of the first statement that has one
abbrev pub first_of : {X : Type 0} → (Statement → Option X) → List Statement → Option X
first_of value [] = None
first_of value (statement ∷ statements) = option_or (value statement) (first_of value statements)

unfoldable pub given_by : List Statement → Given
given_by statements = record {
  program = first_of program_in statements;
  memory = first_of memory_in statements;
  descriptors = first_of descriptors_in statements;
  stack = first_of stack_in statements;
  steps = first_of steps_in statements;
  lazy = first_of lazy_in statements;
  places = filter_map place_in statements;
  turns = filter_map turn_in statements;
}

-- the same with one more statement, which nothing given rules out
abbrev pub with_statement : Statement → Given → Given
with_statement (Program name) given = record given { program = Some name }
with_statement (Memory n) given = record given { memory = Some n }
with_statement (Descriptors n) given = record given { descriptors = Some n }
with_statement (Stack n) given = record given { stack = Some n }
with_statement (Steps n) given = record given { steps = Some n }
with_statement (Mode lazy) given = record given { lazy = Some lazy }
with_statement (Place line) given = record given { places = given.places ++ line ∷ [] }
with_statement (TurnLine turn) given = record given { turns = given.turns ++ turn ∷ [] }

-- ---- which further statements are ruled out

-- what may be given once, where this is given
abbrev pub once : {X : Type 0} → Option X → Option JobKind
once None = None
once (Some x) = Some Twice

-- what may be given so often, where these are given
abbrev pub too_many : {X : Type 0} → ℕ → List X → Option JobKind
too_many most xs = if nat_le most (length xs) then Some TooMany else None

-- a place line: Twice where its name has one, and then TooMany
unfoldable pub place_refusal : ℕ → List PlaceLine → PlaceLine → Option JobKind
place_refusal most places line =
    if list_any (λ (earlier : PlaceLine). bytes_eq earlier.name line.name) places then Some Twice else too_many most places

-- what rules a further statement out, where this is given
unfoldable pub repeat_refusal : Limits → Given → Statement → Option JobKind
repeat_refusal limits given (Program name) = once given.program
repeat_refusal limits given (Memory n) = once given.memory
repeat_refusal limits given (Descriptors n) = once given.descriptors
repeat_refusal limits given (Stack n) = once given.stack
repeat_refusal limits given (Steps n) = once given.steps
repeat_refusal limits given (Mode lazy) = once given.lazy
repeat_refusal limits given (Place line) = place_refusal limits.places given.places line
repeat_refusal limits given (TurnLine turn) = too_many limits.turns given.turns

-- ---- the job

-- whether the parts of the memory fit, as a test of `Fits`
abbrev pub has_room : MemPlan → Bool
has_room plan =
    nat_lt 0 plan.threads
    && (nat_lt 0 plan.processes && (nat_le (plan.threads * plan.stack) plan.memory && nat_le (low_of plan) (high_of plan)))

-- the values that are given, and else the defaults, for one process
abbrev pub plan_by : Limits → Given → MemPlan
plan_by limits given = record {
  memory = unwrap_or given.memory limits.memory.default;
  descriptors = unwrap_or given.descriptors limits.descriptors.default;
  stack = unwrap_or given.stack limits.stack.default;
  places = given.places;
  threads = limits.threads;
  processes = 1;
}

abbrev pub job_of_program : Limits → Given → List ℕ → Job
job_of_program limits given program = record {
  plan = plan_by limits given;
  lazy = unwrap_or given.lazy limits.lazy;
  steps = unwrap_or given.steps limits.steps.default;
  program = program;
  turns = given.turns;
}

-- the job: NoProgram without a program, and then Small where the parts don't fit
unfoldable pub job_by : Limits → Given → Result Job JobKind
job_by limits given =
    option_map_or (λ program. if has_room (plan_by limits given) then Ok (job_of_program limits given program) else Err Small)
    given.program (Err NoProgram)
