-- What each kind of refusal means.
use Rattle.std.specs.Prelude.{◌≡◌, ℕ, ◌≤◌, false, List, ◌∷◌, length, Any, Some, None, Ok, IsSome}
use Rattle.load_model.specs.declared.plan.PlaceLine.{PlaceLine}
use Rattle.job_text.specs.declared.given.Given.{Given}
use Rattle.job_text.specs.declared.limits.Limits.{Limits}
use Rattle.job_text.specs.declared.statement.Statement.{Statement}
use Rattle.job_text.specs.declared.statement.Statement.TheVariants.{Program, Memory, Descriptors, Stack, Steps, Mode, Place, Turn as TurnLine}
use Rattle.job_text.specs.Fields.{fields_of}
use Rattle.job_text.specs.Statement.{word_of, is_comment, statement_of}

-- Word: the first field of the line is no word of jobs, and begins no comment
pub record HasNoWord (line : List ℕ) : Type 0 where
  pub word : List ℕ
  pub fields : List (List ℕ)
  pub are_fields : fields_of line ≡ word ∷ fields
  pub no_comment : is_comment word ≡ false
  pub no_word : word_of word ≡ None

-- the same is given already: the value of the statement's kind, or a place line of its name
abbrev pub IsGiven : Given → Statement → Type 0
IsGiven given (Program name) = IsSome given.program
IsGiven given (Memory n) = IsSome given.memory
IsGiven given (Descriptors n) = IsSome given.descriptors
IsGiven given (Stack n) = IsSome given.stack
IsGiven given (Steps n) = IsSome given.steps
IsGiven given (Mode lazy) = IsSome given.lazy
IsGiven given (Place line) = Any (λ (earlier : PlaceLine). earlier.name ≡ line.name) given.places
IsGiven given (TurnLine turn) = ⊥

-- there are as many such lines as there may be
abbrev pub IsFull : Limits → Given → Statement → Type 0
IsFull limits given (Place line) = limits.places ≤ length given.places
IsFull limits given (TurnLine turn) = limits.turns ≤ length given.turns
IsFull limits given other = ⊥

-- Twice: the line has a statement, and the same is given already
pub record SaysTwice (limits : Limits) (given : Given) (line : List ℕ) : Type 0 where
  pub statement : Statement
  pub said : statement_of limits line ≡ Ok (Some statement)
  pub is_given : IsGiven given statement

-- TooMany: the line has a statement, of which nothing is given already, and there are too many of its kind
pub record SaysTooMany (limits : Limits) (given : Given) (line : List ℕ) : Type 0 where
  pub statement : Statement
  pub said : statement_of limits line ≡ Ok (Some statement)
  pub not_given : ¬ IsGiven given statement
  pub is_full : IsFull limits given statement
