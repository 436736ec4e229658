-- What a command comes to where nothing outside fails.
use Rattle.std.specs.Prelude.{ℕ, List, [], Option, Some, None, Result, Ok, Err}
use Rattle.fdpic_cmd.specs.declared.status.Status.{Status}
use Rattle.fdpic_cmd.specs.declared.status.Status.TheVariants.{Done, Refused}
use Rattle.fdpic_cmd.specs.declared.status.Refusal.{Refusal}

-- a file that is put
pub record Output : Type 0 where
  pub name : List ℕ
  pub bytes : List ℕ

-- the status, the text on out, and the file that is put
pub record Outcome : Type 0 where
  pub status : Status
  pub text : List ℕ
  pub output : Option Output

-- the command is done, and its text is written
abbrev pub writes : List ℕ → Outcome
writes text = record { status = Done; text = text; output = None }

-- the command is done, and its file is put
abbrev pub puts : List ℕ → List ℕ → Outcome
puts name bytes = record { status = Done; text = []; output = Some (record { name = name; bytes = bytes }) }

-- the command is refused, and nothing is written
abbrev pub refuses : Refusal → Outcome
refuses r = record { status = Refused r; text = []; output = None }

-- the file that is made is put, or the command is refused
abbrev pub put_as : List ℕ → Result (List ℕ) Refusal → Outcome
put_as out (Ok bytes) = puts out bytes
put_as out (Err refusal) = refuses refusal
