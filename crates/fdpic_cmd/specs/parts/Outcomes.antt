-- What the commands come to over told files.
use Rattle.fd_base.specs.Fetched.{Files}
use Rattle.fdpic_cmd.specs.declared.command.Command.{Command}
use Rattle.fdpic_cmd.specs.Meaning.{Means}
use Rattle.fdpic_cmd.specs.Outcome.{Outcome}

-- Each command over told files has an outcome.
abbrev pub CommandsComeTo : Type 0
CommandsComeTo = (command : Command) (told : Files) → (o : Outcome) × Means command told o
