-- What each command means.
use Rattle.std.specs.Prelude.{ℕ, List, Option, Some, None, Bool, true, false}
use Rattle.fd_base.specs.Fetched.{Files}
use Rattle.fdpic_cmd.specs.declared.command.Command.{Command}
use Rattle.fdpic_cmd.specs.declared.command.Command.TheVariants.{As, Bind, BindJob, Code, Link, Run, Show}
use Rattle.fdpic_cmd.specs.Outcome.{Outcome}
use Rattle.fdpic_cmd.specs.Assemble.{AsMeans}
use Rattle.fdpic_cmd.specs.Bind.{BindMeans}
use Rattle.fdpic_cmd.specs.Jobs.{BindJobMeans}
use Rattle.fdpic_cmd.specs.Link.{LinkMeans}
use Rattle.fdpic_cmd.specs.Run.{RunMeans}
use Rattle.fdpic_cmd.specs.Show.{CodeMeans, ShowMeans}

-- Over these files the command comes to this outcome, where nothing outside fails.
abbrev pub Means : Command → Files → Outcome → Type 0
Means (As out input) = AsMeans out input
Means (Bind file text data') = BindMeans file text data'
Means (BindJob file) = BindJobMeans file
Means (Code file) = CodeMeans file
Means (Link out mode libs inputs) = LinkMeans out mode libs inputs
Means (Run file) = RunMeans file
Means (Show file) = ShowMeans file

-- the file that a command may change
abbrev pub target : Command → Option (List ℕ)
target (As out input) = Some out
target (Bind file text data') = None
target (BindJob file) = None
target (Code file) = None
target (Link out mode libs inputs) = Some out
target (Run file) = None
target (Show file) = None

-- whether a command writes its text by one put, when nothing else outside is left to do
abbrev pub is_at_once : Command → Bool
is_at_once (As out input) = true
is_at_once (Bind file text data') = true
is_at_once (BindJob file) = true
is_at_once (Code file) = true
is_at_once (Link out mode libs inputs) = true
is_at_once (Run file) = false
is_at_once (Show file) = true
