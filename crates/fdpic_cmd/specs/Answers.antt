-- What the program's answer says.
use Rattle.std.specs.Prelude.{◌≡◌, ℕ, ◌⊎◌, List, Option, Some, None, IsSomeAnd, Bool, true, false}
use Rattle.fd_base.specs.Fetched.{Files}
use Rattle.fd_base.specs.Faults.{Rose}
use Rattle.fd_base.specs.Grown.{Grew, GrewByPart}
use Rattle.fdpic_cmd.specs.declared.status.Status.{Status}
use Rattle.fdpic_cmd.specs.declared.status.Status.TheVariants.{Done, Memory, Words, StoreFault, SinkFault}
use Rattle.fdpic_cmd.specs.declared.command.Command.{Command}
use Rattle.fdpic_cmd.specs.Outcome.{Outcome}
use Rattle.fdpic_cmd.specs.Forms.{command_of}
use Rattle.fdpic_cmd.specs.Meaning.{Means, target, is_at_once}
use Rattle.fdpic_cmd.specs.Ended.{Kind, own, refusal, lacks, unlisted, store_failed, sink_failed, kind_of, Outside, Ends, KeepsOthers}
use Rattle.fdpic_cmd.specs.Lines.{line_of}

-- the words have a listed form, and the command means this outcome
abbrev pub WordsMean : List (List ℕ) → Files → Outcome → Type 0
WordsMean words told o = IsSomeAnd (command_of words) (λ command. Means command told o)

-- one clause by cases: how the words' command ends
abbrev pub Answers : Option Command → Outside → Outside → Status → Type 0
Answers None old new status = (status ≡ Words ⊎ status ≡ Memory) × (new.out ≡ old.out)
Answers (Some command) old new status = Ends (is_at_once command) (Means command) old new status

-- no file but the one that the words name as their output has changed
abbrev pub KeepsFiles : Option Command → Option Files → Option Files → Type 0
KeepsFiles None old new = new ≡ old
KeepsFiles (Some command) old new = KeepsOthers (target command) old new

-- files change only where the command is done, or where the store failed, which was counted
abbrev pub ChangesIfDone : Status → Option Files → Option Files → ℕ → ℕ → Type 0
ChangesIfDone status files later old new = status ≡ Done ⊎ Rose old new ⊎ later ≡ files

-- this status, or want of memory in its place
abbrev pub IsStatus : Status → Status → Type 0
IsStatus status wanted = status ≡ wanted ⊎ status ≡ Memory

-- this status, or in its place a fault that was counted, or want of memory
abbrev pub Yields : Status → Outside → Outside → Status → Type 0
Yields wanted old new status =
    status ≡ wanted
    ⊎ status ≡ Memory
    ⊎ ((status ≡ StoreFault) × Rose old.store_faults new.store_faults)
    ⊎ ((status ≡ SinkFault) × Rose old.out_faults new.out_faults)

-- err grew by the status's line; or it failed and grew by part of it; or memory was wanted and it stays
abbrev pub Reports : Option (List ℕ) → Option (List ℕ) → ℕ → ℕ → Status → Type 0
Reports old new before after status =
    Grew old new (line_of status)
    ⊎ (Rose before after × GrewByPart old new (line_of status))
    ⊎ ((status ≡ Memory) × (new ≡ old))

-- whether the words' command writes its text at once
abbrev pub at_once : Option Command → Bool
at_once None = true
at_once (Some command) = is_at_once command

-- out stays with a refusal, with Words, and with StoreFault where the command writes at once
abbrev pub StaysAs : Kind → Bool → Option (List ℕ) → Option (List ℕ) → Type 0
StaysAs own at_once old new = Unit {0}
StaysAs (refusal r) at_once old new = new ≡ old
StaysAs lacks at_once old new = Unit {0}
StaysAs unlisted at_once old new = new ≡ old
StaysAs store_failed true old new = new ≡ old
StaysAs store_failed false old new = Unit {0}
StaysAs sink_failed at_once old new = Unit {0}

abbrev pub StaysUnless : Bool → Status → Option (List ℕ) → Option (List ℕ) → Type 0
StaysUnless at_once status old new = StaysAs (kind_of status) at_once old new

-- the command has come to its end, or memory was wanted
abbrev pub IsEndedAs : Kind → Type 0
IsEndedAs own = Unit {0}
IsEndedAs lacks = Unit {0}
IsEndedAs other = ⊥

abbrev pub IsEnded : Status → Type 0
IsEnded status = IsEndedAs (kind_of status)
