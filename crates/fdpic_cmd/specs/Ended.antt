-- How a command ends, and what it leaves outside.
use Rattle.std.specs.Prelude.{option_map, ◌≡◌, ℕ, ◌⊎◌, List, Option, Some, None, Result, Ok, Err, IfSome, Bool, true, false}
use Rattle.fd_base.specs.Fetched.{Files, ChangesOnly, with_file}
use Rattle.fd_base.specs.Faults.{Rose}
use Rattle.fd_base.specs.Grown.{Grew, GrewByPart}
use Rattle.fdpic_cmd.specs.declared.status.Status.{Status}
use Rattle.fdpic_cmd.specs.declared.status.Status.TheVariants.{Done, Memory, Words, StoreFault, SinkFault, Refused, Stopped}
use Rattle.fdpic_cmd.specs.declared.status.Refusal.{Refusal}
use Rattle.fdpic_cmd.specs.declared.status.Failure.{Failure}
use Rattle.fdpic_cmd.specs.declared.status.Failure.TheVariants.{Refused as Refuses, StoreFault as Fails, Memory as Lacks}
use Rattle.fdpic_cmd.specs.Outcome.{Outcome, Output, writes, puts, refuses}

-- the outside of a command: files and bytes where they are told, and the counts of faults
pub record Outside : Type 0 where
  pub files : Option Files
  pub store_faults : ℕ
  pub out : Option (List ℕ)
  pub out_faults : ℕ

abbrev pub outside : Option Files → ℕ → Option (List ℕ) → ℕ → Outside
outside files store_faults out out_faults = record { files = files; store_faults = store_faults; out = out; out_faults = out_faults }

-- the output is put, where there is one
abbrev pub IsPut : Option Files → Option Files → Option Output → Type 0
IsPut old new None = new ≡ old
IsPut old new (Some f) = new ≡ option_map (with_file f.name f.bytes) old

-- what out gained and what was put are those of an outcome with this status, which the command means
pub record CameTo (means : Files → Outcome → Type 0) (old new : Outside) (status : Status) (told : Files) : Type 0 where
  pub outcome : Outcome
  pub meant : means told outcome
  pub status_is : outcome.status ≡ status
  pub text : Grew old.out new.out outcome.text
  pub put : IsPut old.files new.files outcome.output

-- what out gained is part of the text of an outcome that the command means
pub record IsPartly (means : Files → Outcome → Type 0) (old new : Outside) (told : Files) : Type 0 where
  pub outcome : Outcome
  pub meant : means told outcome
  pub text : GrewByPart old.out new.out outcome.text

-- out was cut off: it gained nothing, or a part
abbrev pub IsCutOff : (Files → Outcome → Type 0) → Outside → Outside → Type 0
IsCutOff means old new = (new.out ≡ old.out) ⊎ IfSome old.files (IsPartly means old new)

-- before all is done outside, a command that writes at once has written nothing
abbrev pub IsCutOffUnless : Bool → (Files → Outcome → Type 0) → Outside → Outside → Type 0
IsCutOffUnless true means old new = new.out ≡ old.out
IsCutOffUnless false means old new = IsCutOff means old new

-- the kinds of a status: the command's own, a refusal, or what the outside makes of it
pub data Kind : Type 0 where
  own : Kind
  refusal : Refusal → Kind
  lacks : Kind
  unlisted : Kind
  store_failed : Kind
  sink_failed : Kind

abbrev pub kind_of : Status → Kind
kind_of Done = own
kind_of (Refused r) = refusal r
kind_of Memory = lacks
kind_of Words = unlisted
kind_of StoreFault = store_failed
kind_of SinkFault = sink_failed
kind_of (Stopped why) = own

abbrev pub EndsAs : Kind → Bool → (Files → Outcome → Type 0) → Outside → Outside → Status → Type 0
EndsAs own at_once means old new status = IfSome old.files (CameTo means old new status)
EndsAs (refusal r) at_once means old new status = (new.out ≡ old.out) × (new.files ≡ old.files) × IfSome old.files (λ told. means told (refuses r))
EndsAs lacks at_once means old new status = IsCutOff means old new
EndsAs unlisted at_once means old new status = ⊥
EndsAs store_failed at_once means old new status = IsCutOffUnless at_once means old new × Rose old.store_faults new.store_faults
EndsAs sink_failed at_once means old new status = IsCutOff means old new × Rose old.out_faults new.out_faults

-- what a command's end says
abbrev pub Ends : Bool → (Files → Outcome → Type 0) → Outside → Outside → Status → Type 0
Ends at_once means old new status = EndsAs (kind_of status) at_once means old new status

-- no file but the target has changed
abbrev pub KeepsOthers : Option (List ℕ) → Option Files → Option Files → Type 0
KeepsOthers None old new = new ≡ old
KeepsOthers (Some name) old new = ChangesOnly name old new

-- the answer of the part of a command that makes its text
abbrev pub Gives : (Files → Outcome → Type 0) → Option Files → ℕ → ℕ → Result (List ℕ) Failure → Type 0
Gives means files old new (Ok text) = IfSome files (λ told. means told (writes text))
Gives means files old new (Err (Refuses r)) = IfSome files (λ told. means told (refuses r))
Gives means files old new (Err Fails) = Rose old new
Gives means files old new (Err Lacks) = Unit {0}

-- the file that is wanted, or why there is none
abbrev pub Makes : Result (List ℕ) Refusal → Result (List ℕ) Failure → Type 0
Makes wanted (Ok bytes) = wanted ≡ Ok bytes
Makes wanted (Err (Refuses r)) = wanted ≡ Err r
Makes wanted (Err Fails) = ⊥
Makes wanted (Err Lacks) = Unit {0}

-- the answer of a part that makes something of the files: what is wanted of them, or why there is none
abbrev pub Reads : {X : Type 0} → (Files → Result X Refusal) → Option Files → ℕ → ℕ → Result X Failure → Type 0
Reads wanted files old new (Ok x) = IfSome files (λ told. wanted told ≡ Ok x)
Reads wanted files old new (Err (Refuses r)) = IfSome files (λ told. wanted told ≡ Err r)
Reads wanted files old new (Err Fails) = Rose old new
Reads wanted files old new (Err Lacks) = Unit {0}

-- a file was put, as the command means
pub record PutsFile (means : Files → Outcome → Type 0) (name : List ℕ) (later : Option Files) (told : Files) : Type 0 where
  pub bytes : List ℕ
  pub meant : means told (puts name bytes)
  pub put : later ≡ Some (with_file name bytes told)

-- the answer of a command that puts a file
abbrev pub Puts : (Files → Outcome → Type 0) → List ℕ → Option Files → Option Files → ℕ → ℕ → Result (Unit {0}) Failure → Type 0
Puts means name files later old new (Ok done) = IfSome files (PutsFile means name later)
Puts means name files later old new (Err (Refuses r)) = (later ≡ files) × IfSome files (λ told. means told (refuses r))
Puts means name files later old new (Err Fails) = Rose old new
Puts means name files later old new (Err Lacks) = later ≡ files

-- the status of a failure
abbrev pub failed : Failure → Status
failed (Refuses r) = Refused r
failed Fails = StoreFault
failed Lacks = Memory

-- that of a command that puts a file
abbrev pub put_status : Result (Unit {0}) Failure → Status
put_status (Ok done) = Done
put_status (Err failure) = failed failure

abbrev pub WritesAs : Kind → List ℕ → Option (List ℕ) → Option (List ℕ) → ℕ → ℕ → Status → Type 0
WritesAs own text out later old new status = (Done ≡ status) × Grew out later text
WritesAs lacks text out later old new status = later ≡ out
WritesAs sink_failed text out later old new status = GrewByPart out later text × Rose old new
WritesAs other text out later old new status = ⊥

-- what putting a text on out answers
abbrev pub Writes : List ℕ → Option (List ℕ) → Option (List ℕ) → ℕ → ℕ → Status → Type 0
Writes text out later old new status = WritesAs (kind_of status) text out later old new status

-- what putting a text that may be refused answers
abbrev pub Says : Result (List ℕ) Failure → Option (List ℕ) → Option (List ℕ) → ℕ → ℕ → Status → Type 0
Says (Ok text) out later old new status = Writes text out later old new status
Says (Err e) out later old new status = (status ≡ failed e) × (later ≡ out)
