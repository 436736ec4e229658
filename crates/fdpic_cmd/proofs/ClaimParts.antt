-- What the public clauses say, from the one clause by cases.
use Rattle.std.proofs.Common.{◌≡◌, ℕ, List, Option, Some, None, refl, sym, subst, inl, inr, IfSome, ◌≢◌, Bool, true, false}
use Rattle.fd_base.specs.Fetched.{Files}
use Rattle.fd_base.proofs.Growing.{grew_whole}
use Rattle.fdpic_cmd.specs.declared.status.Status.{Status}
use Rattle.fdpic_cmd.specs.declared.status.Status.TheVariants.{Done, Memory, Words, StoreFault, SinkFault, Refused, Stopped}
use Rattle.fdpic_cmd.specs.declared.command.Command.{Command}
use Rattle.fdpic_cmd.specs.Outcome.{Outcome}
use Rattle.fdpic_cmd.specs.Ended.{Kind, own, refusal, lacks, unlisted, store_failed, sink_failed, kind_of, EndsAs, Outside, CameTo, IsPartly, IsCutOff, IsCutOffUnless, KeepsOthers}
use Rattle.fdpic_cmd.specs.Answers.{Answers, ChangesIfDone, IsStatus, KeepsFiles}
use Rattle.fdpic_cmd.specs.Meaning.{target}
use Rattle.fdpic_cmd.specs.Lines.{line, line_of, status_text}
use Rattle.fd_base.proofs.Changing.{same_others}

module _ (at_once : Bool) (means : Files → Outcome → Type 0) where
  whole : (old new : Outside) (files : Option Files) (status : Status) → IfSome files (CameTo means old new status) → IfSome files (IsPartly means old new)
  whole old new None status m = tt
  whole old new (Some told) status m = record { outcome = m.outcome; meant = m.meant; text = grew_whole _ _ _ m.text }

  pub cut : (b : Bool) (old new : Outside) → IsCutOffUnless b means old new → IsCutOff means old new
  cut true old new e = inl e
  cut false old new e = e

  -- want of memory may stand in the place of any status
  pub memory_instead : (old new : Outside) (status : Status) (kind : Kind) → EndsAs kind at_once means old new status → IsCutOff means old new
  memory_instead old new status own e = inr (whole old new old.files status e)
  memory_instead old new status (refusal r) e = inl e.0
  memory_instead old new status lacks e = e
  memory_instead old new status unlisted e = absurd e
  memory_instead old new status store_failed e = cut at_once old new e.0
  memory_instead old new status sink_failed e = e.0

-- an answer for which want of memory may stand
pub answered : (command : Option Command) (old new : Outside) (status result : Status) → Answers command old new status → IsStatus result status → Answers command old new result
answered command old new status result e (inl same) = let P : Status → Type 0 = Answers command old new in subst P (sym same) e
answered None old new status result e (inr gone) = (inr gone, e.1)
answered (Some command) old new status result e (inr gone) = let P : Status → Type 0 = Answers (Some command) old new in subst P (sym gone) (memory_instead _ _ old new status (kind_of status) e)

-- before anything is done, memory may be wanted
pub nothing_done : (command : Option Command) (old new : Outside) → new.out ≡ old.out → Answers command old new Memory
nothing_done None old new e = (inr refl, e)
nothing_done (Some command) old new e = inl e

kept : (target : Option (List ℕ)) (old new : Option Files) → new ≡ old → KeepsOthers target old new
kept None old new e = e
kept (Some name) old new e = same_others name old new e

pub nothing_kept : (command : Option Command) (old new : Option Files) → new ≡ old → KeepsFiles command old new
nothing_kept None old new e = e
nothing_kept (Some command) old new e = kept (target command) old new e

-- where all files stay, none has changed
pub all_stay : (status : Status) (files later : Option Files) (old new : ℕ) → later ≡ files → ChangesIfDone status files later old new
all_stay status files later old new e = inr (inr e)

-- want of memory takes the place of no command that is done
pub still_unchanged : (status result : Status) (files later : Option Files) (old new : ℕ) → ChangesIfDone status files later old new
    → (status ≡ Done → result ≡ Done) → ChangesIfDone result files later old new
still_unchanged status result files later old new (inl done) stays = inl (stays done)
still_unchanged status result files later old new (inr e) stays = inr e

-- the line of a status that isn't Done
pub line_is : (status : Status) → status ≢ Done → line_of status ≡ line (status_text status)
line_is Done ne = absurd (ne refl)
line_is Memory ne = refl
line_is Words ne = refl
line_is StoreFault ne = refl
line_is SinkFault ne = refl
line_is (Refused r) ne = refl
line_is (Stopped why) ne = refl
