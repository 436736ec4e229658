-- The public clauses of `top`, each from the one clause by cases.
use Rattle.std.proofs.Common.{◌≡◌, ℕ, List, Option, Some, None, refl, sym, ap, ◌∙◌, subst, inl, inr, IfSome, IsSome, IsSomeAnd, ◌⊎◌, Bool, true, false}
use Rattle.std.proofs.lemmas.Bool.{false≢true}
use Rattle.fd_base.specs.Fetched.{Files}
use Rattle.fd_base.specs.Faults.{Rose}
use Rattle.fd_base.specs.Grown.{GrewByPart}
use Rattle.fd_base.proofs.Growing.{grew_whole, grew_no_part}
use Rattle.fdpic_cmd.specs.declared.status.Status.{Status}
use Rattle.fdpic_cmd.specs.declared.status.Status.TheVariants.{Done, Memory, Words, StoreFault, SinkFault, Refused, Stopped}
use Rattle.fdpic_cmd.specs.declared.status.Refusal.{Refusal}
use Rattle.fdpic_cmd.specs.declared.command.Command.{Command}
use Rattle.fdpic_cmd.specs.Outcome.{Outcome, refuses}
use Rattle.fdpic_cmd.specs.Meaning.{Means, is_at_once}
use Rattle.fdpic_cmd.specs.Ended.{Kind, own, refusal, lacks, unlisted, store_failed, sink_failed, kind_of, EndsAs, Outside, Ends, CameTo, IsPartly, IsCutOff, IsCutOffUnless}
use Rattle.fdpic_cmd.specs.Answers.{Answers, IsStatus, Yields, StaysUnless, at_once, IsEnded, IsEndedAs, StaysAs}
use Rattle.fdpic_cmd.proofs.OutcomesAgree.{agrees}
use Rattle.fdpic_cmd.proofs.ClaimParts.{cut}

-- what the command means, where there is one
abbrev pub CommandMeans : Option Command → Files → Outcome → Type 0
CommandMeans c told o = IsSomeAnd c (λ command. Means command told o)

-- whether a status is neither Words nor Memory
abbrev is_other : Kind → Bool
is_other own = true
is_other (refusal r) = true
is_other lacks = false
is_other unlisted = false
is_other store_failed = true
is_other sink_failed = true

not_own : (s t : Status) → s ≡ Words ⊎ s ≡ Memory → s ≡ t → is_other (kind_of t) ≡ true → ⊥
not_own s t (inl w) e o = false≢true (ap (λ s. is_other (kind_of s)) (sym w ∙ e) ∙ o)
not_own s t (inr m) e o = false≢true (ap (λ s. is_other (kind_of s)) (sym m ∙ e) ∙ o)

pub store_fault : (c : Option Command) (old new : Outside) (s : Status) → Answers c old new s → s ≡ StoreFault → Rose old.store_faults new.store_faults
store_fault None old new s a e = absurd (not_own s StoreFault a.0 e refl)
store_fault (Some command) old new s a e = let P : Status → Type 0 = Answers (Some command) old new in (subst P e a).1

pub sink_fault : (c : Option Command) (old new : Outside) (s : Status) → Answers c old new s → s ≡ SinkFault → Rose old.out_faults new.out_faults
sink_fault None old new s a e = absurd (not_own s SinkFault a.0 e refl)
sink_fault (Some command) old new s a e = let P : Status → Type 0 = Answers (Some command) old new in (subst P e a).1

pub words : (c : Option Command) (old new : Outside) (s : Status) → Answers c old new s → s ≡ Words → c ≡ None
words None old new s a e = refl
words (Some command) old new s a e = let P : Status → Type 0 = Answers (Some command) old new in absurd (subst P e a)

pub no_form : (c : Option Command) (old new : Outside) (s : Status) → Answers c old new s → c ≡ None → IsStatus s Words
no_form c old new s a e = let P : Option Command → Type 0 = λ c. Answers c old new s in (subst P e a).0

pub refused : (c : Option Command) (old new : Outside) (s : Status) → Answers c old new s → (r : Refusal) → s ≡ Refused r → IfSome old.files (λ told. CommandMeans c told (refuses r))
refused None old new s a r e = absurd (not_own s (Refused r) a.0 e refl)
refused (Some command) old new s a r e = let P : Status → Type 0 = Answers (Some command) old new in (subst P e a).2

pub refused_keeps : (c : Option Command) (old new : Outside) (s : Status) → Answers c old new s → (r : Refusal) → s ≡ Refused r → new.files ≡ old.files
refused_keeps None old new s a r e = absurd (not_own s (Refused r) a.0 e refl)
refused_keeps (Some command) old new s a r e = let P : Status → Type 0 = Answers (Some command) old new in (subst P e a).1

neither : (s : Status) → s ≡ Words ⊎ s ≡ Memory → kind_of s ≡ own → ⊥
neither s (inl w) e = false≢true (ap is_other (sym (ap kind_of w) ∙ e))
neither s (inr m) e = false≢true (ap is_other (sym (ap kind_of m) ∙ e))

as_meant : (command : Command) (old new : Outside) (files : Option Files) (s : Status) → IfSome files (CameTo (Means command) old new s) → IfSome files (CameTo (CommandMeans (Some command)) old new s)
as_meant command old new None s m = tt
as_meant command old new (Some told) s m = record { outcome = m.outcome; meant = m.meant; status_is = m.status_is; text = m.text; put = m.put }

-- a status of the command's own is what it means
pub came : (c : Option Command) (old new : Outside) (s : Status) → Answers c old new s → kind_of s ≡ own → IfSome old.files (CameTo (CommandMeans c) old new s)
came None old new s a e = absurd (neither s a.0 e)
came (Some command) old new s a e = let P : Kind → Type 0 = λ k. EndsAs k (is_at_once command) (Means command) old new s in as_meant command old new old.files s (subst P e a)

unwritten : (b : Bool) (means : Files → Outcome → Type 0) (old new : Outside) → IsCutOffUnless b means old new → StaysAs store_failed b old.out new.out
unwritten true means old new e = e
unwritten false means old new e = tt

same_stays : (k : Kind) (b : Bool) (old new : Option (List ℕ)) → new ≡ old → StaysAs k b old new
same_stays own b old new e = tt
same_stays (refusal r) b old new e = e
same_stays lacks b old new e = tt
same_stays unlisted b old new e = e
same_stays store_failed true old new e = e
same_stays store_failed false old new e = tt
same_stays sink_failed b old new e = tt

silent_as : (command : Command) (old new : Outside) (s : Status) (k : Kind) → EndsAs k (is_at_once command) (Means command) old new s → StaysAs k (is_at_once command) old.out new.out
silent_as command old new s own a = tt
silent_as command old new s (refusal r) a = a.0
silent_as command old new s lacks a = tt
silent_as command old new s unlisted a = absurd a
silent_as command old new s store_failed a = unwritten (is_at_once command) (Means command) old new a.0
silent_as command old new s sink_failed a = tt

pub silent : (c : Option Command) (old new : Outside) (s : Status) → Answers c old new s → StaysUnless (at_once c) s old.out new.out
silent None old new s a = same_stays (kind_of s) true old.out new.out a.1
silent (Some command) old new s a = silent_as command old new s (kind_of s) a

same_part : (old new : Option (List ℕ)) (a b : List ℕ) → a ≡ b → GrewByPart old new a → GrewByPart old new b
same_part old new a b e h = let P : List ℕ → Type 0 = GrewByPart old new in subst P e h

module _ (command : Command) (told : Files) (o : Outcome) (meant : Means command told o) where
  came_part : (old new : Outside) (s : Status) → CameTo (Means command) old new s told → GrewByPart old.out new.out o.text
  came_part old new s m = same_part old.out new.out m.outcome.text o.text (agrees command told m.outcome o m.meant meant).text (grew_whole old.out new.out m.outcome.text m.text)

  cut_part : (old new : Outside) → (new.out ≡ old.out) ⊎ IsPartly (Means command) old new told → GrewByPart old.out new.out o.text
  cut_part old new (inl e) = grew_no_part old.out new.out o.text e
  cut_part old new (inr m) = same_part old.out new.out m.outcome.text o.text (agrees command told m.outcome o m.meant meant).text m.text

told_at : (old : Outside) (told : Files) (Q : Files → Type 0) → old.files ≡ Some told → IfSome old.files Q → Q told
told_at old told Q e h = let P : Option Files → Type 0 = λ f. IfSome f Q in subst P e h

told_cut : (means : Files → Outcome → Type 0) (old new : Outside) (told : Files) → old.files ≡ Some told → IsCutOff means old new → (new.out ≡ old.out) ⊎ IsPartly means old new told
told_cut means old new told e (inl h) = inl h
told_cut means old new told e (inr h) = inr (told_at old told (IsPartly means old new) e h)

part_of : (command : Command) (old new : Outside) (told : Files) (s : Status) (k : Kind) → old.files ≡ Some told → EndsAs k (is_at_once command) (Means command) old new s → (o : Outcome) → Means command told o → GrewByPart old.out new.out o.text
part_of command old new told s own e a o m = came_part command told o m old new s (told_at old told (CameTo (Means command) old new s) e a)
part_of command old new told s (refusal r) e a o m = grew_no_part old.out new.out o.text a.0
part_of command old new told s lacks e a o m = cut_part command told o m old new (told_cut (Means command) old new told e a)
part_of command old new told s unlisted e a o m = absurd a
part_of command old new told s store_failed e a o m = cut_part command told o m old new (told_cut (Means command) old new told e (cut (is_at_once command) (Means command) (is_at_once command) old new a.0))
part_of command old new told s sink_failed e a o m = cut_part command told o m old new (told_cut (Means command) old new told e a.0)

pub part : (c : Option Command) (old new : Outside) (s : Status) → Answers c old new s → (told : Files) → old.files ≡ Some told → (o : Outcome) → CommandMeans c told o → GrewByPart old.out new.out o.text
part None old new s a told e o m = absurd m
part (Some command) old new s a told e o m = part_of command old new told s (kind_of s) e a o m

own_yields : (command : Command) (old new : Outside) (told : Files) (s : Status) → old.files ≡ Some told → IfSome old.files (CameTo (Means command) old new s) → (o : Outcome) → Means command told o → Yields o.status old new s
own_yields command old new told s e a o m =
    let meant : CameTo (Means command) old new s told = told_at old told (CameTo (Means command) old new s) e a in
    inl (sym meant.status_is ∙ (agrees command told meant.outcome o meant.meant m).status)

status_of : (command : Command) (old new : Outside) (told : Files) (s : Status) → old.files ≡ Some told → Ends (is_at_once command) (Means command) old new s → (o : Outcome) → Means command told o → Yields o.status old new s
status_of command old new told Done e a o m = own_yields command old new told Done e a o m
status_of command old new told Memory e a o m = inr (inl refl)
status_of command old new told Words e a o m = absurd a
status_of command old new told StoreFault e a o m = inr (inr (inl (refl, a.1)))
status_of command old new told SinkFault e a o m = inr (inr (inr (refl, a.1)))
status_of command old new told (Refused r) e a o m =
    let meant : Means command told (refuses r) = told_at old told (λ t. Means command t (refuses r)) e a.2 in
    inl (agrees command told (refuses r) o meant m).status
status_of command old new told (Stopped why) e a o m = own_yields command old new told (Stopped why) e a o m

pub exact : (c : Option Command) (old new : Outside) (s : Status) → Answers c old new s → (told : Files) → old.files ≡ Some told → (o : Outcome) → CommandMeans c told o → Yields o.status old new s
exact None old new s a told e o m = absurd m
exact (Some command) old new s a told e o m = status_of command old new told s e a o m

completed : (command : Command) (old new : Outside) (told : Files) (s : Status) (k : Kind) → old.files ≡ Some told → EndsAs k (is_at_once command) (Means command) old new s → ((r : Refusal) → ¬ Means command told (refuses r)) → ¬ Rose old.store_faults new.store_faults → ¬ Rose old.out_faults new.out_faults → IsEndedAs k
completed command old new told s own e a never f g = tt
completed command old new told s (refusal r) e a never f g = absurd (never r (told_at old told (λ t. Means command t (refuses r)) e a.2))
completed command old new told s lacks e a never f g = tt
completed command old new told s unlisted e a never f g = absurd a
completed command old new told s store_failed e a never f g = absurd (f a.1)
completed command old new told s sink_failed e a never f g = absurd (g a.1)

pub complete : (c : Option Command) (old new : Outside) (s : Status) → Answers c old new s → (told : Files) → old.files ≡ Some told → IsSome c → ((r : Refusal) → ¬ CommandMeans c told (refuses r)) → ¬ Rose old.store_faults new.store_faults → ¬ Rose old.out_faults new.out_faults → IsEnded s
complete None old new s a told e is never f g = absurd (false≢true is)
complete (Some command) old new s a told e is never f g = completed command old new told s (kind_of s) e a never f g
