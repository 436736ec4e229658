-- How a command ends, from what its parts answer.
use Rattle.std.proofs.Common.{◌≡◌, ℕ, List, Option, Some, None, Result, Ok, Err, refl, sym, subst, inl, inr, IfSome, Bool, true, false}
use Rattle.fd_base.specs.Fetched.{Files}
use Rattle.fd_base.specs.Grown.{Grew, GrewByPart}
use Rattle.fd_base.proofs.Growing.{grew_nothing}
use Rattle.fdpic_cmd.specs.declared.status.Status.{Status}
use Rattle.fdpic_cmd.specs.declared.status.Status.TheVariants.{Done}
use Rattle.fdpic_cmd.specs.declared.status.Failure.{Failure}
use Rattle.fdpic_cmd.specs.declared.status.Failure.TheVariants.{Refused as Refuses, StoreFault as Fails, Memory as Lacks}
use Rattle.fdpic_cmd.specs.Answers.{ChangesIfDone}
use Rattle.fdpic_cmd.specs.Outcome.{Outcome, writes, puts}
use Rattle.fdpic_cmd.specs.Ended.{Kind, own, refusal, lacks, unlisted, store_failed, sink_failed, kind_of, EndsAs, WritesAs, Outside, outside, Ends, IsCutOffUnless, CameTo, IsPartly, Gives, Puts, PutsFile, Says, failed, put_status}

module _ (at_once : Bool) (means : Files → Outcome → Type 0) where
  came : (files : Option Files) (f g h k : ℕ) (out later : Option (List ℕ)) (text : List ℕ) (status : Status) → IfSome files (λ told. means told (writes text)) → Done ≡ status → Grew out later text → IfSome files (CameTo means (outside files f out h) (outside files g later k) status)
  came None f g h k out later text status m d e = tt
  came (Some told) f g h k out later text status m d e = record { outcome = writes text; meant = m; status_is = d; text = e; put = refl }

  partly : (files : Option Files) (f g h k : ℕ) (out later : Option (List ℕ)) (text : List ℕ) → IfSome files (λ told. means told (writes text)) → GrewByPart out later text → IfSome files (IsPartly means (outside files f out h) (outside files g later k))
  partly None f g h k out later text m e = tt
  partly (Some told) f g h k out later text m e = record { outcome = writes text; meant = m; text = e }

  written : (files : Option Files) (f g h k : ℕ) (out later : Option (List ℕ)) (text : List ℕ) (status : Status) (kind : Kind) → IfSome files (λ told. means told (writes text)) → WritesAs kind text out later h k status → EndsAs kind at_once means (outside files f out h) (outside files g later k) status
  written files f g h k out later text status own m e = came files f g h k out later text status m e.0 e.1
  written files f g h k out later text status (refusal r) m e = absurd e
  written files f g h k out later text status lacks m e = inl e
  written files f g h k out later text status unlisted m e = absurd e
  written files f g h k out later text status store_failed m e = absurd e
  written files f g h k out later text status sink_failed m e = (inr (partly files f g h k out later text m e.0), e.1)

  unwritten : (b : Bool) (old new : Outside) → new.out ≡ old.out → IsCutOffUnless b means old new
  unwritten true old new e = e
  unwritten false old new e = inl e

  -- a failure ends the command, and out stays
  failing : (files : Option Files) (f g h k : ℕ) (out later : Option (List ℕ)) (e : Failure) → Gives means files f g (Err e) → later ≡ out → Ends at_once means (outside files f out h) (outside files g later k) (failed e)
  failing files f g h k out later (Refuses r) m e = (e, refl, m)
  failing files f g h k out later Fails m e = (unwritten at_once (outside files f out h) (outside files g later k) e, m)
  failing files f g h k out later Lacks m e = inl e

  -- a command that writes its text by one put
  pub said : (files after : Option Files) (f g h k : ℕ) (out later : Option (List ℕ)) (result : Result (List ℕ) Failure) (status : Status) → after ≡ files → Gives means files f g result → Says result out later h k status → Ends at_once means (outside files f out h) (outside after g later k) status
  said files after f g h k out later (Ok text) status same m e =
      let P : Option Files → Type 0 = λ a. Ends at_once means (outside files f out h) (outside a g later k) status in
      subst P (sym same) (written files f g h k out later text status (kind_of status) m e)
  said files after f g h k out later (Err failure) status same m e =
      let P : Option Files → Type 0 = λ a. Ends at_once means (outside files f out h) (outside a g later k) status in
      let Q : Status → Type 0 = λ s. Ends at_once means (outside files f out h) (outside files g later k) s in
      subst P (sym same) (subst Q (sym e.0) (failing files f g h k out later failure m e.1))

  put_done : (name : List ℕ) (files after : Option Files) (f g h : ℕ) (out : Option (List ℕ)) → IfSome files (PutsFile means name after)
      → IfSome files (CameTo means (outside files f out h) (outside after g out h) Done)
  put_done name None after f g h out m = tt
  put_done name (Some told) after f g h out m =
      record { outcome = puts name m.bytes; meant = m.meant; status_is = refl; text = grew_nothing out out refl; put = m.put }

  put_failed : (name : List ℕ) (files after : Option Files) (f g h : ℕ) (out : Option (List ℕ)) (e : Failure) → Puts means name files after f g (Err e)
      → Ends at_once means (outside files f out h) (outside after g out h) (failed e)
  put_failed name files after f g h out (Refuses r) m = (refl, m.0, m.1)
  put_failed name files after f g h out Fails m = (unwritten at_once (outside files f out h) (outside after g out h) refl, m)
  put_failed name files after f g h out Lacks m = inl refl

  -- a command that puts a file: out stays
  pub has_put : (name : List ℕ) (files after : Option Files) (f g h : ℕ) (out : Option (List ℕ)) (result : Result (Unit {0}) Failure) (status : Status)
      → status ≡ put_status result → Puts means name files after f g result → Ends at_once means (outside files f out h) (outside after g out h) status
  has_put name files after f g h out (Ok done) status is m =
      let Q : Status → Type 0 = λ s. Ends at_once means (outside files f out h) (outside after g out h) s in
      subst Q (sym is) (put_done name files after f g h out m)
  has_put name files after f g h out (Err failure) status is m =
      let Q : Status → Type 0 = λ s. Ends at_once means (outside files f out h) (outside after g out h) s in
      subst Q (sym is) (put_failed name files after f g h out failure m)

-- where a file isn't put, the store has failed, or all files stay
pub changed_by_put : (means : Files → Outcome → Type 0) (name : List ℕ) (files after : Option Files) (f g : ℕ) (result : Result (Unit {0}) Failure)
    (status : Status) → status ≡ put_status result → Puts means name files after f g result → ChangesIfDone status files after f g
changed_by_put means name files after f g (Ok done) status is m = inl is
changed_by_put means name files after f g (Err (Refuses r)) status is m = inr (inr m.0)
changed_by_put means name files after f g (Err Fails) status is m = inr (inl m)
changed_by_put means name files after f g (Err Lacks) status is m = inr (inr m)
