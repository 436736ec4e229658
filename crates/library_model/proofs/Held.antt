-- Every group is held after an open and after a close.
use Rattle.std.proofs.Common.{◌≡◌, ℕ, inl, inr, false, Some, refl, sym, ◌∙◌, subst, arith}
use Rattle.std.proofs.lemmas.Bool.{false≢true}
use Rattle.fd_base.proofs.Options.{of_some_and}
use Rattle.load_model.specs.declared.module.Group.{Group}
use Rattle.load_model.specs.declared.module.Live.{Live}
use Rattle.load_model.specs.declared.module.SymbolicProcess.{SymbolicProcess}
use Rattle.load_model.specs.Process.{live_at, group_at}
use Rattle.load_model.specs.Validity.{IsValid}
use Rattle.load_removal.specs.Going.{ModuleSet, process_without}
use Rattle.library_model.specs.Closes.{AreLeft, opened_once_less}
use Rattle.library_model.specs.Holding.{Stays, AreHeld}
use Rattle.library_model.specs.parts.Laws.{StepsKeepHeld}
use Rattle.library_model.proofs.Deciding.{decided}
use Rattle.library_model.proofs.HeldAfterOpens.{held_after}
use Rattle.library_model.proofs.Keeping.{Keeps, still_stays}
use Rattle.library_model.proofs.Left.{not_gone}
use Rattle.library_model.proofs.Places.{stays_at, was_at}
use Rattle.library_model.proofs.Valid.{less_valid}

-- what nothing holds goes
module _ (p : SymbolicProcess) (gone : ModuleSet) (valid : IsValid p) (left : AreLeft p gone) where
  founder : (g : ℕ) (group : Group) → group_at p g ≡ Some group → (live : Live) × (live_at p g ≡ Some live) × (live.group ≡ g)
  founder g group e = of_some_and (λ (live : Live). live.group ≡ g) (live_at p g) (valid.scopes g group e).founder

  keeps : Keeps p (process_without gone p)
  keeps = record {
    groups' = λ g group s e.
        let f = founder g group e in
        stays_at gone p.groups g group (not_gone p gone g f.0 left f.1 (subst (Stays p) (sym f.2) s)) e;
    modules' = λ m a s e. (a, stays_at gone p.modules m a (not_gone p gone m a left e s) e, refl, omega arith);
  }

  -- a group that is still there stays
  stays : (g : ℕ) (group : Group) → gone g ≡ false → group_at p g ≡ Some group → Stays p g
  stays g group there e = elim (decided p valid g) [
    | inl s ↦ s
    | inr free ↦
        let f = founder g group e in
        let going = (left g).1 (record { live = f.0; there = f.1; free = subst (λ h. ¬ Stays p h) (sym f.2) free }) in
        absurd (false≢true (sym there ∙ going))
  ]

  pub held_without : AreHeld (process_without gone p)
  held_without g group e =
      let was = was_at gone p.groups g group e in
      still_stays p (process_without gone p) keeps g (stays g group was.0 was.1)

pub steps_keep_held : StepsKeepHeld
steps_keep_held = record {
  opens = λ p files root asked handle new valid held o. subst AreHeld (sym o.after) (held_after p files root asked handle new valid o held);
  closes = λ p m gone new valid c.
      subst AreHeld (sym c.after) (held_without (opened_once_less p m) gone (less_valid p m valid) c.gone');
}
