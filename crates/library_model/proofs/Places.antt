-- What stands at the places of a process after modules went.
use Rattle.std.proofs.Common.{◌≡◌, ℕ, Bool, true, false, cond, Option, Some, None, List, refl, sym, ap, ◌∙◌}
use Rattle.load_process.proofs.NumberedPlaces.{at_place}
use Rattle.load_removal.specs.Going.{ModuleSet, places_left}
use Rattle.load_removal.proofs.PlacesLeft.{place_left}

module _ {X : Type 0} (gone : ModuleSet) (places : List (Option X)) (m : ℕ) (x : X) where
  -- what stays at its place
  pub stays_at : gone m ≡ false → at_place places m ≡ Some x → at_place (places_left gone places) m ≡ Some x
  stays_at stays e = place_left gone places m ∙ ap (λ b. cond b None (at_place places m)) stays ∙ e

  -- what is there did not go, and was there
  pub was_at : at_place (places_left gone places) m ≡ Some x → (gone m ≡ false) × (at_place places m ≡ Some x)
  was_at e = by_test (gone m) refl (sym (place_left gone places m) ∙ e)
    where
      by_test : (b : Bool) → gone m ≡ b → cond b None (at_place places m) ≡ Some x → (gone m ≡ false) × (at_place places m ≡ Some x)
      by_test true f is = absurd cc
      by_test false f is = (f, is)
