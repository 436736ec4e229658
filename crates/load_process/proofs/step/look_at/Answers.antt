use Rattle.std.proofs.Common.{◌≡◌, ◌++◌, ◌∷◌, [], All, subst, sym}
use Rattle.std.proofs.lemmas.List.Elements.{All-push}
use Rattle.load_process.specs.parts.TakenObjects.{IsTaken}
use Rattle.load_model.specs.declared.module.Joining.{Joining}
use Rattle.load_process.proofs.step.look_at.Goals as goal

pub returns-clause-sound : goal.returns-clause-sound
returns-clause-sound g c =
    let pushed : c.push.new.self ≡ c.args.joining.now ++ c.in_ok-new.new ∷ [] = rw c.in_ok-push.was at c.push.ensures in
    subst (All (λ (j : Joining). IsTaken j.object)) (sym pushed)
    (All-push (λ (j : Joining). IsTaken j.object) c.args.joining.now c.in_ok-new.new c.requires.sound c.in_ok-new.ensures.sound)
