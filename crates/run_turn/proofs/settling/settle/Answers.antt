use Rattle.std.proofs.Common.{ℕ, List, ◌∷◌, [], ap, add-one, ◌∙◌}
use Rattle.run_model.specs.declared.event.Event.TheVariants.{Out}
use Rattle.run_model.specs.declared.thread.Turned.TheVariants.{Next}
use Rattle.run_turn.specs.declared.settling.Settled.{Settled}
use Rattle.run_turn.proofs.settling.settle.Goals as goal

abbrev wrote_at : ℕ → ℕ → List ℕ → Settled
wrote_at step t bytes = record { answer = Next; events = Out step t bytes ∷ [] }

pub returns-in-Went-clause-taken : goal.returns-in-Went-clause-taken
returns-in-Went-clause-taken c = λ l thread at. rw c.in-Went.is (rw c.new.ensures at (c.went.ensures.taken l thread at))

pub returns-in-Yielded-clause-taken : goal.returns-in-Yielded-clause-taken
returns-in-Yielded-clause-taken c = λ l thread at. rw c.in-Yielded.is (rw c.new-in-Yielded.ensures at (c.went-in-Yielded.ensures.taken l thread at))

pub returns-in_ok-own-in-Wrote-clause-taken : goal.returns-in_ok-own-in-Wrote-clause-taken
returns-in_ok-own-in-Wrote-clause-taken c = λ l thread at.
    let own = c.in_ok-own-in-Wrote.ensures ∙ ap (λ (step : ℕ). wrote_at step c.args.t c.in-Wrote.bytes) (add-one c.args.steps.now) in
    rw c.in-Wrote.is (rw own at (c.went-in-Wrote.ensures.taken l thread at))
