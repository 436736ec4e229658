use Rattle.std.proofs.Common.{◌≡◌, ℕ, ◌<◌, ◌^◌, None}
use Rattle.std.proofs.lemmas.List.Elements.{All-set}
use Rattle.placed_code.specs.Places.{entry_at}
use Rattle.run_turn.proofs.clear.ClearPlaces.put.Goals as goal

pub returns : goal.returns
returns c = λ p maps clear none.
    All-set (λ (a : ℕ). a < 2 ^ 32 → entry_at p maps a ≡ None) c.self.inside.places.items c.place_of.result c.args.addr (λ small. none) (rw c.self.view_is clear)
