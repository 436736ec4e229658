use Rattle.std.proofs.Common.{◌≡◌, ℕ, ◌<◌, ◌^◌, None, replicate, arith, rules}
use Rattle.std.proofs.lemmas.List.Elements.{All-replicate}
use Rattle.placed_code.specs.Places.{entry_at}
use Rattle.run_turn.proofs.clear.ClearPlaces.new.Goals as goal

pub returns : goal.returns
returns c = λ p maps.
    let same : c.in_ok-places.places.items ≡ replicate 4096 (2 ^ 32) = search rules in
    rw same (All-replicate (λ (a : ℕ). a < 2 ^ 32 → entry_at p maps a ≡ None) 4096 (2 ^ 32) (λ small. absurd (omega arith)))
