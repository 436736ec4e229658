use Rattle.std.proofs.Common.{Option, Some}
use Rattle.std.specs.Prelude.{IfSome}
use Rattle.std.proofs.lemmas.List.Elements.{All-set}
use Rattle.run_turn.specs.declared.entries.PlacedEntry.{PlacedEntry}
use Rattle.run_turn.specs.parts.Lookups.{IsEntry}
use Rattle.run_turn.proofs.entries.PlacedEntries.put.Goals as goal

pub returns : goal.returns
returns c = λ p maps known one.
    All-set (λ (place : Option PlacedEntry). IfSome place (IsEntry p maps)) c.self.inside.places.items c.place_of.result (Some c.args.entry) one (rw c.self.view_is known)
