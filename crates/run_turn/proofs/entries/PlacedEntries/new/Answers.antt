use Rattle.std.proofs.Common.{Option, None}
use Rattle.std.specs.Prelude.{IfSome}
use Rattle.std.proofs.lemmas.List.Elements.{All-replicate}
use Rattle.run_turn.specs.declared.entries.PlacedEntry.{PlacedEntry}
use Rattle.run_turn.specs.parts.Lookups.{IsEntry}
use Rattle.run_turn.proofs.entries.PlacedEntries.new.Goals as goal

pub returns : goal.returns
returns c = λ p maps. rw c.in_ok-no_entries.ensures (All-replicate (λ (place : Option PlacedEntry). IfSome place (IsEntry p maps)) 1024 None tt)
