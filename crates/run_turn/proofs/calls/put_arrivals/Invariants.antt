use Rattle.std.proofs.Common.{◌≡◌, ◌++◌, drop}
use Rattle.std.specs.Prelude.{filter}
use Rattle.std.specs.List.{flat_map}
use Rattle.run_model.specs.Turns.{arrival, is_complete}
use Rattle.run_turn.proofs.calls.put_arrivals.Given as goal

abbrev pub invariant-loop-call : goal.invariant-loop-call
invariant-loop-call l =
    l.events ++ flat_map (λ call. arrival l.done.step l.done.thread l.place) (filter is_complete (drop l.call-index l.calls))
    ≡ l.fn.events ++ flat_map (λ call. arrival l.done.step l.done.thread l.place) (filter is_complete l.calls)
