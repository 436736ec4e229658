use Rattle.std.proofs.Common.{◌≡◌, false, not, Option, Some, None, ap, ◌∙◌}
use Rattle.std.specs.Prelude.{MatchOption, is_some, option_and_then}
use Rattle.std.proofs.lemmas.List.{nil_from_length}
use Rattle.run_model.specs.Calls.{call_through}
use Rattle.run_turn.proofs.quiet.is_apart.Goals as goal

none_of : {X : Type 0} (r : Option X) (P : Type 0) (Q : X → Type 0) → is_some r ≡ false → MatchOption r P Q → P
none_of None P Q none h = h
none_of (Some x) P Q none h = cc

pub returns-clause-apart : goal.returns-clause-apart
returns-clause-apart c = λ so. record {
  calls' = nil_from_length c.args.thread.now.calls (c.is_empty.ensures.0 c.if-not-is_empty.false);
  begun = ap (option_and_then (call_through c.args.modules.now.process.now c.args.modules.now.maps.now c.args.thread.now.cpu)) (none_of c.entry.result _ _ (c.is_none.ensures ∙ ap not so) c.entry.ensures.entry);
}
