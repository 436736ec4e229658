use Rattle.std.proofs.Common.{ℕ, ◌+◌, ◌-◌, ◌<◌, All, map, refl, ap, sym, ◌∙◌, add-one, arith}
use Rattle.std.proofs.lemmas.List.{nil_from_length}
use Rattle.std.proofs.lemmas.List.Elements.{All-map, All-weaker}
use Rattle.run_model.specs.declared.thread.Call.{Call}
use Rattle.run_model.specs.declared.thread.TheConstants.{LONGEST_CALL}
use Rattle.run_model.specs.Turns.{advanced}
use Rattle.run_turn.specs.parts.QuietCalls.{HasRoom}
use Rattle.run_turn.proofs.QuietCalls.{no_calls}
use Rattle.run_turn.proofs.quiet.count_steps.Goals as goal

abbrev Short : ℕ → Call → Type 0
Short n call = call.done + n < LONGEST_CALL

pub returns-then-is_empty : goal.returns-then-is_empty
returns-then-is_empty c = rw (nil_from_length c.args.calls.now (c.is_empty.ensures.0 c.if-is_empty.true)) (sym (no_calls c.args.steps))

pub loop-init : goal.loop-init
loop-init c = record {
  counted = refl;
  short = λ some. All-weaker (HasRoom c.args.steps) (Short (c.args.steps - 0)) (λ call room. let r = room some in omega (arith, r.1)) c.args.calls.now c.requires;
}

pub advance-requires : goal.advance-requires
advance-requires c =
    All-weaker (Short (c.args.steps - c.loop.counter)) (λ call. call.done < LONGEST_CALL) (λ call short. omega arith) c.loop.calls (c.loop.invariant.short c.loop-test.true)

pub loop-preserved : goal.loop-preserved
loop-preserved c = record {
  counted = rw add-one (c.advance.ensures ∙ ap (map advanced) c.loop.invariant.counted);
  short = λ more.
      rw c.advance.ensures (
      All-map (Short (c.args.steps - (c.loop.counter + 1))) advanced c.loop.calls
      (All-weaker (Short (c.args.steps - c.loop.counter)) (λ call. Short (c.args.steps - (c.loop.counter + 1)) (advanced call)) (λ call short. omega arith) c.loop.calls (c.loop.invariant.short (omega arith)))
      );
}
