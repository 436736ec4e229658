use Rattle.std.proofs.Common.{◌≡◌, List, false, true, ap, sym, subst, ◌∙◌}
use Rattle.std.specs.Prelude.{IfOk}
use Rattle.link_model.specs.declared.target.Target.{Target}
use Rattle.link_model.specs.Targets.{is_static}
use Rattle.link_checks.proofs.Numbers.{joined_named, none_shown, all_shown}
use Rattle.link_checks.proofs.shown.Shown.of.Goals as goal

pub among-requires-else-is_static : goal.among-requires-else-is_static
among-requires-else-is_static c = record {
  few = c.targets.ensures.few;
  named = joined_named c.args.joined.now.mode c.args.joined.now.inputs c.targets.result.now c.targets.ensures.targets;
}

pub returns-then-is_static : goal.returns-then-is_static
returns-then-is_static c =
    let static : is_static c.args.joined.now.mode ≡ true = sym (c.is_static.ensures ∙ ap is_static c.mode.ensures) ∙ c.if-is_static.true in
    subst (λ (ts : List Target). IfOk c.among.result (λ shown. shown ≡ ts)) (none_shown c.args.joined.now.mode c.args.joined.now.inputs static) c.among.ensures

pub returns-else-is_static : goal.returns-else-is_static
returns-else-is_static c =
    let dynamic : is_static c.args.joined.now.mode ≡ false = sym (c.is_static.ensures ∙ ap is_static c.mode.ensures) ∙ c.if-is_static.false in
    subst (λ (ts : List Target). IfOk c.among-else-is_static.result (λ shown. shown ≡ ts))
    (all_shown c.args.joined.now.mode c.args.joined.now.inputs c.targets.result.now c.targets.ensures.targets dynamic) c.among-else-is_static.ensures
