use Rattle.std.proofs.Common.{◌≡◌, true, false, [], cond, ap, sym, subst, ◌∙◌}
use Rattle.std.specs.Prelude.{OnOk}
use Rattle.symbol_scope.specs.Closure.{with_new}
use Rattle.link_model.specs.Inputs.{symbol_of}
use Rattle.link_model.specs.Needs.{is_unusable, is_same_need, needs_for}
use Rattle.link_model.specs.Targets.{target_of}
use Rattle.link_places.specs.parts.NeedTable.{needs_in}
use Rattle.link_places.proofs.Gathered.{symbol-in, is-negated, rel-wants}
use Rattle.link_places.proofs.gather.add_rel.Goals as goal

pub returns-then-not-is_usable : goal.returns-then-not-is_usable
returns-then-not-is_usable c =
    let inputs = c.args.joined.now.inputs in
    let n = c.args.rel.now.symbol in
    let is : is_unusable (symbol_of inputs c.args.input n) ≡ true =
    ap is_unusable (sym (symbol-in inputs c.args.input n c.args.object.now c.requires.input)) ∙ is-negated _ true (sym c.is_usable.ensures.usable ∙ c.if-not-is_usable.true) in
    ap (λ b. with_new is_same_need (needs_in c.args.needs.now) (cond b [] (needs_for inputs c.args.rel.now.kind (target_of c.args.joined.now.mode inputs c.args.input n)))) (sym is)

pub target-target-requires : goal.target-target-requires
target-target-requires c = (c.args.object.now, c.requires.input, c.is_usable.ensures.there c.if-not-is_usable.false)

pub returns : goal.returns
returns c =
    let inputs = c.args.joined.now.inputs in
    let mode = c.args.joined.now.mode in
    let n = c.args.rel.now.symbol in
    let is : is_unusable (symbol_of inputs c.args.input n) ≡ false =
    ap is_unusable (sym (symbol-in inputs c.args.input n c.args.object.now c.requires.input)) ∙ is-negated _ false (sym c.is_usable.ensures.usable ∙ c.if-not-is_usable.false) in
    subst (λ ns. OnOk c.add_wanted.result (needs_in c.add_wanted.new.needs ≡ with_new is_same_need (needs_in c.args.needs.now) ns))
    (rel-wants mode inputs c.args.text.now.inputs.now c.args.input c.args.rel.now c.target-target.result c.requires.inputs c.target-target.ensures is) c.add_wanted.ensures
