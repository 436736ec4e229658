use Rattle.std.proofs.Common.{◌<◌, length, get_or, [], ap, sym, subst, ◌∙◌}
use Rattle.std.specs.Prelude.{Contains, unwrap_or}
use Rattle.link_model.specs.Joined.{names_of}
use Rattle.link_model.specs.Targets.{target_of, target_of_name}
use Rattle.link_names.specs.parts.Joining.{Joining, HasInput}
use Rattle.link_names.proofs.Agreeing.{symbol_at, own_is, joined_is, name_there}
use Rattle.link_names.proofs.joined.Joined.target.Goals as goal

pub own_target-requires : goal.own_target-requires
own_target-requires c =
    let there = subst (λ (j : Joining). HasInput j.inputs c.args.input (λ o. c.args.symbol < length o.symbols)) (sym c.self.view_is) c.requires in
    let at = symbol_at c.self.inside.inputs c.args.input c.args.symbol c.index-objects-input.result c.index-as_slice-symbol.result there
    (c.index-objects-input.is ∙ ap (λ os. get_or os c.args.input c.index-objects-input.result) c.objects.ensures)
    (c.index-as_slice-symbol.is ∙ ap (λ ss. get_or ss c.args.symbol c.index-as_slice-symbol.result) c.as_slice.ensures) in
    at.known

pub returns-then-not-is_joined : goal.returns-then-not-is_joined
returns-then-not-is_joined c =
    let there = subst (λ (j : Joining). HasInput j.inputs c.args.input (λ o. c.args.symbol < length o.symbols)) (sym c.self.view_is) c.requires in
    let at = symbol_at c.self.inside.inputs c.args.input c.args.symbol c.index-objects-input.result c.index-as_slice-symbol.result there
    (c.index-objects-input.is ∙ ap (λ os. get_or os c.args.input c.index-objects-input.result) c.objects.ensures)
    (c.index-as_slice-symbol.is ∙ ap (λ ss. get_or ss c.args.symbol c.index-as_slice-symbol.result) c.as_slice.ensures) in
    c.own_target.ensures ∙ own_is c.self.inside.mode c.self.inside.inputs c.args.input c.args.symbol c.index-as_slice-symbol.result at.is (sym c.is_joined.ensures ∙ c.if-not-is_joined.true)
    ∙ ap (λ (j : Joining). target_of j.mode j.inputs c.args.input c.args.symbol) c.self.view_is

pub target_of_name-requires : goal.target_of_name-requires
target_of_name-requires c =
    let there = subst (λ (j : Joining). HasInput j.inputs c.args.input (λ o. c.args.symbol < length o.symbols)) (sym c.self.view_is) c.requires in
    let at = symbol_at c.self.inside.inputs c.args.input c.args.symbol c.index-objects-input.result c.index-as_slice-symbol.result there
    (c.index-objects-input.is ∙ ap (λ os. get_or os c.args.input c.index-objects-input.result) c.objects.ensures)
    (c.index-as_slice-symbol.is ∙ ap (λ ss. get_or ss c.args.symbol c.index-as_slice-symbol.result) c.as_slice.ensures) in
    subst (λ (j : Joining). Contains (names_of j.inputs) c.name.result.now) c.self.view_is
    (subst (Contains (names_of c.self.inside.inputs)) (sym c.name.ensures) (name_there c.self.inside.inputs c.args.input c.args.symbol c.index-as_slice-symbol.result at.is (sym c.is_joined.ensures ∙ c.if-not-is_joined.false)))

pub returns : goal.returns
returns c =
    let there = subst (λ (j : Joining). HasInput j.inputs c.args.input (λ o. c.args.symbol < length o.symbols)) (sym c.self.view_is) c.requires in
    let at = symbol_at c.self.inside.inputs c.args.input c.args.symbol c.index-objects-input.result c.index-as_slice-symbol.result there
    (c.index-objects-input.is ∙ ap (λ os. get_or os c.args.input c.index-objects-input.result) c.objects.ensures)
    (c.index-as_slice-symbol.is ∙ ap (λ ss. get_or ss c.args.symbol c.index-as_slice-symbol.result) c.as_slice.ensures) in
    c.target_of_name.ensures ∙ ap (target_of_name c.args.self.now.mode c.args.self.now.inputs) c.name.ensures
    ∙ sym (ap (λ (j : Joining). target_of_name j.mode j.inputs (unwrap_or (c.index-as_slice-symbol.result).name [])) c.self.view_is)
    ∙ joined_is c.self.inside.mode c.self.inside.inputs c.args.input c.args.symbol c.index-as_slice-symbol.result at.is (sym c.is_joined.ensures ∙ c.if-not-is_joined.false)
    ∙ ap (λ (j : Joining). target_of j.mode j.inputs c.args.input c.args.symbol) c.self.view_is
