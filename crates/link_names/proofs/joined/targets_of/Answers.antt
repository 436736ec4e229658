use Rattle.std.proofs.Common.{◌≡◌, ◌<◌, ◌∷◌, [], ◌++◌, All, length, get_or, map, take, ap, sym, subst, ◌∙◌, arith}
use Rattle.std.specs.Prelude.{Contains}
use Rattle.std.proofs.lemmas.List.{map-append}
use Rattle.link_model.specs.Inputs.{numbered, symbols_of}
use Rattle.link_model.specs.Joined.{definition_taken}
use Rattle.link_model.specs.Targets.{joined_target}
use Rattle.link_names.proofs.Prefixes.{numbered_next}
use Rattle.link_names.proofs.joined.targets_of.Goals as goal

pub joined_target-requires : goal.joined_target-requires
joined_target-requires c =
    let groups = c.args.groups.now.groups in
    let within : c.loop-k.k < length groups = omega (arith, c.loop-k-test.true, ap length c.groups-group-items.ensures) in
    let item : c.group-item.result ≡ get_or groups c.loop-k.k c.group-item.result = c.group-item.is ∙ ap (λ gs. get_or gs c.loop-k.k c.group-item.result) c.groups-group-items.ensures in
    subst (All (Contains (symbols_of c.args.inputs.now))) (sym (c.as_slice.ensures ∙ item)) (c.requires.known c.loop-k.k c.group-item.result within)

pub loop-k-preserved : goal.loop-k-preserved
loop-k-preserved c =
    let groups = c.args.groups.now.groups in
    let within : c.loop-k.k < length groups = omega (arith, c.loop-k-test.true, ap length c.groups-group-items.ensures) in
    let item : c.group-item.result ≡ get_or groups c.loop-k.k c.group-item.result = c.group-item.is ∙ ap (λ gs. get_or gs c.loop-k.k c.group-item.result) c.groups-group-items.ensures in
    c.in_ok-push.ensures
    ∙ ap (λ t. c.loop-k.targets ++ t ∷ []) (c.joined_target.ensures ∙ ap (λ g. joined_target c.args.mode c.args.inputs.now c.loop-k.k g (definition_taken g)) c.as_slice.ensures)
    ∙ ap (λ ts. ts ++ joined_target c.args.mode c.args.inputs.now c.loop-k.k c.group-item.result (definition_taken c.group-item.result) ∷ []) c.loop-k.invariant
    ∙ sym (ap (map (λ e. joined_target c.args.mode c.args.inputs.now e.0 e.1 (definition_taken e.1))) (numbered_next groups c.loop-k.k c.group-item.result within item)
    ∙ map-append (λ e. joined_target c.args.mode c.args.inputs.now e.0 e.1 (definition_taken e.1)) (numbered (take c.loop-k.k groups)) ((c.loop-k.k, c.group-item.result) ∷ []))
