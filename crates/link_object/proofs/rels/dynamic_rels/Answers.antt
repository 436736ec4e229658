use Rattle.std.proofs.Common.{◌≡◌, ◌++◌, flat_map, ap, ◌∙◌}
use Rattle.std.proofs.lemmas.Result.{IfOk-weaker}
use Rattle.link_model.specs.DynamicRels.{by_site, need_rels, dynamic_rels}
use Rattle.link_model.specs.Inputs.{all_rels}
use Rattle.link_model.specs.Needs.{all_needs}
use Rattle.link_model.specs.Sites.{site_rels}
use Rattle.link_names.specs.parts.Joining.{Joining}
use Rattle.link_object.proofs.rels.dynamic_rels.Goals as goal

pub returns : goal.returns
returns c =
    let mode = c.args.layout.now.mode in
    let inputs = c.args.layout.now.text.inputs.now in
    let needs = c.in_ok-rels.ensures ∙ ap (λ (j : Joining). flat_map (need_rels j.mode j.inputs) (all_needs j.mode j.inputs)) c.requires.one in
    let all = c.in_ok-put_site_rels.ensures mode inputs (all_rels inputs) c.requires.found ∙ ap (λ l. l ++ flat_map (site_rels mode inputs) (all_rels inputs)) needs in
    IfOk-weaker c.sort_by_site.result _ (λ rels. rels ≡ dynamic_rels mode inputs) (λ rels is. is ∙ ap by_site all) c.sort_by_site.ensures
