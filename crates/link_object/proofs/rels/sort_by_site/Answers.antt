use Rattle.std.proofs.Common.{rules, ◌∙◌, ap}
use Rattle.std.proofs.lemmas.List.Sorted.{answers_always, IsNonDecreasingBy-from_sort}
use Rattle.link_model.specs.DynamicRels.{by_site}
use Rattle.link_object.proofs.Sorting.{site, sorted_is}
use Rattle.link_object.proofs.rels.sort_by_site.Goals as goal

pub returns : goal.returns
returns c =
    let keys = answers_always _ _ _ (λ f a r next called. search rules) in
    let stable = c.sort_by_key.ensures.stable site keys in
    let rising = IsNonDecreasingBy-from_sort site _ (c.in_ok-sort_by_key.ensures.sorted site keys) in
    c.from_vec.ensures ∙ sorted_is _ _ rising stable ∙ ap by_site c.into_vec-rels.ensures
