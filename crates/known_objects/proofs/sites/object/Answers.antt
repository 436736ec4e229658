use Rattle.std.proofs.Common.{◌≤◌, ◌++◌, ◌∷◌, [], length, refl, sym, ap, subst, ◌∙◌, arith}
use Rattle.known_objects.proofs.SiteObjects.{text, words, sound_object}
use Rattle.known_objects.proofs.sites.object.Goals as goal

pub returns : goal.returns
returns c =
    let f = c.new.result in
    let g = c.in_ok-data.data in
    let few : length f ≤ 1024 = subst (λ x. length x ≤ 1024) (sym c.new.ensures) (omega arith) in
    sound_object f g few c.in_ok-data.ensures c.rel_at.result c.rel_at-2.result c.rel_at-3.result c.rel_at-4.result c.rel_at.ensures c.rel_at-2.ensures c.rel_at-3.ensures c.rel_at-4.ensures _
    (c.segments-2.view_is ∙ c.in_ok-push-2.ensures ∙ ap (λ x. x ++ words g ∷ []) (c.in_ok-push.ensures ∙ ap (λ x. x ++ text f ∷ []) c.new-segments.ensures))
    c.in_ok-from_slice.ensures c.new-3.ensures refl refl
