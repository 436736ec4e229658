use Rattle.std.proofs.Common.{ap, sym, refl, ◌∙◌, ◌∷◌, [], ◌++◌, ◌<◌, length, slice_set, arith}
use Rattle.std.proofs.lemmas.Bool.Decides.{nat_tests}
use Rattle.link_names.proofs.Interned.{put_first, put_more}
use Rattle.link_names.proofs.groups.Groups.put.Goals as goal

pub returns-in_ok-push-2 : goal.returns-in_ok-push-2
returns-in_ok-push-2 c xs old =
    put_first xs c.args.x c.name.result c.self.inside.names.keys c.insert_full.new.self.keys c.self.inside.groups.items c.push-then-added.new.self.items c.name.ensures (c.self.view_is ∙ old) c.in_ok-place.ensures.keys
    (sym c.if-added.true ∙ c.in_ok-place.ensures.added)
    (c.in_ok-push-2.ensures.items ∙ ap (λ g. c.self.inside.groups.items ++ g ∷ []) (c.in_ok-push.ensures ∙ ap (λ g. g ++ c.args.x ∷ []) c.new-group.ensures))

pub returns-in_ok-push-3 : goal.returns-in_ok-push-3
returns-in_ok-push-3 c xs old =
    let within : c.in_ok-place.place < length c.self.inside.groups.items = grind (arith, nat_tests, c.if-place-len.true, c.len.ensures) in
    put_more xs c.args.x c.name.result c.self.inside.names.keys c.insert_full.new.self.keys c.self.inside.groups.items (slice_set c.self.inside.groups.items c.in_ok-place.place c.push-then-place-len.new.self)
    c.name.ensures (c.self.view_is ∙ old) c.in_ok-place.ensures.keys
    c.in_ok-place.place c.index_mut.result.now c.push-then-place-len.new.self (sym c.if-added.false ∙ c.in_ok-place.ensures.added) c.in_ok-place.ensures.index within c.index_mut.ensures.value c.in_ok-push-3.ensures refl
