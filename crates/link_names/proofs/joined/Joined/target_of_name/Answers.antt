use Rattle.std.proofs.Common.{◌≡◌, ap, sym, subst, ◌∙◌}
use Rattle.std.specs.Prelude.{Contains, position, unwrap_or}
use Rattle.std.specs.Str.{bytes_eq}
use Rattle.link_model.specs.Joined.{names_of}
use Rattle.link_model.specs.Targets.{target_of_name, name_number}
use Rattle.link_names.specs.parts.Joining.{Joining}
use Rattle.link_names.proofs.Interned.{position_same}
use Rattle.link_names.proofs.Agreeing.{looked_up}
use Rattle.link_names.proofs.joined.Joined.target_of_name.Goals as goal

pub returns : goal.returns
returns c =
    let there : Contains (names_of c.self.inside.inputs) c.args.name.now = subst (λ (j : Joining). Contains (names_of j.inputs) c.args.name.now) (sym c.self.view_is) c.requires in
    let number : c.unwrap_or-k.result ≡ name_number c.self.inside.inputs c.args.name.now =
    c.unwrap_or-k.ensures ∙ ap (λ o. unwrap_or o 0) (c.get_index_of.ensures.index ∙ position_same c.args.name c.self.inside.names.keys ∙ ap (position (bytes_eq c.args.name.now)) c.self.invariant.names') in
    looked_up c.self.inside.mode c.self.inside.inputs c.args.name.now c.as_slice.result.now c.unwrap_or-k.result _ (c.as_slice.ensures ∙ c.self.invariant.targets') number there
    ∙ ap (λ (j : Joining). target_of_name j.mode j.inputs c.args.name.now) c.self.view_is
