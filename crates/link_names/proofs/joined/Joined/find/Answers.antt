use Rattle.std.proofs.Common.{◌≡◌, Some, None, ap, sym, ◌∙◌}
use Rattle.std.specs.Prelude.{find, option_map, position}
use Rattle.std.specs.Str.{bytes_eq}
use Rattle.link_model.specs.Joined.{names_of}
use Rattle.link_model.specs.Targets.{target_of_name}
use Rattle.link_names.specs.parts.Joining.{Joining}
use Rattle.link_names.proofs.Finding.{target_found, target_nowhere}
use Rattle.link_names.proofs.Interned.{position_same}
use Rattle.link_names.proofs.joined.Joined.find.Goals as goal

pub returns-in_err-k : goal.returns-in_err-k
returns-in_err-k c =
    let is : None ≡ position (bytes_eq c.args.name.now) (names_of c.self.inside.inputs) =
    c.in_err-k.ensures.index ∙ position_same c.args.name c.self.inside.names.keys ∙ ap (position (bytes_eq c.args.name.now)) c.self.invariant.names' in
    c.from_residual.ensures ∙ target_nowhere c.self.inside.mode c.self.inside.inputs c.args.name.now (sym is)
    ∙ ap (λ (j : Joining). option_map (target_of_name j.mode j.inputs) (find (bytes_eq c.args.name.now) (names_of j.inputs))) c.self.view_is

pub returns : goal.returns
returns c =
    let is : Some c.in_ok-k.k ≡ position (bytes_eq c.args.name.now) (names_of c.self.inside.inputs) =
    c.in_ok-k.ensures.index ∙ position_same c.args.name c.self.inside.names.keys ∙ ap (position (bytes_eq c.args.name.now)) c.self.invariant.names' in
    target_found c.self.inside.mode c.self.inside.inputs c.args.name.now c.as_slice.result.now c.in_ok-k.k _ (c.as_slice.ensures ∙ c.self.invariant.targets') (sym is)
    ∙ ap (λ (j : Joining). option_map (target_of_name j.mode j.inputs) (find (bytes_eq c.args.name.now) (names_of j.inputs))) c.self.view_is
