use Rattle.std.proofs.Common.{◌<◌, length, ap, sym, subst, ◌∙◌}
use Rattle.link_model.specs.Joined.{names_of}
use Rattle.link_model.specs.Targets.{target_of_key}
use Rattle.link_model.specs.declared.target.Key.TheVariants.{Name}
use Rattle.link_names.specs.parts.Joining.{Joining, IsKey}
use Rattle.link_names.proofs.Agreeing.{counted}
use Rattle.link_names.proofs.joined.Joined.target_of_key.Goals as goal

pub returns-in-Name : goal.returns-in-Name
returns-in-Name c =
    let within : c.in-Name.k < length (names_of c.self.inside.inputs) = subst (λ (j : Joining). c.in-Name.k < length (names_of j.inputs)) (sym c.self.view_is) (subst (IsKey c.args.self.now.inputs) c.in-Name.is c.requires) in
    counted c.self.inside.mode c.self.inside.inputs c.as_slice.result.now c.in-Name.k _ (c.as_slice.ensures ∙ c.self.invariant.targets') within
    ∙ ap (λ (j : Joining). target_of_key j.mode j.inputs (Name c.in-Name.k)) c.self.view_is ∙ ap (target_of_key c.args.self.now.mode c.args.self.now.inputs) (sym c.in-Name.is)
