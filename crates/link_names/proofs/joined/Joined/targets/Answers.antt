use Rattle.std.proofs.Common.{◌≡◌, length, ap, ◌∙◌, arith}
use Rattle.std.proofs.lemmas.List.{length-map}
use Rattle.link_model.specs.Joined.{names_of}
use Rattle.link_model.specs.Targets.{target_of_name}
use Rattle.link_names.proofs.joined.Joined.targets.Goals as goal

pub returns-clause-few : goal.returns-clause-few
returns-clause-few c =
    let size : length c.as_slice.result.now ≡ length (names_of c.self.inside.inputs) =
    ap length (c.as_slice.ensures ∙ c.self.invariant.targets') ∙ length-map (names_of c.self.inside.inputs) (target_of_name c.self.inside.mode c.self.inside.inputs) in
    omega (arith, size, ap length c.self.invariant.names', c.self.invariant.few_names)
