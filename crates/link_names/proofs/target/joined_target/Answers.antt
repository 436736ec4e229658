use Rattle.std.proofs.Common.{ap, sym, ◌∙◌}
use Rattle.std.specs.Option.{option_copied}
use Rattle.std.proofs.lemmas.List.Elements.{All-contains}
use Rattle.std.specs.Prelude.{Contains}
use Rattle.link_model.specs.Inputs.{symbols_of}
use Rattle.link_model.proofs.Taken.{taken_in}
use Rattle.link_names.proofs.target.joined_target.Goals as goal

pub placed_target-requires-clause-known : goal.placed_target-requires-clause-known
placed_target-requires-clause-known c =
    All-contains (Contains (symbols_of c.args.inputs.now)) c.args.group.now c.in-Some.taken.now c.requires
    (taken_in c.args.group.now c.in-Some.taken.now (sym c.definition_taken.ensures ∙ ap option_copied c.in-Some.is))
