use Rattle.std.proofs.Common.{ap, ◌∙◌, take}
use Rattle.link_model.specs.Joined.{joined_of}
use Rattle.link_names.specs.parts.Grouped.{groups_of}
use Rattle.link_names.proofs.Prefixes.{next_input}
use Rattle.link_names.proofs.groups.Groups.of.Goals as goal

pub loop-input-preserved : goal.loop-input-preserved
loop-input-preserved c =
    c.in_ok-put_symbols.ensures (joined_of (take c.loop-input.input c.args.inputs.now)) c.loop-input.invariant
    ∙ ap groups_of (next_input c.args.inputs.now c.loop-input.input c.index-inputs-input.result c.loop-input-test.true c.index-inputs-input.is)
