use Rattle.std.proofs.Common.{sym, ◌∙◌}
use Rattle.link_model.specs.Places.{zeros_end, data_end}
use Rattle.link_model.specs.Targets.{targets_of}
use Rattle.link_places.proofs.CommonBlocks.{blocks-end}
use Rattle.link_places.proofs.layout.Layout.data_end.Goals as goal

pub returns-clause-end : goal.returns-clause-end
unfolding data_end
returns-clause-end c =
    let l = c.args.self.now in
    let inputs = l.text.inputs.now in
    l.shared.end ∙ sym (blocks-end (zeros_end l.mode inputs) (targets_of l.mode inputs))
