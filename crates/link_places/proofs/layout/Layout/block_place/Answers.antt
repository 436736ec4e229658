use Rattle.std.proofs.Common.{sym, ◌∙◌, arith}
use Rattle.std.specs.List.{filter_map}
use Rattle.link_model.specs.Places.{zeros_end}
use Rattle.link_places.specs.parts.Blocks.{block_of}
use Rattle.link_places.proofs.Sectioned.{below-blocks}
use Rattle.link_model.specs.Targets.{targets_of}
use Rattle.link_places.proofs.CommonBlocks.{blocks-place}
use Rattle.link_places.proofs.layout.Layout.block_place.Goals as goal

pub returns-clause-place : goal.returns-clause-place
returns-clause-place c =
    let l = c.args.self.now in
    let inputs = l.text.inputs.now in
    c.place.ensures ∙ l.shared.place c.args.k ∙ sym (blocks-place (zeros_end l.mode inputs) c.args.k (targets_of l.mode inputs))

pub returns-clause-near : goal.returns-clause-near
returns-clause-near c =
    let l = c.args.self.now in
    let inputs = l.text.inputs.now in
    omega (arith, c.place.ensures, below-blocks (zeros_end l.mode inputs) c.args.k (filter_map block_of (targets_of l.mode inputs)) l.blocks l.shared, l.blocks_near)
