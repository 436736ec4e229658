use Rattle.std.proofs.Common.{arith}
use Rattle.link_model.proofs.Placed.{data_above}
use Rattle.link_object.proofs.Filed.{data_from}
use Rattle.link_model.proofs.Written.{text_filled_below}
use Rattle.link_object.proofs.segments.text_segment.Goals as goal

pub overflow_cast-filled_end : goal.overflow_cast-filled_end
overflow_cast-filled_end c =
    let l = c.args.layout.now in
    omega (arith, text_filled_below l.mode l.text.inputs.now, data_above l.mode l.text.inputs.now, data_from l.mode l.text.inputs.now, c.requires.small, c.text_filled_end-filled_end.ensures)

pub overflow_cast-result : goal.overflow_cast-result
overflow_cast-result c =
    let l = c.args.layout.now in
    omega (arith, data_above l.mode l.text.inputs.now, data_from l.mode l.text.inputs.now, c.requires.small, c.text_end.ensures)
