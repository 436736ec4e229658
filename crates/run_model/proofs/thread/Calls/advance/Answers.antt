use Rattle.std.proofs.Common.{◌≡◌, length, map, ap, ◌∙◌}
use Rattle.std.proofs.lemmas.List.{length-map}
use Rattle.arrayvec.proofs.ArrayVecLemmas.{items-with_items}
use Rattle.run_model.specs.Turns.{advanced}
use Rattle.run_model.proofs.thread.Calls.advance.Goals as goal

pub returns : goal.returns
returns c =
    let size : length c.advance_all.new.calls ≡ length c.self.inside.calls.items =
    ap length c.advance_all.ensures ∙ length-map c.as_mut_slice.result.now advanced ∙ ap length c.as_mut_slice.ensures.value in
    items-with_items c.self.inside.calls c.advance_all.new.calls size
    ∙ c.advance_all.ensures ∙ ap (map advanced) (c.as_mut_slice.ensures.value ∙ c.self.view_is)
