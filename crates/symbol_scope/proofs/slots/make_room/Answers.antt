use Rattle.std.proofs.Common.{ap, ◌∙◌, ◌<◌, ◌≤◌, arith, length, length-append}
use Rattle.symbol_scope.specs.parts.Slots.{filled_up}
use Rattle.symbol_scope.proofs.Filling.{filled_up_push}
use Rattle.symbol_scope.proofs.slots.make_room.Goals as goal

pub loop-slots-preserved : goal.loop-slots-preserved
loop-slots-preserved c =
    let lt : length c.loop-slots.slots.items < 64 = omega (arith, c.len.ensures, c.loop-slots.slots.ok.0) in
    let longer : length c.args.slots.now.items ≤ length c.loop-slots.slots.items = c.loop-slots.invariant.grows in
    record {
      within = rw c.in_ok-push.ensures.items (grind (arith, length-append));
      grows = rw c.in_ok-push.ensures.items (grind (arith, length-append));
      stays = ap filled_up c.in_ok-push.ensures.items ∙ filled_up_push _ lt ∙ c.loop-slots.invariant.stays;
    }
