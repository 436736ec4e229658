use Rattle.std.proofs.Common.{◌∙◌}
use Rattle.placement.proofs.Holding.{length-all_held}
use Rattle.placement.proofs.Placing.{length_placed}
use Rattle.placement.proofs.Rising.{rising_all}
use Rattle.placement.proofs.ranges.Ranges.take.Goals as goal

pub hold_all-requires-clause-length : goal.hold_all-requires-clause-length
hold_all-requires-clause-length c = rw (c.as_slice.ensures, c.as_slice-2.ensures) (length_placed _ _ _ _ _ c.requires.planned)

pub invariant_of-self : goal.invariant_of-self
invariant_of-self c = record {
  owners = c.hold_all.ensures.owners ∙ c.self.invariant.owners;
  rising = rw c.hold_all.ensures.held (rising_all c.as_slice.result.now c.as_slice-2.result.now _ c.self.invariant.rising);
}

pub returns-clause-count : goal.returns-clause-count
returns-clause-count c = rw (c.hold_all.ensures.held, ← c.self.view_is, c.as_slice.ensures, c.as_slice-2.ensures) (length-all_held _ _ _ (length_placed _ _ _ _ _ c.requires.planned))
