use Rattle.std.proofs.Common.{Bool, not, ◌==◌, ◌≤◌, ◌∙◌, arith}
use Rattle.std.proofs.lemmas.List.Kept.{AllPairs-filter}
use Rattle.std.proofs.lemmas.List.Sums.{length-filter, count_by-le-length}
use Rattle.placement.specs.declared.item.Held.{Held}
use Rattle.placement.specs.parts.Extents.{ranges_of}
use Rattle.placement.proofs.ranges.Ranges.release.Goals as goal

pub invariant_of-self : goal.invariant_of-self
invariant_of-self c =
    let others : Held → Bool = λ r. not (r.owner == c.args.owner) in
    record {
      owners = c.drop_owner.ensures.owners ∙ c.self.invariant.owners;
      rising = rw c.drop_owner.ensures.held (AllPairs-filter (λ earlier later. earlier.start ≤ later.start) others (ranges_of c.self.inside.held) c.self.invariant.rising);
    }

pub returns-clause-count : goal.returns-clause-count
returns-clause-count c =
    let others : Held → Bool = λ r. not (r.owner == c.args.owner) in
    let held = ranges_of c.self.inside.held in
    rw (c.drop_owner.ensures.held, ← c.self.view_is) (omega (arith, length-filter others held, count_by-le-length others held))
