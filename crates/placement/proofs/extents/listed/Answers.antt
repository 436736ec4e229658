use Rattle.placement.proofs.Holding.{IsListed-none, IsListed-one, fewer_behind}
use Rattle.placement.proofs.extents.listed.Goals as goal

pub loop-next-init : goal.loop-next-init
loop-next-init c = record {
  live = c.first-next.ensures.live;
  tied = c.first-next.ensures.tied;
  listed = rw (c.first-next.ensures.first, c.new-list.ensures.items) (IsListed-none c.args.held.now);
}

pub loop-next-smaller : goal.loop-next-smaller
loop-next-smaller c =
    rw (c.in-Some.is, c.next-next.ensures.next) (fewer_behind c.args.held.now c.in-Some.id c.loop-next.invariant.tied (rw c.in-Some.is at c.loop-next.invariant.live))

pub loop-next-preserved : goal.loop-next-preserved
loop-next-preserved c =
    let live = rw c.in-Some.is at c.loop-next.invariant.live in
    let listed = rw c.in-Some.is at c.loop-next.invariant.listed in
    record {
      live = c.next-next.ensures.live;
      tied = c.loop-next.invariant.tied;
      listed = rw (c.next-next.ensures.next, c.in_ok-push.ensures.items)
          (IsListed-one c.args.held.now c.loop-next.invariant.tied c.in-Some.id live c.value-start.result c.owner.result c.loop-next.list.items c.value-start.ensures c.owner.ensures listed);
    }
