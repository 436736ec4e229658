use Rattle.placement.proofs.Holding.{StartBelow-none, StartBelow-one, place_before, place_at_end, fewer_behind}
use Rattle.placement.proofs.extents.last_below.Goals as goal

pub loop-next-init : goal.loop-next-init
loop-next-init c = record {
  live_last = tt;
  live_next = c.first-next.ensures.live;
  tied = c.first-next.ensures.tied;
  passed = rw c.first-next.ensures.first (StartBelow-none c.args.held.now.order c.args.range.now.start);
}

pub returns-then-value-range-clause-place : goal.returns-then-value-range-clause-place
returns-then-value-range-clause-place c =
    place_before c.args.held.now c.args.range.now c.loop-next.last c.in-Some.id c.value.result c.loop-next.invariant.tied
    (rw c.in-Some.is at c.loop-next.invariant.live_next) c.value.ensures c.if-value-range.true (rw c.in-Some.is at c.loop-next.invariant.passed)

pub loop-next-smaller : goal.loop-next-smaller
loop-next-smaller c =
    rw (c.in-Some.is, c.next-next.ensures.next) (fewer_behind c.args.held.now c.in-Some.id c.loop-next.invariant.tied (rw c.in-Some.is at c.loop-next.invariant.live_next))

pub loop-next-preserved : goal.loop-next-preserved
loop-next-preserved c =
    let live = rw c.in-Some.is at c.loop-next.invariant.live_next in
    let passed = rw c.in-Some.is at c.loop-next.invariant.passed in
    record {
      live_last = live;
      live_next = c.next-next.ensures.live;
      tied = c.loop-next.invariant.tied;
      passed = rw c.next-next.ensures.next
          (StartBelow-one c.args.held.now c.loop-next.invariant.tied c.in-Some.id live c.value.result c.value.ensures c.args.range.now.start c.loop-next.last c.if-value-range.false passed);
    }

pub returns-clause-place : goal.returns-clause-place
returns-clause-place c = place_at_end c.args.held.now c.args.range.now c.loop-next.last (rw c.in_default.is at c.loop-next.invariant.passed)
