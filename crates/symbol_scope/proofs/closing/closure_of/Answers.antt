use Rattle.std.proofs.Common.{◌≡◌, ◌≤◌, ◌<◌, ◌∷◌, [], arith, length}
use Rattle.std.specs.Prelude.{nat_eq}
use Rattle.symbol_scope.specs.Closure.{with_new}
use Rattle.symbol_scope.specs.parts.Needs.{needs}
use Rattle.symbol_scope.proofs.Marking.{order_more, reached_more, length_more, first_reached, closed}
use Rattle.symbol_scope.proofs.closing.closure_of.Goals as goal

pub loop-next-init : goal.loop-next-init
loop-next-init c =
    let e : c.add_new.new.found.items ≡ c.args.root ∷ [] = rw c.new-found.ensures.items at c.in_ok-add_new.ensures.found in
    record { within = omega arith; order = e; reached = first_reached _ _ _ e; marked = c.in_ok-add_new.ensures.marked }

pub loop-next-preserved : goal.loop-next-preserved
loop-next-preserved c =
    let step : c.add_named.new.found.items ≡ with_new nat_eq c.loop-next.found.items (needs c.args.slots.now c.index-number.result.now) = rw c.needed_by.ensures at c.in_ok-add_named.ensures.found in
    let lt : c.loop-next.next < length c.loop-next.found.items = omega (arith, c.len.ensures, c.loop-next.found.ok.0) in
    let is = c.index-number.ensures in
    record {
      within = length_more nat_eq (needs c.args.slots.now) _ _ _ _ lt step;
      order = order_more nat_eq (needs c.args.slots.now) _ _ _ _ _ lt is c.loop-next.invariant.order step;
      reached = reached_more nat_eq (needs c.args.slots.now) _ _ _ _ _ lt is c.loop-next.invariant.reached step;
      marked = c.in_ok-add_named.ensures.marked;
    }

pub returns : goal.returns
returns c =
    let le : length c.loop-next.found.items ≤ c.loop-next.next = omega (arith, c.len.ensures, c.loop-next.found.ok.0) in
    closed nat_eq _ _ _ _ le c.loop-next.invariant.order c.loop-next.invariant.reached
