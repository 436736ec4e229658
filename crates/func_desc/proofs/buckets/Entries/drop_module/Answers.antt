use Rattle.std.proofs.Common.{◌≡◌, ap, ◌∙◌, subst}
use Rattle.std.specs.Prelude.{filter, None}
use Rattle.func_desc.specs.parts.Inside.{is_of_another, AreMarked}
use Rattle.func_desc.specs.parts.Buckets.{values}
use Rattle.func_desc.specs.parts.Slots.{Slots}
use Rattle.func_desc.proofs.Leaving.{IsLeft, here, left_live, smaller_goes, smaller_stays, IsLeft-goes, IsLeft-stays, bucketed-without, left_values, left_marked}
use Rattle.func_desc.proofs.buckets.Entries.drop_module.Goals as goal

pub next-at-requires : goal.next-at-requires
next-at-requires c =
    let h = here c.args.number c.loop-at.slots.base c.self.inside.nodes c.loop-at.self-inside.nodes c.loop-at.slots.marks c.loop-at.at c.in-Some.id c.in-Some.is c.loop-at.invariant.left in
    left_live _ _ _ _ _ _ h

pub value-addr-requires : goal.value-addr-requires
value-addr-requires c =
    let h = here c.args.number c.loop-at.slots.base c.self.inside.nodes c.loop-at.self-inside.nodes c.loop-at.slots.marks c.loop-at.at c.in-Some.id c.in-Some.is c.loop-at.invariant.left in
    left_live _ _ _ _ _ _ h

pub remove-requires : goal.remove-requires
remove-requires c =
    let h = here c.args.number c.loop-at.slots.base c.self.inside.nodes c.loop-at.self-inside.nodes c.loop-at.slots.marks c.loop-at.at c.in-Some.id c.in-Some.is c.loop-at.invariant.left in
    left_live _ _ _ _ _ _ h

pub loop-at-smaller-then-own-number : goal.loop-at-smaller-then-own-number
loop-at-smaller-then-own-number c =
    let h = here c.args.number c.loop-at.slots.base c.self.inside.nodes c.loop-at.self-inside.nodes c.loop-at.slots.marks c.loop-at.at c.in-Some.id c.in-Some.is c.loop-at.invariant.left in
    rw (c.remove.ensures.removed, c.in-Some.is) (smaller_goes _ _ _ _ _ _ h c.next-at.result c.next-at.ensures.next c.value-addr.result c.value-addr.ensures c.if-own-number.true)

pub loop-at-preserved-then-own-number : goal.loop-at-preserved-then-own-number
loop-at-preserved-then-own-number c =
    let h = here c.args.number c.loop-at.slots.base c.self.inside.nodes c.loop-at.self-inside.nodes c.loop-at.slots.marks c.loop-at.at c.in-Some.id c.in-Some.is c.loop-at.invariant.left in
    let l = c.loop-at.invariant in
    record {
      left = rw c.remove.ensures.removed (IsLeft-goes _ _ _ _ _ _ h c.next-at.result c.next-at.ensures.next c.value-addr.result c.value-addr.ensures c.if-own-number.true);
      bucketed = rw c.remove.ensures.removed (bucketed-without c.loop-at.self-inside.buckets c.loop-at.self-inside.nodes c.in-Some.id l.bucketed);
      stays = l.stays;
      count = l.count;
    }

pub loop-at-smaller : goal.loop-at-smaller
loop-at-smaller c =
    let h = here c.args.number c.loop-at.slots.base c.self.inside.nodes c.loop-at.self-inside.nodes c.loop-at.slots.marks c.loop-at.at c.in-Some.id c.in-Some.is c.loop-at.invariant.left in
    rw c.in-Some.is (smaller_stays _ _ _ _ _ _ h c.next-at.result c.next-at.ensures.next c.value-addr.result c.value-addr.ensures c.if-own-number.false)

pub loop-at-preserved : goal.loop-at-preserved
loop-at-preserved c =
    let h = here c.args.number c.loop-at.slots.base c.self.inside.nodes c.loop-at.self-inside.nodes c.loop-at.slots.marks c.loop-at.at c.in-Some.id c.in-Some.is c.loop-at.invariant.left in
    let l = c.loop-at.invariant in
    let with : Slots → Slots = λ s. record { base = s.base; marks = c.mark.new.self.marks; free = s.free } in
    let base : c.mark.new.self.base ≡ c.loop-at.slots.base = ap (λ s. s.base) c.mark.ensures.stays in
    record {
      left = rw base (IsLeft-stays _ _ _ _ _ _ h c.next-at.result c.next-at.ensures.next c.value-addr.result c.value-addr.ensures c.if-own-number.false c.mark.new.self.marks c.mark.ensures.count c.mark.ensures.marked);
      bucketed = l.bucketed;
      stays = c.mark.ensures.stays ∙ ap with l.stays;
      count = c.mark.ensures.count ∙ l.count;
    }

pub returns-clause-entries : goal.returns-clause-entries
returns-clause-entries c =
    let left : IsLeft c.args.number c.loop-at.slots.base c.self.inside.nodes c.loop-at.self-inside.nodes c.loop-at.slots.marks None = rw c.in_default.is at c.loop-at.invariant.left in
    left_values _ _ _ _ _ left ∙ ap (λ e. filter (is_of_another c.args.number) e.entries) c.self.view_is

pub returns-clause-marked : goal.returns-clause-marked
returns-clause-marked c =
    let left : IsLeft c.args.number c.loop-at.slots.base c.self.inside.nodes c.loop-at.self-inside.nodes c.loop-at.slots.marks None = rw c.in_default.is at c.loop-at.invariant.left in
    let base : c.loop-at.slots.base ≡ c.args.slots.now.base = ap (λ s. s.base) c.loop-at.invariant.stays ∙ ap (λ s. s.base) c.unmark.ensures in
    subst (λ b. AreMarked b (values c.loop-at.self-inside.nodes.order) c.loop-at.slots.marks) base (left_marked _ _ _ _ _ left)
