use Rattle.std.proofs.Common.{◌≡◌, ◌+◌, ◌-◌, filter, ap, sym, ◌∙◌, subst, length, arith}
use Rattle.std.specs.FinMap.{len}
use Rattle.func_desc.specs.Pool.{free_slots}
use Rattle.func_desc.specs.parts.Dropped.{AreDropped}
use Rattle.func_desc.specs.parts.Inside.{addrs_of, is_of_another, AreMarked}
use Rattle.func_desc.proofs.Entered.{dropped, entered_len}
use Rattle.func_desc.proofs.Kept.{kept_free, kept_dropped, kept_grows}
use Rattle.func_desc.proofs.pool.DescPool.drop_module.Goals as goal

pub invariant_of-self : goal.invariant_of-self
invariant_of-self c =
    let s = c.self.inside in
    let d = c.drop_module in
    let base : d.new.slots.base ≡ s.slots.base = ap (λ slots. slots.base) d.ensures.stays in
    let marked : AreMarked s.slots.base (filter (is_of_another c.args.number) s.entries.entries) d.new.slots.marks = rw d.ensures.entries at d.ensures.marked in
    rw (c.free_unmarked.ensures, base, d.ensures.entries)
    (kept_dropped s.slots.base (length s.slots.marks) s.entries.entries s.slots.free s.entries.spare c.self.invariant c.args.number d.new.slots.marks d.new.self.spare d.ensures.count marked
    (ap (λ es. d.new.self.spare + length es) (sym d.ensures.entries) ∙ d.ensures.spare))

pub returns-clause-dropped : goal.returns-clause-dropped
returns-clause-dropped c =
    let es = c.self.inside.entries.entries in
    rw c.drop_module.ensures.entries (subst (λ p. AreDropped c.args.number p.addrs (addrs_of (filter (is_of_another c.args.number) es))) c.self.view_is (dropped c.args.number es))

pub returns-clause-room : goal.returns-clause-room
returns-clause-room c =
    let s = c.self.inside in
    let room = s.entries.spare - length s.slots.free in
    let free : s.slots.free ≡ free_slots c.args.self.now = kept_free s.slots.base (length s.slots.marks) s.entries.entries s.slots.free s.entries.spare c.self.invariant room ∙ ap free_slots c.self.view_is in
    let u = c.free_unmarked.new.self in
    let e = c.drop_module.new.self in
    let kept = invariant_of-self c in
    let now_free = kept_free u.base (length u.marks) e.entries u.free e.spare kept (e.spare - length u.free) in
    let had : len (addrs_of s.entries.entries) ≡ len c.args.self.now.addrs = ap (λ p. len p.addrs) c.self.view_is in
    omega (arith, ap length now_free, kept.room, entered_len e.entries kept.once, ap length free, had, entered_len s.entries.entries c.self.invariant.once, ap (λ p. p.room) c.self.view_is, c.self.invariant.room, c.drop_module.ensures.spare)

pub returns-clause-grows : goal.returns-clause-grows
returns-clause-grows c =
    let s = c.self.inside in
    let d = c.drop_module in
    let base : d.new.slots.base ≡ s.slots.base = ap (λ slots. slots.base) d.ensures.stays in
    let marked : AreMarked s.slots.base (filter (is_of_another c.args.number) s.entries.entries) d.new.slots.marks = rw d.ensures.entries at d.ensures.marked in
    rw (c.free_unmarked.ensures, base, ← ap (λ p. p.room) c.self.view_is)
    (kept_grows s.slots.base (length s.slots.marks) s.entries.entries s.slots.free s.entries.spare c.self.invariant c.args.number d.new.slots.marks d.new.self.spare d.ensures.count marked
    (ap (λ es. d.new.self.spare + length es) (sym d.ensures.entries) ∙ d.ensures.spare))
