use Rattle.std.proofs.Common.{◌≡◌, ◌-◌, ◌<◌, None, ap, sym, ◌∙◌, subst, length, arith}
use Rattle.std.specs.FinMap.{get, find}
use Rattle.func_desc.specs.Functions.{func_cmp}
use Rattle.func_desc.specs.Pool.{IsSlot, free_slots}
use Rattle.func_desc.proofs.Entered.{entered_get}
use Rattle.func_desc.proofs.Kept.{kept_free, kept_adopted}
use Rattle.func_desc.proofs.pool.DescPool.adopt.Goals as goal

pub invariant_of-self : goal.invariant_of-self
invariant_of-self c =
    let s = c.self.inside in
    let none : find func_cmp c.args.f.now s.entries.entries ≡ None = sym (entered_get s.entries.entries c.args.f.now) ∙ ap (λ p. get p.addrs c.args.f.now) c.self.view_is ∙ c.requires.fresh in
    let more : length s.slots.free < s.entries.spare = omega (arith, c.requires.room, ap (λ p. p.room) c.self.view_is) in
    rw c.enter.ensures
    (kept_adopted s.slots.base (length s.slots.marks) s.entries.entries s.slots.free s.entries.spare c.self.invariant c.args.f.now c.args.addr (s.entries.spare - length s.slots.free) none
    (λ g e. c.requires.unused g (sym (ap (λ p. get p.addrs g) c.self.view_is) ∙ e)) (λ slot. c.requires.no_slot (subst (λ p. IsSlot p c.args.addr) c.self.view_is slot)) more)

pub returns-clause-free : goal.returns-clause-free
returns-clause-free c =
    let s = c.self.inside in
    let room = s.entries.spare - length s.slots.free in
    let free : s.slots.free ≡ free_slots c.args.self.now = kept_free s.slots.base (length s.slots.marks) s.entries.entries s.slots.free s.entries.spare c.self.invariant room ∙ ap free_slots c.self.view_is in
    let room' = c.enter.new.self.spare - length s.slots.free in
    sym (kept_free s.slots.base (length s.slots.marks) c.enter.new.self.entries s.slots.free c.enter.new.self.spare (invariant_of-self c) room') ∙ free
