use Rattle.std.proofs.Common.{◌≡◌, ◌-◌, None, drop, ap, sym, ◌∙◌, length}
use Rattle.std.specs.Prelude.{slice_get}
use Rattle.std.specs.Option.{option_or}
use Rattle.std.specs.FinMap.{get, find}
use Rattle.func_desc.specs.Functions.{func_cmp}
use Rattle.func_desc.specs.Pool.{free_slots}
use Rattle.func_desc.proofs.Entered.{entered_get}
use Rattle.func_desc.proofs.Kept.{kept_free, kept_given, if_none}
use Rattle.func_desc.proofs.pool.DescPool.ensure.Goals as goal

pub returns-in_default-take-clause-full : goal.returns-in_default-take-clause-full
returns-in_default-take-clause-full c =
    let s = c.self.inside in
    let room = s.entries.spare - length s.slots.free in
    let free : s.slots.free ≡ free_slots c.args.self.now = kept_free s.slots.base (length s.slots.marks) s.entries.entries s.slots.free s.entries.spare c.self.invariant room ∙ ap free_slots c.self.view_is in
    ap (λ o. option_or o (slice_get (free_slots c.args.self.now) 0)) (sym c.in_default.ensures.value) ∙ ap (λ l. slice_get l 0) (sym free) ∙ sym c.in_default-take.ensures.lowest

pub invariant_of-self-2 : goal.invariant_of-self-2
invariant_of-self-2 c =
    let s = c.self.inside in
    let none : find func_cmp c.args.f.now s.entries.entries ≡ None = sym (entered_get s.entries.entries c.args.f.now) ∙ ap (λ p. get p.addrs c.args.f.now) c.self.view_is ∙ sym c.in_default.ensures.value in
    rw (c.take.ensures.rest, c.enter.ensures)
    (kept_given s.slots.base (length s.slots.marks) s.entries.entries s.slots.free s.entries.spare c.self.invariant c.args.f.now c.in-Some-take.addr none (sym c.in-Some-take.ensures.lowest))

pub returns-clause-address : goal.returns-clause-address
returns-clause-address c =
    let s = c.self.inside in
    let room = s.entries.spare - length s.slots.free in
    let free : s.slots.free ≡ free_slots c.args.self.now = kept_free s.slots.base (length s.slots.marks) s.entries.entries s.slots.free s.entries.spare c.self.invariant room ∙ ap free_slots c.self.view_is in
    ap (λ o. option_or o (slice_get (free_slots c.args.self.now) 0)) (sym c.in_default.ensures.value) ∙ ap (λ l. slice_get l 0) (sym free) ∙ sym c.in-Some-take.ensures.lowest

pub returns-clause-rest : goal.returns-clause-rest
returns-clause-rest c =
    let s = c.self.inside in
    let room = s.entries.spare - length s.slots.free in
    let free : s.slots.free ≡ free_slots c.args.self.now = kept_free s.slots.base (length s.slots.marks) s.entries.entries s.slots.free s.entries.spare c.self.invariant room ∙ ap free_slots c.self.view_is in
    let t = c.take.new.self in
    let e = c.enter.new.self in
    if_none (get c.args.self.now.addrs c.args.f.now) _
    (sym (kept_free t.base (length t.marks) e.entries t.free e.spare (invariant_of-self-2 c) (e.spare - length t.free)) ∙ ap (λ slots. slots.free) c.take.ensures.rest ∙ ap (drop 1) free)
