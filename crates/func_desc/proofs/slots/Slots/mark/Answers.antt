use Rattle.std.proofs.Common.{◌≢◌, ◌<◌, refl, sym, ap, ◌∙◌, length, arith}
use Rattle.std.proofs.lemmas.Bool.{ne_eqb}
use Rattle.func_desc.specs.Pool.{slot_addr}
use Rattle.func_desc.proofs.slots.Slots.mark.Goals as goal

pub returns-in_default-clause-marked : goal.returns-in_default-clause-marked
returns-in_default-clause-marked c i lt =
    let apart = rw c.in_default.is at c.slot_at.ensures in
    let within : i < length c.self.inside.marks.items = rw (← ap (λ s. length s.marks) c.self.view_is) at lt in
    let differ : c.args.addr ≢ slot_addr c.args.self.now.base i = λ same. apart i (omega (arith, within, c.len.ensures, c.self.inside.marks.ok)) (same ∙ ap (λ s. slot_addr s.base i) (sym c.self.view_is)) in
    rw (ne_eqb c.args.addr (slot_addr c.args.self.now.base i) differ) refl
