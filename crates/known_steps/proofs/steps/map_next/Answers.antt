use Rattle.std.proofs.Common.{◌≡◌, Some, length, inr, ap, ◌∙◌, arith}
use Rattle.guest_mem.specs.Memory.{GuestMemory, kind_at}
use Rattle.guest_mem.proofs.Ranged.{kind_at-with_kind_there, kind_at-with_kind_other}
use Rattle.known_steps.proofs.steps.map_next.Goals as goal

pub returns-clause-there : goal.returns-clause-there
returns-clause-there c =
    let kinds : length c.args.guest.now.kinds ≡ length c.args.guest.now.bytes = c.whole.ensures.whole.kinds in
    λ a l h.
    ap (λ (m : GuestMemory). kind_at m a) c.map.ensures
    ∙ kind_at-with_kind_there c.args.guest.now c.args.start c.args.len (Some c.args.kind) a (omega (arith, c.requires.inside)) l h

pub returns-clause-free : goal.returns-clause-free
returns-clause-free c = λ a l.
    ap (λ (m : GuestMemory). kind_at m a) c.map.ensures
    ∙ kind_at-with_kind_other c.args.guest.now c.args.start c.args.len (Some c.args.kind) a (inr l) ∙ c.requires.free a (omega arith)
