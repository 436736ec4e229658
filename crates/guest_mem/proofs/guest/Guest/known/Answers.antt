use Rattle.std.proofs.Common.{◌≡◌, ◌/◌, List, get_or, ap, subst, ◌∙◌, arith}
use Rattle.guest_mem.specs.Memory.{GuestMemory}
use Rattle.guest_mem.specs.declared.tags.WordTag.{WordTag}
use Rattle.guest_mem.specs.declared.tags.WordTag.TheVariants.{Mixed}
use Rattle.guest_mem.specs.parts.Tags.{Knows}
use Rattle.guest_mem.proofs.Tagged.{Knows-tag, Knows-shared}
use Rattle.guest_mem.proofs.guest.Guest.known.Goals as goal

pub returns-then-within-le4 : goal.returns-then-within-le4
returns-then-within-le4 c =
    let tag : c.tag_at.result ≡ get_or c.self.inside.tags.items (c.args.addr / 4) Mixed = c.tag_at.ensures ∙ ap (λ (ts : List WordTag). get_or ts (c.args.addr / 4) Mixed) c.deref.ensures.value in
    subst (λ (m : GuestMemory). Knows c.tag_at.result c.args.width c.args.count m c.args.addr) c.self.view_is
    (rw tag (Knows-tag c.self.inside.tags.items _ c.args.width c.args.count c.args.addr (omega arith) (omega arith) c.self.invariant.tags))

pub returns-else-within-le4 : goal.returns-else-within-le4
returns-else-within-le4 c =
    subst (λ (m : GuestMemory). Knows c.shared_tag.result c.args.width c.args.count m c.args.addr) c.self.view_is
    (Knows-shared c.self.inside.tags.items c.shared_tag.result _ c.args.width c.args.count c.args.addr (omega arith) (rw c.deref-else-within-le4.ensures.value at c.shared_tag.ensures) c.self.invariant.tags)
