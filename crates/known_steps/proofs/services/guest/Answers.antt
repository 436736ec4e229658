use Rattle.std.proofs.Common.{◌<◌, ◌∙◌, None, ap, arith}
use Rattle.std.proofs.lemmas.List.{get_or-replicate}
use Rattle.guest_mem.specs.Memory.{GuestMemory, kind_at}
use Rattle.known_steps.proofs.services.guest.Goals as goal

pub map-requires-clause-free : goal.map-requires-clause-free
map-requires-clause-free c = λ a l h.
    let inside : a < 0x4000 = omega arith in
    ap (λ (m : GuestMemory). kind_at m a) c.in_ok-guest.ensures ∙ get_or-replicate 0x4000 a None None inside
