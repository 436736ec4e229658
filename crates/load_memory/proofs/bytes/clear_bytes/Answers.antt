use Rattle.std.proofs.Common.{◌≡◌, ◌+◌, List, ℕ, [], ◌∷◌, length, ap, ◌∙◌, arith}
use Rattle.guest_mem.specs.Memory.{GuestMemory}
use Rattle.guest_mem.specs.Accesses.{with_bytes}
use Rattle.guest_mem.proofs.Pasted.{length-filled, filled-more}
use Rattle.load_memory.proofs.bytes.clear_bytes.Goals as goal

pub poke-requires : goal.poke-requires
poke-requires c =
    let size : length c.loop-i.guest.bytes ≡ length c.args.guest.now.bytes = ap (λ (m : GuestMemory). length m.bytes) c.loop-i.invariant ∙ length-filled c.args.guest.now.bytes c.args.addr c.loop-i.i 0 in
    omega arith

pub loop-i-preserved : goal.loop-i-preserved
loop-i-preserved c =
    c.poke.ensures ∙ ap (λ (m : GuestMemory). with_bytes m (c.args.addr + c.loop-i.i) (0 ∷ [])) c.loop-i.invariant
    ∙ ap (λ (bytes : List ℕ). record c.args.guest.now { bytes = bytes }) (filled-more c.args.guest.now.bytes c.args.addr c.loop-i.i 0)
