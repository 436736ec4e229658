use Rattle.std.proofs.Common.{◌≡◌, Option, Some, None, length, inl, inr, ap, ◌∙◌, arith}
use Rattle.std.proofs.lemmas.List.{get_or-replicate, length-replicate}
use Rattle.guest_mem.specs.declared.kind.MemKind.{MemKind}
use Rattle.guest_mem.specs.declared.kind.MemKind.TheVariants.{Code, Data, Fixed}
use Rattle.guest_mem.specs.Memory.{GuestMemory, kind_at}
use Rattle.guest_mem.proofs.Pasted.{length-filled}
use Rattle.guest_mem.proofs.Ranged.{kind_at-with_kind_other, kind_at-with_kind_there}
use Rattle.known_steps.proofs.memory.guest.Goals as goal

pub map-requires-2-clause-free : goal.map-requires-2-clause-free
map-requires-2-clause-free c = λ a l h.
    ap (λ (m : GuestMemory). kind_at m a) c.map.ensures
    ∙ kind_at-with_kind_other c.in_ok-guest.guest 0 16 (Some Code) a (inr (omega arith))
    ∙ ap (λ (m : GuestMemory). kind_at m a) c.in_ok-guest.ensures
    ∙ get_or-replicate 64 a None None (omega arith)

pub map-requires-3-clause-free : goal.map-requires-3-clause-free
map-requires-3-clause-free c = λ a l h.
    ap (λ (m : GuestMemory). kind_at m a) c.map-2.ensures
    ∙ kind_at-with_kind_other c.map.new.self 16 16 (Some Data) a (inr (omega arith))
    ∙ ap (λ (m : GuestMemory). kind_at m a) c.map.ensures
    ∙ kind_at-with_kind_other c.in_ok-guest.guest 0 16 (Some Code) a (inr (omega arith))
    ∙ ap (λ (m : GuestMemory). kind_at m a) c.in_ok-guest.ensures
    ∙ get_or-replicate 64 a None None (omega arith)

pub watch-requires-clause-data_there : goal.watch-requires-clause-data_there
watch-requires-clause-data_there c =
    let size : length c.map.new.self.kinds ≡ 64 =
    ap (λ (m : GuestMemory). length m.kinds) c.map.ensures
    ∙ length-filled c.in_ok-guest.guest.kinds 0 16 (Some Code)
    ∙ ap (λ (m : GuestMemory). length m.kinds) c.in_ok-guest.ensures ∙ length-replicate {A = Option MemKind} 64 None in
    λ a l h.
    ap (λ (m : GuestMemory). kind_at m a) c.map-3.ensures
    ∙ kind_at-with_kind_other c.map-2.new.self 32 8 (Some Fixed) a (inl (omega arith))
    ∙ ap (λ (m : GuestMemory). kind_at m a) c.map-2.ensures
    ∙ kind_at-with_kind_there c.map.new.self 16 16 (Some Data) a (omega arith) (omega arith) (omega arith)
