-- A new pool of descriptors that has made room.
use Rattle.std.proofs.Common.{◌≡◌, ℕ, None, ap, ◌∙◌}
use Rattle.std.specs.FinMap.{get, empty, get-empty}
use Rattle.elf_model.specs.declared.func.Func.{Func}
use Rattle.func_desc.specs.Functions.{func_cmp}
use Rattle.func_desc.specs.Pool.{Pool}

-- no function has an address in it
pub none_there : (old new : Pool) (base slots room : ℕ) → old ≡ record { base = base; slots = slots; addrs = empty; room = room }
    → new ≡ record old { room = new.room } → (f : Func) → get new.addrs f ≡ None
none_there old new base slots room fresh stays f =
    ap (λ (p : Pool). get p.addrs f) stays ∙ ap (λ (p : Pool). get p.addrs f) fresh ∙ get-empty func_cmp f
