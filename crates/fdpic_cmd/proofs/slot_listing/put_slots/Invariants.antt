use Rattle.std.proofs.Common.{◌≡◌, ◌++◌, drop}
use Rattle.load_state.specs.Slots.{slots_of_module}
use Rattle.fd_base.specs.Fields.{numbered}
use Rattle.fdpic_cmd.specs.Slots.{slot_line, module_lines}
use Rattle.fdpic_cmd.proofs.slot_listing.put_slots.Given as goal

-- what is put so far and the lines that are left make the whole
abbrev pub invariant-loop-k : goal.invariant-loop-k
invariant-loop-k l =
    l.out ++ numbered (slot_line l.m) l.k (drop l.k (slots_of_module l.loader.loaded.modules.process l.loader.loaded.modules.maps l.m))
    ≡ l.fn.out ++ module_lines l.loader.loaded.modules.process l.loader.loaded.modules.maps l.m
