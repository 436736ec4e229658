use Rattle.std.proofs.Common.{◌≡◌, take}
use Rattle.std.specs.Option.{option_or}
use Rattle.elf_model.specs.declared.func.Func.{Func}
use Rattle.load_model.specs.Descriptors.{listed_addr}
use Rattle.load_image.specs.parts.Table.{hashed_addr}
use Rattle.load_image.proofs.hashed.enter_all.Given as goal

-- those so far are entered
abbrev pub invariant-loop-entry : goal.invariant-loop-entry
invariant-loop-entry l = (q : Func) → hashed_addr l.table q ≡ option_or (hashed_addr l.initial.table q) (listed_addr (take l.entry-index l.entries) q)
