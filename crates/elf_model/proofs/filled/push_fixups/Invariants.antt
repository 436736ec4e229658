use Rattle.std.proofs.Common.{◌≡◌, ◌++◌, map, take}
use Rattle.elf_model.specs.Filled.{fixup_at}
use Rattle.elf_model.proofs.filled.push_fixups.Given as goal

-- the sites of the fixups so far
abbrev pub invariant-loop-fixup : goal.invariant-loop-fixup
invariant-loop-fixup l = l.sites ≡ l.initial.sites ++ map fixup_at (take l.fixup-index l.fixups)
