use Rattle.std.proofs.Common.{◌≡◌, take}
use Rattle.std.specs.Prelude.{fold}
use Rattle.elf_model.specs.Hashed.{step}
use Rattle.elf_model.proofs.symbol_hash.hash.Given as goal

abbrev pub invariant-loop-c : goal.invariant-loop-c
invariant-loop-c l = l.h ≡ fold step 0 (take l.c-index l.name)
