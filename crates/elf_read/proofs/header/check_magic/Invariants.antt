use Rattle.std.proofs.Common.{◌≡◌, None}
use Rattle.elf_model.specs.Test.{first_failing, each_below}
use Rattle.elf_model.specs.Header.{ident_test}
use Rattle.elf_read.proofs.header.check_magic.Given as goal

abbrev pub invariant-loop-i : goal.invariant-loop-i
invariant-loop-i l = first_failing (each_below l.i (ident_test l.bytes)) ≡ None
