use Rattle.std.proofs.Common.{◌≡◌, ◌+◌, ◌^◌, ◌<◌, None, length, All}
use Rattle.elf_model.specs.Test.{first_failing, each_below}
use Rattle.elf_model.specs.Segments as spec
use Rattle.elf_read.proofs.segments.loads.Given as goal

abbrev pub invariant-loop-i : goal.invariant-loop-i
invariant-loop-i l = record {
  passed : first_failing (each_below l.i (spec.program_header_test l.bytes)) ≡ None;
  in_file : All (λ h. spec.InFile (length l.bytes) h) l.loads.items;
  below : All (λ h. h.vaddr + h.memsz < 2 ^ 32) l.loads.items;
  found : l.loads.items ≡ spec.loads_below l.bytes l.i;
}
