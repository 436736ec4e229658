use Rattle.std.proofs.Common.{◌≡◌, map}
use Rattle.std.specs.List.{range_with_len}
use Rattle.fd_base.specs.Words.{word_in}
use Rattle.elf_model.specs.Sections.{rofixup_offset}
use Rattle.elf_read.proofs.sections.fixups_of.Given as goal

abbrev pub invariant-loop-k : goal.invariant-loop-k
invariant-loop-k l = l.fixups ≡ map (λ k. word_in l.bytes (rofixup_offset l.bytes l.i k)) (range_with_len 0 l.k)
