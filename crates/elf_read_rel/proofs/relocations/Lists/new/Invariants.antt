use Rattle.std.proofs.Common.{◌≡◌, [], length, All}
use Rattle.elf_read_rel.proofs.relocations.Lists.new.Given as goal

abbrev pub invariant-loop : goal.invariant-loop
invariant-loop l = record {
  as_many : length l.rels.items ≡ l.counter;
  empty : All (λ rs. rs ≡ []) l.rels.items;
}
