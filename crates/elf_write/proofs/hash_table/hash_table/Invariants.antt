use Rattle.std.proofs.Common.{◌≡◌, map, get_or}
use Rattle.std.specs.List.{range_with_len}
use Rattle.elf_write.specs.HashTable.{newest, buckets}
use Rattle.elf_write.proofs.hash_table.hash_table.Given as goal

abbrev pub invariant-loop-k : goal.invariant-loop-k
invariant-loop-k l = record {
  heads : l.heads.items ≡ map (λ bucket. newest (buckets l.symbols) bucket l.k) (range_with_len 0 l.count);
  chains : l.chains.items ≡ map (λ k. newest (buckets l.symbols) (get_or (buckets l.symbols) k 0) k) (range_with_len 0 l.k);
}
