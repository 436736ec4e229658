use Rattle.std.proofs.Common.{◌≡◌, ℕ, ◌%◌, ◌^◌, ◌<◌, ◌≤◌, take, get_or, length}
use Rattle.std.specs.List.{filter, range_with_len}
use Rattle.a32_isa.specs.Registers.{is_listed}
use Rattle.a32_machine.proofs.multiple.registers_of.Given as goal

abbrev pub invariant-loop-k : goal.invariant-loop-k
invariant-loop-k l = record {
  so_far : take l.count l.places ≡ filter (is_listed l.list) (range_with_len 0 l.k);
  size : length l.places ≡ 16;
  few : l.count ≤ l.k;
  some : l.count ≡ 0 → l.list % 2 ^ l.k ≡ 0;
  registers : (k : ℕ) → get_or l.places k 0 < 16;
}
