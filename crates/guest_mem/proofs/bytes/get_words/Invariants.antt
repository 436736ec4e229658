use Rattle.std.proofs.Common.{◌≡◌, ◌+◌, ◌*◌, take}
use Rattle.guest_mem.specs.Accesses.{words_in}
use Rattle.guest_mem.proofs.bytes.get_words.Given as goal

abbrev pub invariant-loop-value : goal.invariant-loop-value
invariant-loop-value l = record {
  read : take l.value-index l.values ≡ words_in l.bytes l.at l.value-index;
  place : l.from ≡ l.at + 4 * l.value-index;
}
