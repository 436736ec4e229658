use Rattle.std.proofs.Common.{◌≡◌, ◌+◌, ◌*◌, length, drop}
use Rattle.guest_mem.specs.Accesses.{with_bytes}
use Rattle.load_model.specs.Layout.{bytes_of_words}
use Rattle.load_memory.proofs.bytes.fill_words.Given as goal

-- the rest of the words are still to be put
abbrev pub invariant-loop-word : goal.invariant-loop-word
invariant-loop-word l = record {
  rest : with_bytes l.guest l.at (bytes_of_words (drop l.word-index l.words)) ≡ with_bytes l.fn.guest l.addr (bytes_of_words l.words);
  place : l.at ≡ l.addr + 4 * l.word-index;
  size : length l.guest.bytes ≡ length l.fn.guest.bytes;
}
