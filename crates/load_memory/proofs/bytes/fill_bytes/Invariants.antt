use Rattle.std.proofs.Common.{◌≡◌, ◌+◌, length, drop}
use Rattle.guest_mem.specs.Accesses.{with_bytes}
use Rattle.load_memory.proofs.bytes.fill_bytes.Given as goal

-- the rest of the bytes are still to be put
abbrev pub invariant-loop-byte : goal.invariant-loop-byte
invariant-loop-byte l = record {
  rest : with_bytes l.guest l.at (drop l.byte-index l.bytes) ≡ with_bytes l.fn.guest l.addr l.bytes;
  place : l.at ≡ l.addr + l.byte-index;
  size : length l.guest.bytes ≡ length l.fn.guest.bytes;
}
