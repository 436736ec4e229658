use Rattle.std.proofs.Common.{◌≡◌, ◌++◌, length, take, drop}
use Rattle.fd_base.specs.Texts.{shown}
use Rattle.fd_base.proofs.text.put_shown_bytes.Given as goal

-- what is put so far and what is left make the whole, behind what was there
abbrev pub invariant-loop-byte : goal.invariant-loop-byte
invariant-loop-byte l = record {
  whole : l.out ++ shown (drop l.byte-index l.bytes) ≡ l.fn.out ++ shown l.bytes;
  before : take (length l.fn.out) l.out ≡ l.fn.out;
}
