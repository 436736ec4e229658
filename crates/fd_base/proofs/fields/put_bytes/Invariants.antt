use Rattle.std.proofs.Common.{◌≡◌, ◌++◌, drop}
use Rattle.hex.specs.Hex.{encode_lower}
use Rattle.fd_base.proofs.fields.put_bytes.Given as goal

abbrev pub invariant-loop-byte : goal.invariant-loop-byte
invariant-loop-byte l = l.out ++ encode_lower (drop l.byte-index l.bytes) ≡ l.fn.out ++ encode_lower l.bytes
