use Rattle.std.proofs.Common.{arith}
use Rattle.byteorder.specs.Endian.{little_bytes}
use Rattle.fd_base.proofs.Putting.{put_rest}
use Rattle.fd_base.proofs.words.put_word.Goals as goal

pub returns : goal.returns
returns c = put_rest c.args.bytes.now (little_bytes 4 c.args.v) c.write_u32.new.buf c.args.at (omega arith) c.write_u32.ensures
