use Rattle.std.proofs.Common.{arith}
use Rattle.std.specs.List.{flat_map}
use Rattle.byteorder.specs.Endian.{little_bytes}
use Rattle.guest_mem.proofs.Pasted.{put_mid-pasted}
use Rattle.guest_mem.proofs.Words.{length-words}
use Rattle.guest_mem.proofs.bytes.put_words.Goals as goal

pub returns : goal.returns
returns c =
    let size = length-words c.args.values.now in
    put_mid-pasted c.args.at _ c.args.bytes.now c.write_u32_into.new.dst (flat_map (little_bytes 4) c.args.values.now) c.write_u32_into.ensures (omega (arith, size)) (omega (arith, size))
