use Rattle.std.proofs.Common.{arith}
use Rattle.guest_mem.proofs.Pasted.{put_mid-pasted}
use Rattle.guest_mem.proofs.bytes.paste.Goals as goal

pub returns : goal.returns
returns c = put_mid-pasted c.args.at _ c.args.bytes.now c.copy_from_slice.new.self c.args.new.now c.copy_from_slice.ensures.after (omega arith) c.requires
