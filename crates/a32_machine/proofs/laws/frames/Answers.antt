use Rattle.a32_machine.proofs.Framing.{step_of-frames}
use Rattle.a32_machine.proofs.laws.frames.Goals as goal

pub returns : goal.returns
returns c = step_of-frames
